-- What owning an old mesh, or reading one that was lent, tells of its fields: they are in the ranges of their types, and there are 256 entries. Assumes nothing.
use mathlib.Core.List.{List}
use lib.Dec.{lit<}
use mir.Val.{Val}
use denote.Laws.{Is}
use denote.Builtin.{Array}
use Rattle.scan.specs.Owned.{items_tell}
use Rattle.legacy.specs.declared.OldMesh.{OldMesh}
use Rattle.legacy.specs.Record.{zero_link}
use Rattle.legacy.specs.WellFormed.{LinkInRange, InRange}
use Rattle.legacy.specs.contracts.OldLink as linkType
use Rattle.legacy.specs.contracts.OldMesh as meshType

zero_in_range : LinkInRange zero_link
zero_in_range = record { low = lit< tt; high = lit< tt; length = lit< tt; pair = lit< tt }

by_array : (m : OldMesh) {vs : List Val} → Is (Array linkType.the_row tt 256) m.links vs → InRange m
by_array m links = record {
  entries = links.1.0.1;
  links = items_tell linkType.the_row LinkInRange zero_link zero_in_range
      (λ l u (_, (_, (low, (high, (length, (pair, _)))))). record { low = low.1; high = high.1; length = length.1; pair = pair.1 }) m.links _ links.1.1;
}

-- where an entry of a mesh that was lent is read, its fields are told, the links first
pub lent_in_range : (m : OldMesh) {vs : List Val} {A : Type 0} → Is (Array linkType.the_row tt 256) m.links vs × A → InRange m
lent_in_range m (links, _) = by_array m links

pub in_range : (m : OldMesh) (vs : List Val) → Is meshType.the_row m vs → InRange m
in_range m vs owned = by_array m owned.1.1.0
