-- What owning a mesh, or reading one that was lent, tells of its fields: they are in the ranges of their types, and there are 256 entries. Assumes nothing.
use Prim.Native.Nat.{◌<◌}
use mathlib.Core.Path.{◌≡◌}
use mathlib.Core.List.{List}
use lib.ListN.{length}
use mir.Val.{Val}
use denote.Laws.{Is}
use denote.Builtin.{Array, u16}
use lib.Dec.{lit<}
use Rattle.scan.specs.Owned.{items_tell}
use Rattle.mesh.specs.declared.Mesh.{Mesh}
use Rattle.mesh.specs.Mesh.{zero_link}
use Rattle.mesh.specs.WellFormed.{LinkInRange, InRange}
use Rattle.mesh.specs.Laws.Zeros.{zero_in_range}
use Rattle.mesh.specs.contracts.Link as linkType
use Rattle.mesh.specs.contracts.Mesh as meshType

module _ (m : Mesh) {vs ws : List Val} (links : Is (Array linkType.the_row tt 256) m.links vs) (ducts : Is (Array u16 tt 256) m.ducts ws) where
  by_arrays : InRange m
  by_arrays = record {
    entries = links.1.0.1;
    links = items_tell linkType.the_row LinkInRange zero_link zero_in_range
        (λ l u (_, (_, (low, (high, (length, (pair, _)))))). record { low = low.1; high = high.1; length = length.1; pair = pair.1 }) m.links _ links.1.1;
    numbers = ducts.1.0.1;
    ducts = items_tell u16 (λ d. d < 65536) 0 (lit< tt) (λ d u q. q.1) m.ducts _ ducts.1.1;
  }

-- where an entry of a mesh that was lent is read, its fields are told, the links first and the duct numbers last
pub lent_in_range : (m : Mesh) {vs ws : List Val} {A B C : Type 0} → Is (Array linkType.the_row tt 256) m.links vs × (A × (B × (Is (Array u16 tt 256) m.ducts ws × C))) → InRange m
lent_in_range m (links, (_, (_, (ducts, _)))) = by_arrays m links ducts

module _ (m : Mesh) (vs : List Val) (owned : Is meshType.the_row m vs) where
  pub in_range : InRange m
  in_range = by_arrays m owned.1.1.0 owned.1.1.1.1.1.0

  pub entries_are : length m.links ≡ 256
  entries_are = in_range.entries

  pub numbers-are : length m.ducts ≡ 256
  numbers-are = in_range.numbers
