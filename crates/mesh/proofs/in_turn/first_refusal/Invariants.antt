-- `mesh::in_turn::first_refusal` meets its contract. The loop keeps that the answer of all entries is that of those from i on, and that `prev` has
-- the ends of the entry before.
use Prim.Native.Nat.{◌-◌}
use mathlib.Core.Path.{◌≡◌}
use mathlib.Core.List.{◌∷◌}
use Rattle.scan.specs.Entry.{at}
use Rattle.ends.specs.Ends.{low_of, high_of}
use Rattle.mesh.specs.Parts.{entries_answer}
use Rattle.mesh.proofs.in_turn.first_refusal.Given as goal

abbrev pub invariant-loop-i : goal.invariant-loop-i
invariant-loop-i l =
    (l.prev.low ≡ low_of (at (0 ∷ l.ends) l.i)) × (l.prev.high ≡ high_of (at (0 ∷ l.ends) l.i))
    × (entries_answer l.nodes l.ends 0 l.count ≡ entries_answer l.nodes l.ends l.i (l.count - l.i))
