-- `taken::list` meets its contract. The loop keeps that the taken links below the block are listed.
use Prim.Native.Nat.{◌*◌}
use Rattle.scan.specs.Listed.{Listing}
use Rattle.taken.specs.Taken.{is_taken}
use Rattle.taken.proofs.list.Given as goal

abbrev pub invariant-loop-b : goal.invariant-loop-b
invariant-loop-b l = Listing (is_taken l.states) (l.b * 16) l.n l.row
