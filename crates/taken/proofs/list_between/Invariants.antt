-- `taken::list_between` meets its contract. The loop keeps that the taken links below i are listed.
use Rattle.scan.specs.Listed.{Listing}
use Rattle.taken.specs.Taken.{is_taken}
use Rattle.taken.proofs.list_between.Given as goal

abbrev pub invariant-loop-i : goal.invariant-loop-i
invariant-loop-i l = Listing (is_taken l.states) l.i l.listed l.row
