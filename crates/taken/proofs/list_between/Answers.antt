use native.Mathlib.Omega.{arith}
use borrow.Author.Tests.{eq-eqb, ne_eqb}
use Rattle.scan.specs.Listed.{listing_le, listing_pass, listing_fail}
use Rattle.taken.proofs.list_between.Goals as goal
use Rattle.taken.proofs.list_between.Goals.{then-states-i-eq-TAKEN, else-states-i-eq-TAKEN}

pub bounds-row-listed : goal.bounds-row-listed
bounds-row-listed c = omega (arith, listing_le c.loop-i.invariant)

pub loop-i-preserved : goal.loop-i-preserved
loop-i-preserved c =
    let s = c.loop-i.invariant in
    elim c.if-states-i-eq-TAKEN.branch [
      | then-states-i-eq-TAKEN w ↦
          rw (w.row-is, w.listed-is) (listing_pass s (omega (arith, listing_le s)) (eq-eqb _ _ w.if-states-i-eq-TAKEN.true))
      | else-states-i-eq-TAKEN w ↦ rw (w.row-is, w.listed-is) (listing_fail s (ne_eqb _ _ w.if-states-i-eq-TAKEN.false))
    ]
