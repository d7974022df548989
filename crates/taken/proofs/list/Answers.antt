use Prim.Native.Nat.{◌+◌, ◌*◌}
use mathlib.Core.Path.{◌≡◌, sym, ◌∙◌}
use native.Mathlib.Omega.{arith}
use Rattle.scan.specs.Listed.{listing_none, listing_block}
use Rattle.taken.proofs.list.Goals as goal
use Rattle.taken.proofs.list.Goals.{then-some_taken, else-some_taken}

pub loop-b-init : goal.loop-b-init
loop-b-init c = listing_none _ _

pub loop-b-preserved : goal.loop-b-preserved
loop-b-preserved c =
    let l = c.loop-b in
    let next : (l.b + 1) * 16 ≡ l.b * 16 + 16 = omega arith in
    elim c.if-some_taken.branch [
      | then-some_taken w ↦ rw (w.row-is, w.n-is, next) w.list_between-n.ensures
      | else-some_taken w ↦ rw (w.row-is, w.n-is, next) (listing_block l.invariant 16 (sym c.some_taken.ensures ∙ w.if-some_taken.false))
    ]
