use native.Mathlib.Omega.{arith}
use mathlib.Core.Path.{◌≡◌, sym, ◌∙◌}
use Rattle.scan.specs.Store.{sets_front}
use Rattle.scan.specs.Listed.{stored_none, stored-le, stored_room, stored_pass, stored_fail}
use Rattle.ducts.specs.Sharing.{sharing}
use Rattle.ducts.proofs.links.list.Goals as goal
use Rattle.ducts.proofs.links.list.Goals.{then-is_shared, else-is_shared}

pub loop-i-init : goal.loop-i-init
loop-i-init c = stored_none _ _

pub offset_bounds-out-n : goal.offset_bounds-out-n
offset_bounds-out-n c = omega (arith, stored-le c.loop-i.invariant)

pub bounds-out-n : goal.bounds-out-n
unfolding sharing
bounds-out-n c = stored_room c.loop-i.invariant c.args.m.now.count c.requires.room c.loop-i-test.true (sym c.is_shared.ensures ∙ c.if-is_shared.true)

pub overflow_add-n : goal.overflow_add-n
overflow_add-n c = omega (arith, stored-le c.loop-i.invariant)

pub loop-i-preserved : goal.loop-i-preserved
loop-i-preserved c =
    let s = c.loop-i.invariant in
    elim c.if-is_shared.branch [
      | then-is_shared w ↦ rw (w.n-is, w.out-is) (stored_pass s (sym c.is_shared.ensures ∙ w.if-is_shared.true))
      | else-is_shared w ↦ rw (w.n-is, w.out-is) (stored_fail s (sym c.is_shared.ensures ∙ w.if-is_shared.false))
    ]

pub returns : goal.returns
unfolding sharing
returns c =
    let l = c.loop-i in
    let e : l.i ≡ c.args.m.now.count = omega arith in
    (rw e at l.invariant).stored ∙ sets_front _ _ c.requires.room
