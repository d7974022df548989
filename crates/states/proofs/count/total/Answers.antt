use Prim.Native.Nat.{◌+◌}
use mathlib.Core.Path.{refl, ap, ap₂, ◌∙◌, sym}
use native.Mathlib.Omega.{arith}
use native.Mathlib.Numerals.{add-one}
use Rattle.std.proofs.Common.{get_or-take}
use Rattle.scan.specs.Total.{total, total-next}
use Rattle.states.proofs.count.total.Goals as goal

pub loop-v-init : goal.loop-v-init
unfolding total
loop-v-init g c = (omega arith, refl)

pub loop-v-preserved : goal.loop-v-preserved
loop-v-preserved g c =
    let l = c.loop-v in
    let (is, most) = c.requires.1.1 _ _ c.f-n.ensures in
    let here = is ∙ ap g.value (get_or-take _ c.args.states.now l.v-index 0 (omega arith)) in
    (omega arith, ap₂ ◌+◌ l.invariant.1 here ∙ sym (total-next _ l.v-index) ∙ rw add-one)
