use Prim.Native.Nat.{◌+◌, ◌*◌}
use mathlib.Core.Path.{◌≡◌, sym, ◌∙◌}
use native.Mathlib.Omega.{arith}
use Rattle.searches.specs.Laws.Loops.{passed_block}
use Rattle.searches.proofs.lowest_passing.Goals as goal

pub loop-b-preserved : goal.loop-b-preserved
loop-b-preserved g c =
    let l = c.loop-b in
    let next : c.args.from + (l.b + 1) * 16 ≡ c.args.from + l.b * 16 + 16 = omega arith in
    λ p t s. rw next (passed_block (l.invariant p t s) 16 (omega arith) (sym (c.some_within.ensures p (λ i u m. t i u (omega arith))) ∙ c.if-some_within.false))
