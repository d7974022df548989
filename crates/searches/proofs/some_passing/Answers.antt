use Prim.Native.Nat.{◌+◌, ◌*◌, ◌/◌}
use mathlib.Core.Path.{◌≡◌, sym, ◌∙◌}
use native.Mathlib.Omega.{arith}
use Rattle.scan.specs.Lowest.{any}
use Rattle.searches.specs.Laws.Loops.{passed_block, stopped_at, any_stopped}
use Rattle.searches.proofs.some_passing.Goals as goal

pub returns-then-some_within : goal.returns-then-some_within
returns-then-some_within g c =
    let l = c.loop-b in
    λ p t. any_stopped (stopped_at (l.invariant p t) 32 (sym (c.some_within.ensures p (λ i u m. t i u (omega arith))) ∙ c.if-some_within.true)) (omega arith)

pub loop-b-preserved : goal.loop-b-preserved
loop-b-preserved g c =
    let l = c.loop-b in
    let next : (l.b + 1) * 32 ≡ l.b * 32 + 32 = omega arith in
    λ p t. rw next (passed_block (l.invariant p t) 32 (omega arith) (sym (c.some_within.ensures p (λ i u m. t i u (omega arith))) ∙ c.if-some_within.false))

pub returns : goal.returns
unfolding any
returns g c =
    let l = c.loop-b in
    let all : l.b ≡ c.args.links / 32 = omega arith in
    λ p t. rw (← c.lowest_from.ensures p (λ i u m. t i u (omega arith)) (rw (← all) (l.invariant p t)))
