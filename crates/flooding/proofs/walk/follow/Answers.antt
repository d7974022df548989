use mathlib.Core.Path.{◌≡◌}
use native.Mathlib.Omega.{arith}
use Rattle.flooding.specs.Laws.Follow.{following_none, following-turn, following-end, following_full}
use Rattle.flooding.proofs.walk.follow.Goals as goal

pub loop-n-init : goal.loop-n-init
loop-n-init c = λ m. following_none _ _ _ _ _ _ (omega arith)

pub loop-n-preserved : goal.loop-n-preserved
loop-n-preserved c =
    let is = c.links_of-links.ensures in
    λ m. following-turn _ _ _ _ _ _ (c.loop-n.invariant m) _ c.lowest_taken-i.ensures (rw (← is) c.loop-n-test.true) (rw (← is) c.if-links-i.false)

pub returns-then-links-i : goal.returns-then-links-i
returns-then-links-i c = λ m. following-end _ _ _ _ _ _ (c.loop-n.invariant m) (omega arith) _ c.lowest_taken-i.ensures (rw (← c.links_of-links.ensures) c.if-links-i.true)

pub returns : goal.returns
returns c =
    let all : c.loop-n.n ≡ c.links_of-links.result = omega arith in
    λ m. rw (← all) (following_full _ _ _ _ _ _ (c.loop-n.invariant m) (omega arith) (rw (← c.links_of-links.ensures) c.loop-n-test.false))
