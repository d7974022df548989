-- `delivery::step` meets its contract: the link's state decides, as in the machine.
use native.Mathlib.Omega.{arith}
use Rattle.delivery.specs.Laws.Moves.{step_past, step-offered, step-refused, step_idle}
use Rattle.delivery.proofs.step.Goals as goal

pub returns-then-links_of-k : goal.returns-then-links_of-k
returns-then-links_of-k c = λ n. step_past _ _ _ _ _ _ _ _ _ _ (rw (← c.links_of.ensures) c.if-links_of-k.true)

pub returns-in-1 : goal.returns-in-1
returns-in-1 c = λ n. step-offered _ _ _ _ _ _ _ _ _ _ (rw (← c.links_of.ensures) c.if-links_of-k.false) _ _ c.in-1.is (c.arrive.ensures n)

pub returns-in-3 : goal.returns-in-3
returns-in-3 c = λ n. step-refused _ _ _ _ _ _ _ _ _ _ (rw (← c.links_of.ensures) c.if-links_of-k.false) _ _ c.in-3.is (c.withdraw.ensures n)

pub returns-in-0 : goal.returns-in-0
returns-in-0 c = λ n. step_idle _ _ _ _ _ _ _ _ _ _ (rw (← c.links_of.ensures) c.if-links_of-k.false) (λ e. grind arith) (λ e. grind arith)

pub returns-in-0-2 : goal.returns-in-0-2
returns-in-0-2 c = λ n. step_idle _ _ _ _ _ _ _ _ _ _ (rw (← c.links_of.ensures) c.if-links_of-k.false) (λ e. grind arith) (λ e. grind arith)
