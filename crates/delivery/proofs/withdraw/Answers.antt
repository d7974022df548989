-- `delivery::withdraw` meets its contract: each return is one way through the machine's delivery on a refused link.
use native.Mathlib.Omega.{arith}
use Rattle.delivery.specs.Laws.Moves.{withdraw_source, withdraw-held, withdraw-on, withdraw_last}
use Rattle.delivery.proofs.withdraw.Goals as goal

pub returns-then-a-arcs : goal.returns-then-a-arcs
returns-then-a-arcs c = λ n. withdraw_source _ _ _ _ _ _ _ _ _ _ c.if-a-arcs.true

pub returns-then-some_held : goal.returns-then-some_held
returns-then-some_held c = λ n. withdraw-held _ _ _ _ _ _ _ _ _ _ c.if-a-arcs.false _ c.some_held.ensures c.if-some_held.true

pub returns-then-links_of-j : goal.returns-then-links_of-j
returns-then-links_of-j c =
    λ n. withdraw_last _ _ _ _ _ _ _ _ _ _ c.if-a-arcs.false _ c.some_held.ensures c.if-some_held.false _ c.lowest_taken-j.ensures
    (rw (← c.links_of.ensures) c.if-links_of-j.true)

pub returns : goal.returns
returns c =
    λ n. withdraw-on _ _ _ _ _ _ _ _ _ _ c.if-a-arcs.false _ c.some_held.ensures c.if-some_held.false _ c.lowest_taken-j.ensures
    _ (rw (← c.links_of.ensures) c.if-links_of-j.false) (omega arith, omega arith)
