-- `delivery::arrive` meets its contract: each return is one way through the machine's delivery on an offered link.
use mathlib.Core.Path.{sym, ◌∙◌}
use Rattle.delivery.specs.Laws.Moves.{arrive-back, arrive_last, arrive-on, arrive_stuck}
use Rattle.delivery.proofs.arrive.Goals as goal

pub returns-then-is_reached : goal.returns-then-is_reached
returns-then-is_reached c = λ n. arrive-back _ _ _ _ _ _ _ _ _ _ (sym c.is_reached.ensures ∙ c.if-is_reached.true)

pub returns-then-b-arcs : goal.returns-then-b-arcs
returns-then-b-arcs c = λ n. arrive_last _ _ _ _ _ _ _ _ _ _ (sym c.is_reached.ensures ∙ c.if-is_reached.false) _ c.reach.ensures c.if-b-arcs.true

pub returns-then-offer_quiet : goal.returns-then-offer_quiet
returns-then-offer_quiet c =
    λ n. arrive-on _ _ _ _ _ _ _ _ _ _ (sym c.is_reached.ensures ∙ c.if-is_reached.false) _ c.reach.ensures
    c.if-b-arcs.false _ c.offer_quiet.ensures.states_after _ c.offer_quiet.ensures.value c.if-offer_quiet.true

pub returns : goal.returns
returns c =
    λ n. arrive_stuck _ _ _ _ _ _ _ _ _ _ (sym c.is_reached.ensures ∙ c.if-is_reached.false) _ c.reach.ensures
    c.if-b-arcs.false _ c.offer_quiet.ensures.states_after _ c.offer_quiet.ensures.value c.if-offer_quiet.false
