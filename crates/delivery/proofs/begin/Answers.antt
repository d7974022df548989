-- `delivery::begin` meets its contract: what the two calls ensure is the machine's failure.
use Rattle.delivery.specs.Laws.Moves.{begin_is}
use Rattle.delivery.proofs.begin.Goals as goal

pub returns : goal.returns
returns c = λ n y h. begin_is n _ h _ _ _ y _ _ _ _ c.offer_all.ensures c.reach.ensures
