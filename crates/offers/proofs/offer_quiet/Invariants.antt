-- `offers::offer_quiet` meets its contract: a quiet state passes.
use lib.Dec.{eqb}
use Rattle.offers.proofs.offer_quiet.Given as goal

abbrev pub ghost-offer : goal.ghost-offer
ghost-offer a v = eqb v 0
