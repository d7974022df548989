-- `states::count::deliveries` meets its contract: a link counts its weight.
use Rattle.flood.specs.Machine.{weight}
use Rattle.states.proofs.count.deliveries.Given as goal

abbrev pub ghost-total : goal.ghost-total
ghost-total a = weight
