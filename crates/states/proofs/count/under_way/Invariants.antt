-- `states::count::under_way` meets its contract: a link that is under way counts 1.
use Rattle.scan.specs.Total.{bit}
use Rattle.flood.specs.Machine.{under_way}
use Rattle.states.proofs.count.under_way.Given as goal

abbrev pub ghost-total : goal.ghost-total
ghost-total a v = bit (under_way v)
