-- `searches::lowest_busy` meets its contract.
use Rattle.flood.specs.Lent.{busy}
use Rattle.searches.specs.Laws.Loops.{lowest_beyond}
use Rattle.searches.proofs.lowest_busy.Goals as goal

pub returns-then-links-from : goal.returns-then-links-from
returns-then-links-from c = rw (← c.links_of-links.ensures) (lowest_beyond (busy c.args.states.now) c.if-links-from.true)
