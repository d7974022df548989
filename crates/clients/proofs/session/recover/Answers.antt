-- `clients::session::recover` meets its contract: its calls are those of the list "cut, run, status", with the deliveries counted after the run, and then the route query.
use Rattle.history.specs.History.{after}
use Rattle.clients.specs.Sessions.{recovered}
use Rattle.clients.proofs.session.recover.Goals as goal

pub returns-clause-value : goal.returns-clause-value
unfolding recovered after
returns-clause-value c = rw (c.route.ensures, c.status.ensures, c.deliveries.ensures, c.from.ensures, c.run-run.ensures, c.cut.ensures)
