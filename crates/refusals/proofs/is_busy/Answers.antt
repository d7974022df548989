-- `refusals::is_busy` meets its contract: past the end a state counts as 0, which is not under way.
use lib.ListN.{get_or-eq_default}
use Rattle.flood.specs.Machine.{under_way}
use Rattle.refusals.proofs.is_busy.Goals as goal

pub returns-else-i-states : goal.returns-else-i-states
unfolding under_way
returns-else-i-states c = rw (get_or-eq_default c.args.states.now 0 c.if-i-states.false)
