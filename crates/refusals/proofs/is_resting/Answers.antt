-- `refusals::is_resting` meets its contract: no link is under way where none is counted.
use Rattle.refusals.proofs.is_resting.Goals as goal

pub returns : goal.returns
returns c = rw c.under_way.ensures
