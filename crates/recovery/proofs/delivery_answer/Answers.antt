-- `recovery::delivery_answer` meets its contract: the answer says whether it is a refusal.
use Rattle.recovery.proofs.delivery_answer.Goals as goal

pub returns-in-Ok : goal.returns-in-Ok
returns-in-Ok c = rw c.in-Ok.is c.acted_on.ensures

pub returns-in-Err : goal.returns-in-Err
returns-in-Err c = rw c.in-Err.is
