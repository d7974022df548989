-- `recovery::Session::deliver` meets its contract: what is given on the pieces is what the call gives.
use Rattle.recovery.specs.Laws.Calls.{delivery_made}
use Rattle.recovery.proofs.Session.deliver.Goals as goal

pub returns : goal.returns
returns c =
    let a = c.args in
    delivery_made a.self a.link a.wavelength _ _ c.deliver-moved.ensures c.delivery_answer-answer.ensures
