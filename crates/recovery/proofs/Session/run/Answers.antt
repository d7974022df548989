-- `recovery::Session::run` meets its contract: what is given on the pieces is what the call gives.
use Rattle.recovery.specs.Laws.Calls.{run-made}
use Rattle.recovery.proofs.Session.run.Goals as goal

pub returns : goal.returns
returns c =
    let a = c.args in
    run-made a.self a.allowance _ _ c.run-report.ensures
