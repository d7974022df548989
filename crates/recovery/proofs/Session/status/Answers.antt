-- `recovery::Session::status` meets its contract: what is told on the pieces is what the call gives.
use mathlib.Core.Path.{◌∙◌}
use Rattle.recovery.specs.Laws.Calls.{status_made}
use Rattle.recovery.proofs.Session.status.Goals as goal

pub returns : goal.returns
returns c =
    let a = c.args in
    c.status.ensures ∙ status_made a.self a.link a.wavelength
