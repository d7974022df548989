-- `recovery::Session::route` meets its contract: what is found on the pieces is what the call gives.
use mathlib.Core.Path.{sym, ap, ◌∙◌}
use Rattle.recovery.specs.Pieces.{routed_by}
use Rattle.recovery.specs.Laws.Calls.{route_made}
use Rattle.recovery.proofs.Session.route.Goals as goal

pub returns-in-Ok : goal.returns-in-Ok
returns-in-Ok c =
    let a = c.args in
    ap routed_by (sym c.in-Ok.is ∙ c.route-found.ensures) ∙ route_made a.self a.wavelength

pub returns-in-Err : goal.returns-in-Err
returns-in-Err c =
    let a = c.args in
    ap routed_by (sym c.in-Err.is ∙ c.route-found.ensures) ∙ route_made a.self a.wavelength
