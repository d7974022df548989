-- `queries::route` meets its contract: refused, it says why; accepted, the links are those that are found with the states of the wavelength.
use mathlib.Core.Path.{◌≡◌, sym, ◌∙◌}
use Rattle.std.specs.Prelude.{Ok, Err}
use Rattle.std.proofs.Common.{rules}
use Rattle.mesh.specs.Answer.{Accepted}
use Rattle.wavelengths.specs.Wavelength.{wavelength_of, on, pair}
use Rattle.refusals.specs.Refusals.{route_answer}
use Rattle.refusals.proofs.Laws.Tested.{route_accepted}
use Rattle.pieces.specs.Pieces.{tested}
use Rattle.pieces.specs.Laws.Tested.{given_standing}
use Rattle.queries.proofs.Laws.Counts.{route_counted}
use Rattle.queries.proofs.route.Goals as goal
use Rattle.queries.proofs.route.Goals.{After-route_answer}

answered : (c : After-route_answer) → let a = c.args in
    c.route_answer.result ≡ route_answer (tested a.mesh a.directions.now a.cut (pair a.first.now a.second.now)) a.cut a.wavelength
answered c = rw c.take_apart-tested.ensures.answer at c.route_answer.ensures

pub returns-in_err-route_answer : goal.returns-in_err-route_answer
returns-in_err-route_answer c =
    let same : c.from_residual.result ≡ Err c.in_err-route_answer.field-0.0 = search rules in
    rw (same, sym (answered (goal.at.returns-in_err-route_answer c).After-route_answer) ∙ c.in_err-route_answer.was)

pub returns : goal.returns
returns c =
    let a = c.args in
    let f = pair a.first.now a.second.now in
    let p = c.take_apart-tested.ensures in
    let accepts : route_answer (tested a.mesh a.directions.now a.cut f) a.cut a.wavelength ≡ Accepted
    = sym (answered (goal.at.returns c).After-route_answer) ∙ c.in_ok-route_answer.was in
    let (t, named, stands) = route_accepted (tested a.mesh a.directions.now a.cut f) a.cut a.wavelength accepts in
    let given = given_standing a.mesh _ p.ends p.ranges a.directions.now a.cut f t stands in
    let own : c.of_wavelength.result.now ≡ on c.wavelength_of-w.result f = search rules in
    let found = (rw (c.cut_link.ensures, own, c.wavelength_of-w.ensures) at c.route_on.ensures) a.mesh given in
    rw (accepts) (λ i. Ok (route_counted a.mesh a.directions.now a.cut f t (wavelength_of a.wavelength) found i))
