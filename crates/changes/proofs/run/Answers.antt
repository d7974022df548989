-- `changes::run` meets its contract: refused, the floods stay; accepted, the run is that on the back-up digraphs of both wavelengths.
use mathlib.Core.Path.{◌≡◌, sym, ◌∙◌}
use Rattle.std.specs.Prelude.{Ok, Err}
use Rattle.std.proofs.Common.{rules}
use Rattle.mesh.specs.Answer.{Accepted}
use Rattle.wavelengths.specs.Wavelength.{pair}
use Rattle.refusals.specs.Refusals.{run_answer}
use Rattle.refusals.proofs.Laws.Tested.{run-accepted}
use Rattle.pieces.specs.Pieces.{tested}
use Rattle.pieces.specs.Laws.Tested.{given_standing}
use Rattle.changes.proofs.run.Goals as goal
use Rattle.changes.proofs.run.Goals.{After-run_answer}

answered : (c : After-run_answer) → let a = c.args in
    c.run_answer.result ≡ run_answer (tested a.mesh a.directions.now a.cut (pair a.first.now a.second.now)) a.cut
answered c = rw c.take_apart-tested.ensures.answer at c.run_answer.ensures

pub returns-in_err-run_answer : goal.returns-in_err-run_answer
returns-in_err-run_answer c =
    let same : c.from_residual.result ≡ Err c.in_err-run_answer.field-0.0 = search rules in
    let refused = sym (answered (goal.at.returns-in_err-run_answer c).After-run_answer) ∙ c.in_err-run_answer.was in
    record { outcome = rw (same, refused); floods = rw (refused) }

pub returns : goal.returns
returns c =
    let a = c.args in
    let f = pair a.first.now a.second.now in
    let p = c.take_apart-tested.ensures in
    let accepts : run_answer (tested a.mesh a.directions.now a.cut f) a.cut ≡ Accepted
    = sym (answered (goal.at.returns c).After-run_answer) ∙ c.in_ok-run_answer.was in
    let (r, stands) = run-accepted (tested a.mesh a.directions.now a.cut f) a.cut accepts in
    let given = given_standing a.mesh _ p.ends p.ranges a.directions.now a.cut f r stands in
    let ended = (rw c.cut_link.ensures at c.run.ensures) a.mesh given in
    record {
      outcome = rw (accepts) (λ i. Ok (record { made = (ended.same i).made; rest = ended.rests i }));
      floods = rw (accepts) (λ i. (ended.same i).floods);
    }
