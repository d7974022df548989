-- `changes::cut` meets its contract: refused, the floods stay; accepted, a flood begins on the back-up digraph of each wavelength.
use mathlib.Core.Path.{◌≡◌, sym, ◌∙◌}
use Rattle.std.proofs.Common.{rules}
use Rattle.mesh.specs.Answer.{Accepted}
use Rattle.wavelengths.specs.Wavelength.{pair}
use Rattle.wavelengths.proofs.Laws.Project.{begin_known}
use Rattle.refusals.specs.Refusals.{cut_answer}
use Rattle.pieces.specs.Pieces.{digraph, tested}
use Rattle.pieces.specs.Laws.Tested.{given_cut}
use Rattle.changes.proofs.cut.Goals as goal
use Rattle.changes.proofs.cut.Goals.{After-cut_answer}

answered : (c : After-cut_answer) → let a = c.args in
    c.cut_answer.result ≡ cut_answer (tested a.mesh a.directions.now a.before (pair a.first.now a.second.now)) a.mesh.count a.before a.link
answered c = rw c.take_apart-tested.ensures.answer at c.cut_answer.ensures

pub returns-in_err-cut_answer : goal.returns-in_err-cut_answer
returns-in_err-cut_answer c =
    let same : c.from_residual.result ≡ c.cut_answer.result = search rules in
    record {
      answer = same ∙ answered (goal.at.returns-in_err-cut_answer c).After-cut_answer;
      floods = rw (same, c.in_err-cut_answer.was);
    }

pub returns : goal.returns
returns c =
    let a = c.args in
    let f = pair a.first.now a.second.now in
    let p = c.take_apart-tested.ensures in
    let accepts : cut_answer (tested a.mesh a.directions.now a.before f) a.mesh.count a.before a.link ≡ Accepted
    = sym (answered (goal.at.returns c).After-cut_answer) ∙ c.in_ok-cut_answer.was in
    let given = given_cut a.mesh _ p.ends p.ranges a.directions.now a.before f a.link accepts in
    record {
      answer = sym accepts;
      floods = begin_known (digraph a.mesh a.directions.now) _ f (c.begin.ensures a.mesh given) (c.begin-2.ensures a.mesh given);
    }
