-- `refusals::deliver_answer` meets its contract: each return rewrites with the tests that led there.
use Rattle.std.proofs.Common.{rules}
use mathlib.Core.Path.{◌≡◌, sym, ◌∙◌}
use borrow.Author.Tests.{not-true, not-false}
use Rattle.mesh.specs.Answer.{Accepted}
use Rattle.refusals.specs.Refusals.{status_answer, deliver_answer}
use Rattle.refusals.proofs.Laws.Tested.{status_first}
use Rattle.refusals.proofs.deliver_answer.Goals as goal

pub returns-in_err-status_answer : goal.returns-in_err-status_answer
unfolding deliver_answer
returns-in_err-status_answer c =
    let same : c.from_residual.result ≡ c.status_answer.result = search rules in
    let t = c.in_err-status_answer.was in same ∙ rw (status_first, sym c.status_answer.ensures ∙ t) t

pub returns-then-not-is_standing : goal.returns-then-not-is_standing
unfolding deliver_answer
returns-then-not-is_standing c = rw (status_first, (let in-passes : let a = c.args in status_answer a.tested a.count a.link a.wavelength ≡ Accepted = sym c.status_answer.ensures ∙ c.in_ok-status_answer.was in in-passes), sym c.is_standing.ensures ∙ not-true _ c.if-not-is_standing.true-raw) c.refused.ensures

pub returns-then-is_busy : goal.returns-then-is_busy
unfolding deliver_answer
returns-then-is_busy c = rw (status_first, (let in-passes : let a = c.args in status_answer a.tested a.count a.link a.wavelength ≡ Accepted = sym c.status_answer.ensures ∙ c.in_ok-status_answer.was in in-passes), sym c.is_standing.ensures ∙ not-false _ c.if-not-is_standing.false-raw, sym c.is_busy.ensures ∙ c.if-is_busy.true)

pub returns : goal.returns
unfolding deliver_answer
returns c =
    rw (status_first, (let in-passes : let a = c.args in status_answer a.tested a.count a.link a.wavelength ≡ Accepted = sym c.status_answer.ensures ∙ c.in_ok-status_answer.was in in-passes), sym c.is_standing.ensures ∙ not-false _ c.if-not-is_standing.false-raw, sym c.is_busy.ensures ∙ c.if-is_busy.false)
    c.refused-2.ensures
