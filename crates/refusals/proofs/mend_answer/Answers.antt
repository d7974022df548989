-- `refusals::mend_answer` meets its contract: each return rewrites with the tests that led there.
use Rattle.std.proofs.Common.{rules}
use mathlib.Core.Path.{◌≡◌, sym, ◌∙◌}
use borrow.Author.Tests.{not-true, not-false}
use Rattle.mesh.specs.Answer.{Accepted}
use Rattle.refusals.specs.Refusals.{link_answer, mend_answer}
use Rattle.refusals.proofs.Laws.Tested.{link-first}
use Rattle.refusals.proofs.mend_answer.Goals as goal
use Rattle.refusals.proofs.mend_answer.Goals.{In_ok-link_answer}

-- what is known once 12 is passed
passes : (c : In_ok-link_answer) → let a = c.args in link_answer a.tested a.count a.link ≡ Accepted
passes c = sym c.link_answer.ensures ∙ c.in_ok-link_answer.was

pub returns-in_err-link_answer : goal.returns-in_err-link_answer
unfolding mend_answer
returns-in_err-link_answer c =
    let same : c.from_residual.result ≡ c.link_answer.result = search rules in
    let t = c.in_err-link_answer.was in same ∙ rw (link-first, sym c.link_answer.ensures ∙ t) t

pub returns-then-not-is_standing : goal.returns-then-not-is_standing
unfolding mend_answer
returns-then-not-is_standing c = rw (link-first, passes c.before.before.before, sym c.is_standing.ensures ∙ not-true _ c.if-not-is_standing.true-raw) c.refused.ensures

pub returns-then-not-is_cut : goal.returns-then-not-is_cut
unfolding mend_answer
returns-then-not-is_cut c =
    rw (link-first, passes c.before.before.before.before.before, sym c.is_standing.ensures ∙ not-false _ c.if-not-is_standing.false-raw, sym c.is_cut.ensures ∙ not-true _ c.if-not-is_cut.true-raw)
    c.refused-then-not-is_cut.ensures

pub returns-then-rest : goal.returns-then-rest
unfolding mend_answer
returns-then-rest c = rw (link-first, passes c.before.before.before.before.before, sym c.is_standing.ensures ∙ not-false _ c.if-not-is_standing.false-raw, sym c.is_cut.ensures ∙ not-false _ c.if-not-is_cut.false-raw, c.if-rest.true)

pub returns : goal.returns
unfolding mend_answer
returns c =
    rw (link-first, passes c.before.before.before.before.before.before, sym c.is_standing.ensures ∙ not-false _ c.if-not-is_standing.false-raw, sym c.is_cut.ensures ∙ not-false _ c.if-not-is_cut.false-raw, c.if-rest.false)
    c.refused-2.ensures
