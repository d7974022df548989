-- `refusals::status_answer` meets its contract: each return rewrites with the tests that led there.
use Rattle.std.proofs.Common.{rules}
use mathlib.Core.Path.{◌≡◌, sym, ◌∙◌}
use Rattle.mesh.specs.Answer.{Accepted}
use Rattle.refusals.specs.Refusals.{link_answer, status_answer}
use Rattle.refusals.proofs.Laws.Tested.{link-first}
use Rattle.refusals.proofs.status_answer.Goals as goal
use Rattle.refusals.proofs.status_answer.Goals.{In_ok-link_answer}

-- what is known once 12 is passed
passes : (c : In_ok-link_answer) → let a = c.args in link_answer a.tested a.count a.link ≡ Accepted
passes c = sym c.link_answer.ensures ∙ c.in_ok-link_answer.was

pub returns-in_err-link_answer : goal.returns-in_err-link_answer
unfolding status_answer
returns-in_err-link_answer c =
    let same : c.from_residual.result ≡ c.link_answer.result = search rules in
    let t = c.in_err-link_answer.was in same ∙ rw (link-first, sym c.link_answer.ensures ∙ t) t

pub returns-then-is_wavelength : goal.returns-then-is_wavelength
unfolding status_answer
returns-then-is_wavelength c = rw (link-first, passes c.before.before, sym c.is_wavelength.ensures ∙ c.if-is_wavelength.true)

pub returns : goal.returns
unfolding status_answer
returns c = rw (link-first, passes c.before.before.before, sym c.is_wavelength.ensures ∙ c.if-is_wavelength.false) c.refused.ensures
