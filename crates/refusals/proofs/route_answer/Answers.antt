-- `refusals::route_answer` meets its contract: each return rewrites with the tests that led there.
use Rattle.std.proofs.Common.{rules}
use mathlib.Core.Path.{sym, ◌∙◌}
use borrow.Author.Tests.{not-true, not-false}
use Rattle.refusals.specs.Refusals.{route_answer}
use Rattle.refusals.proofs.route_answer.Goals as goal

pub returns-in_err-tested : goal.returns-in_err-tested
unfolding route_answer
returns-in_err-tested c = search rules

pub returns-then-not-is_wavelength : goal.returns-then-not-is_wavelength
unfolding route_answer
returns-then-not-is_wavelength c = simp (c.in_ok-tested.was, sym c.is_wavelength.ensures ∙ not-true _ c.if-not-is_wavelength.true-raw) c.refused.ensures

pub returns-then-is_standing : goal.returns-then-is_standing
unfolding route_answer
returns-then-is_standing c = simp (c.in_ok-tested.was, sym c.is_wavelength.ensures ∙ not-false _ c.if-not-is_wavelength.false-raw, sym c.is_standing.ensures ∙ c.if-is_standing.true)

pub returns : goal.returns
unfolding route_answer
returns c =
    simp (c.in_ok-tested.was, sym c.is_wavelength.ensures ∙ not-false _ c.if-not-is_wavelength.false-raw, sym c.is_standing.ensures ∙ c.if-is_standing.false)
    c.refused-2.ensures
