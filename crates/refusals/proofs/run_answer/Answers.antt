-- `refusals::run_answer` meets its contract: each return rewrites with the tests that led there.
use Rattle.std.proofs.Common.{rules}
use mathlib.Core.Path.{sym, ◌∙◌}
use Rattle.refusals.specs.Refusals.{run_answer}
use Rattle.refusals.proofs.run_answer.Goals as goal

pub returns-in_err-tested : goal.returns-in_err-tested
unfolding run_answer
returns-in_err-tested c = search rules

pub returns-then-is_standing : goal.returns-then-is_standing
unfolding run_answer
returns-then-is_standing c = simp (c.in_ok-tested.was, sym c.is_standing.ensures ∙ c.if-is_standing.true)

pub returns : goal.returns
unfolding run_answer
returns c = simp (c.in_ok-tested.was, sym c.is_standing.ensures ∙ c.if-is_standing.false) c.refused.ensures
