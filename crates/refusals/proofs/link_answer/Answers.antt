-- `refusals::link_answer` meets its contract: each return rewrites with the tests that led there.
use Rattle.std.proofs.Common.{rules}
use borrow.Author.Tests.{lt-ltb, le-ltb}
use Rattle.refusals.specs.Refusals.{link_answer}
use Rattle.refusals.proofs.link_answer.Goals as goal

pub returns-in_err-tested : goal.returns-in_err-tested
unfolding link_answer
returns-in_err-tested c = search rules

pub returns-then-count-link : goal.returns-then-count-link
unfolding link_answer
returns-then-count-link c = simp (c.in_ok-tested.was, le-ltb _ _ c.if-count-link.true) c.refused.ensures

pub returns : goal.returns
unfolding link_answer
returns c = simp (c.in_ok-tested.was, lt-ltb _ _ c.if-count-link.false)
