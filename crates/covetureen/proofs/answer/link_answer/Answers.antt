-- `covetureen::answer::link_answer` meets its contract.
use borrow.Author.Tests.{lt-ltb, le-ltb}
use Rattle.covetureen.proofs.answer.link_answer.Goals as goal

pub returns-then-link-count : goal.returns-then-link-count
returns-then-link-count c = rw (lt-ltb c.args.link c.args.count c.if-link-count.true)

pub returns : goal.returns
returns c = rw (le-ltb c.args.link c.args.count c.if-link-count.false)
