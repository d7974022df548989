use Rattle.planner.specs.Laws.Directing.{directing_start, directing_next, directed-bridge, directed-all}
use Rattle.planner.proofs.search.all_directions.Goals as goal

pub loop-k-init : goal.loop-k-init
loop-k-init c = λ m Q. directing_start Q.table

pub returns-in_default : goal.returns-in_default
returns-in_default c =
    λ m Q.
    directed-bridge Q (c.loop-k.invariant m Q) c.loop-k-test.true c.is_followed-after.ensures c.low_of-low.ensures c.high_of-high.ensures c.direct.ensures
    c.in_default.is

pub loop-k-preserved : goal.loop-k-preserved
loop-k-preserved c =
    λ m Q.
    directing_next Q (c.loop-k.invariant m Q) c.loop-k-test.true c.is_followed-after.ensures c.low_of-low.ensures c.high_of-high.ensures c.direct.ensures
    c.in-Some.is

pub returns : goal.returns
returns c = λ m Q. directed-all Q (c.loop-k.invariant m Q) c.loop-k-test.false
