use Rattle.rows.specs.Laws.Spreading.{spread_all}
use Rattle.rows.proofs.Rows.spread.Goals as goal

pub loop-search-init : goal.loop-search-init
loop-search-init c = c.from_node-search.ensures _

pub returns : goal.returns
returns c = spread_all c.loop-search.invariant (c.has_ended.ensures.0 c.loop-search-test.false)
