use Rattle.rows.specs.Laws.Meeting.{met, ahead_ended, back-ended}
use Rattle.rows.proofs.Arcs.leads.Goals as goal
use Rattle.rows.proofs.Arcs.leads.Goals.{then-has_ended-via-then-has_ended, then-has_ended-via-else-has_ended+then-has_ended-2}

pub loop-ahead-init : goal.loop-ahead-init
loop-ahead-init c = (c.from_node-ahead.ensures _, c.from_node-back.ensures _)

pub returns-then-has_ended : goal.returns-then-has_ended
returns-then-has_ended c =
    let (i, j) = c.loop-ahead.invariant in
    elim c.then-has_ended.branch [
      | then-has_ended-via-then-has_ended w ↦ ahead_ended i j c.loop-ahead-test.true (c.has_ended.ensures.0 w.if-has_ended.true)
      | then-has_ended-via-else-has_ended+then-has_ended-2 w ↦
          back-ended i j c.loop-ahead-test.true (w.has_ended-else-has_ended.ensures.0 w.if-has_ended-2.true)
    ]

pub returns : goal.returns
returns c = let (i, j) = c.loop-ahead.invariant in met i j c.loop-ahead-test.false
