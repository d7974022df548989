use mathlib.Core.Path.{sym, ◌∙◌}
use Rattle.searches.specs.Laws.Loops.{lowest-here, lowest_nowhere}
use Rattle.searches.proofs.lowest_from.Goals as goal

pub returns-then-passes : goal.returns-then-passes
returns-then-passes g c =
    let l = c.loop-i in
    λ p t s. lowest-here (l.invariant p t s) c.loop-i-test.true (sym (t _ _ l.auto.i c.passes.ensures) ∙ c.if-passes.true)

pub returns : goal.returns
returns g c = λ p t s. lowest_nowhere (c.loop-i.invariant p t s) c.loop-i-test.false
