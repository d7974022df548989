use mathlib.Core.Path.{◌∙◌}
use Rattle.faults.proofs.Laws.Scans.{past_none, past-turn, past_all, strays-either}
use Rattle.faults.proofs.has_stray.Goals as goal

pub loop-v-init : goal.loop-v-init
loop-v-init c = past_none c.args.nodes 64 _

pub loop-v-preserved : goal.loop-v-preserved
loop-v-preserved c = let l = c.loop-v in past-turn _ 64 _ l.v l.bad l.invariant l.auto.v c.loop-v-test.true

pub returns : goal.returns
returns c = let l = c.loop-v in past_all _ 64 _ l.v l.bad l.invariant c.loop-v-test.false ∙ strays-either _ _ _
