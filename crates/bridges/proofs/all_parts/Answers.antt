use mathlib.Core.Path.{sym}
use Rattle.scan.specs.Sweep.{sweep_none, sweep-turn}
use Rattle.bridges.specs.Survey.{no_parts}
use Rattle.bridges.proofs.all_parts.Goals as goal

pub loop-v-init : goal.loop-v-init
loop-v-init c = λ G F e T. sym (sweep_none _ no_parts)

pub loop-v-preserved : goal.loop-v-preserved
loop-v-preserved c =
    λ G F e T.
    let l = c.loop-v in
    sweep-turn _ no_parts l.parts l.v (l.invariant G F e T) _ (c.part_of.ensures G F e T)
