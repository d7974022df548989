use mathlib.Core.Path.{sym}
use Rattle.scan.specs.Sweep.{sweep_none, sweep-turn}
use Rattle.mesh.proofs.links.store_ends.Goals as goal

pub loop-i-init : goal.loop-i-init
loop-i-init c = sym (sweep_none _ c.args.ends.now)

pub loop-i-preserved : goal.loop-i-preserved
loop-i-preserved c = sweep-turn _ c.args.ends.now c.loop-i.ends c.loop-i.i c.loop-i.invariant _ c.ends_of.ensures
