use mathlib.Core.Path.{sym}
use Rattle.scan.specs.Sweep.{sweep_none, sweep-turn}
use Rattle.topology.proofs.orient.Goals as goal

pub loop-i-init : goal.loop-i-init
loop-i-init c = record { tails = sym (sweep_none _ _); heads = sym (sweep_none _ _) }

pub loop-i-preserved : goal.loop-i-preserved
loop-i-preserved c =
    let l = c.loop-i in
    record {
      tails = sweep-turn _ _ l.tails l.i l.invariant.tails _ cc;
      heads = sweep-turn _ _ l.heads l.i l.invariant.heads _ cc;
    }
