use mathlib.Core.Path.{◌∙◌}
use Rattle.faults.proofs.Laws.Scans.{or-nonzero, past_none, past-turn, past_all}
use Rattle.faults.proofs.Entries.is_used.Goals as goal

pub loop-i-init : goal.loop-i-init
loop-i-init c = past_none c.args.from c.args.end _

pub loop-i-preserved : goal.loop-i-preserved
loop-i-preserved c =
    let l = c.loop-i in
    rw c.joined-bits.ensures (or-nonzero l.bits _) ∙ past-turn _ c.args.end _ l.i _ l.invariant l.auto.i c.loop-i-test.true

pub returns : goal.returns
returns c = past_all _ c.args.end _ c.loop-i.i _ c.loop-i.invariant c.loop-i-test.false
