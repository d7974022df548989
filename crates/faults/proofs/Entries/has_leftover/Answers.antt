use Prim.Native.Nat.{◌+◌}
use mathlib.Core.Path.{sym, ◌∙◌}
use mathlib.Core.Bool.{false}
use native.Mathlib.Omega.{arith}
use Rattle.faults.proofs.Laws.Scans.{past_none, past_part, past_block, past_found}
use Rattle.faults.proofs.Entries.has_leftover.Goals as goal

pub loop-i-init : goal.loop-i-init
loop-i-init c = past_none c.args.links 256 _

pub returns-then-is_used : goal.returns-then-is_used
returns-then-is_used c =
    past_found _ 256 _ c.lower-start.result 64 (omega arith) (omega arith)
    (sym c.if-is_used.true ∙ c.is_used-in-loop-i.ensures ∙ past_part c.lower-start.result 64 _)

pub loop-i-preserved : goal.loop-i-preserved
loop-i-preserved c =
    let l = c.loop-i in
    let block = past_block _ 256 _ l.i false l.invariant c.lower-start.result 64 (l.i + 64) in
    sym c.if-is_used.false ∙ c.is_used-in-loop-i.ensures ∙ past_part c.lower-start.result 64 _ ∙ block (omega arith) (omega arith) (omega arith) (omega arith)
