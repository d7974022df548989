use mathlib.Core.Path.{refl, ◌∙◌}
use native.Mathlib.Omega.{arith}
use borrow.Author.Tests.{le-ltb}
use Rattle.scan.specs.Lowest.{any-zero, any-turn}
use Rattle.faults.proofs.Laws.Scans.{below_larger}
use Rattle.faults.proofs.largest.Goals as goal

pub loop-v-init : goal.loop-v-init
loop-v-init c = λ b. le-ltb b 0 (omega arith) ∙ any-zero _

pub loop-v-preserved : goal.loop-v-preserved
loop-v-preserved c =
    let l = c.loop-v in
    λ b. any-turn _ l.v-index _ _ _ (l.invariant b) refl (rw c.max-top.ensures (below_larger b _ _))
