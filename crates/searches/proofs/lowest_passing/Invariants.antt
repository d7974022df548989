-- `searches::lowest_passing` meets its contract. The loop keeps that none below the block passes.
use Prim.Native.Nat.{ℕ, ◌+◌, ◌*◌}
use mathlib.Core.Bool.{Bool}
use Rattle.searches.specs.Scan.{Tells, Passed}
use Rattle.searches.proofs.lowest_passing.Given as goal

abbrev pub invariant-loop-b : goal.invariant-loop-b
invariant-loop-b g l = (p : ℕ → Bool) → Tells (goal.F-post g l.passes) p l.from → Passed p l.links l.from → Passed p l.links (l.from + l.b * 16)
