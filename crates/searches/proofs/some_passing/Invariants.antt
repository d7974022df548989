-- `searches::some_passing` meets its contract. The loop keeps that none below the block passes.
use Prim.Native.Nat.{ℕ, ◌*◌}
use mathlib.Core.Bool.{Bool}
use Rattle.searches.specs.Scan.{Tells, Passed}
use Rattle.searches.proofs.some_passing.Given as goal

abbrev pub invariant-loop-b : goal.invariant-loop-b
invariant-loop-b g l = (p : ℕ → Bool) → Tells (goal.F-post g l.passes) p 0 → Passed p l.links (l.b * 32)
