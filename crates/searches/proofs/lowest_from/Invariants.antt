-- `searches::lowest_from` meets its contract. The loop keeps that none below i passes.
use Prim.Native.Nat.{ℕ}
use mathlib.Core.Bool.{Bool}
use Rattle.searches.specs.Scan.{Tells, Passed}
use Rattle.searches.proofs.lowest_from.Given as goal

abbrev pub invariant-loop-i : goal.invariant-loop-i
invariant-loop-i g l = (p : ℕ → Bool) → Tells (goal.F-post g l.passes) p l.from → Passed p l.links l.from → Passed p l.links l.i
