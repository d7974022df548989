-- `searches::some_within` meets its contract. The loop keeps whether one of the first j links of the block passes.
use Prim.Native.Nat.{ℕ, ◌+◌}
use mathlib.Core.Path.{◌≡◌}
use mathlib.Core.Bool.{Bool}
use Rattle.scan.specs.Lowest.{any}
use Rattle.searches.specs.Scan.{Tells}
use Rattle.searches.proofs.some_within.Given as goal

abbrev pub invariant-loop-j : goal.invariant-loop-j
invariant-loop-j g l = (p : ℕ → Bool) → Tells (goal.F-post g l.passes) p l.from → l.found ≡ any (λ k. p (l.from + k)) l.j
