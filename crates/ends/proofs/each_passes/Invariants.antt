-- `ends::each_passes` meets its contract. The loop keeps a test that tells of each entry below i that it passes.
use Prim.Native.Nat.{ℕ, ◌<◌, ◌≤◌}
use mathlib.Core.Path.{◌≡◌}
use mathlib.Core.Bool.{true}
use Rattle.ends.proofs.each_passes.Given as goal

abbrev pub invariant-loop-i : goal.invariant-loop-i
invariant-loop-i g l = l.each ≡ true → (j : ℕ) → l.from ≤ j → j < l.i → goal.F-post g l.passes j true
