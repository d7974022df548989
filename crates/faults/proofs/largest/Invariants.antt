-- `faults::largest` meets its contract. The loop keeps that `top` is above just what one of the entries so far is above.
use Prim.Native.Nat.{ℕ}
use mathlib.Core.Path.{◌≡◌}
use lib.Dec.{ltb}
use Rattle.scan.specs.Entry.{at}
use Rattle.scan.specs.Lowest.{any}
use Rattle.faults.proofs.largest.Given as goal

abbrev pub invariant-loop-v : goal.invariant-loop-v
invariant-loop-v l = (b : ℕ) → ltb b l.top ≡ any (λ j. ltb b (at l.entries j)) l.v-index
