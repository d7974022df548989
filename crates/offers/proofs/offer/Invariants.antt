-- `offers::offer` meets its contract. The loop keeps that the entries below i are as the pass leaves them, and whether one of them passed.
use Prim.Native.Nat.{ℕ}
use mathlib.Core.Path.{◌≡◌}
use mathlib.Core.Bool.{Bool, cond, ◌&&◌}
use mathlib.Core.List.{List}
use Rattle.scan.specs.Entry.{at}
use Rattle.scan.specs.Lowest.{any}
use Rattle.scan.specs.Sweep.{sweep_to}
use Rattle.flood.specs.Lent.{leaving}
use Rattle.offers.proofs.offer.Given as goal

-- what becomes of an entry
abbrev pub new : (ℕ → Bool) → List ℕ → List ℕ → ℕ → ℕ → ℕ → ℕ
new p tails starts a i v = cond (leaving tails starts a i && p v) 1 v

abbrev pub invariant-loop-i : goal.invariant-loop-i
invariant-loop-i g l =
    (l.states ≡ sweep_to (new g.p l.tails l.starts l.a) l.i l.initial.states)
    × (l.found ≡ any (λ j. leaving l.tails l.starts l.a j && g.p (at l.initial.states j)) l.i)
