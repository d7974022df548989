-- `topology::orient` meets its contract. The loop keeps that the entries below i are filled and the others as they were.
use Prim.Native.Nat.{ℕ}
use mathlib.Core.Path.{◌≡◌}
use Rattle.scan.specs.Entry.{at}
use Rattle.scan.specs.Fill.{filled}
use Rattle.wavelengths.specs.declared.Wavelength.TheVariants.{First}
use Rattle.topology.specs.Arrays.{tail_by, head_by}
use Rattle.topology.proofs.orient.Given as goal

abbrev pub invariant-loop-i : goal.invariant-loop-i
invariant-loop-i l =
    let tail : ℕ → ℕ = λ j. tail_by First (at l.ends j) (at l.directions j) in
    let head : ℕ → ℕ = λ j. head_by First (at l.ends j) (at l.directions j) in
    record { tails : l.tails ≡ filled tail l.i l.initial.tails; heads : l.heads ≡ filled head l.i l.initial.heads }
