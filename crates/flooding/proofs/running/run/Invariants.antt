-- `flooding::running::run` meets its contract. The loop keeps what is left of the run, and the lowest link under way on each wavelength.
use Prim.Native.Nat.{ℕ}
use Rattle.flood.specs.Lent.{graph_on, failure_on}
use Rattle.wavelengths.specs.Wavelength.{each, pair}
use Rattle.flooding.specs.Laws.Turns.{Running}
use Rattle.flooding.proofs.running.run.Given as goal

abbrev pub invariant-loop-made : goal.invariant-loop-made
invariant-loop-made l =
    (n : ℕ) → Running (graph_on n l.first) (graph_on n l.second) (each (failure_on l.first) (failure_on l.second)) l.allowance
    (pair l.initial.flood1 l.initial.flood2) (pair l.flood1 l.flood2) l.made l.j l.k
