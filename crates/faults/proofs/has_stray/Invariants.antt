-- `faults::has_stray` meets its contract. The loop keeps whether some node below v is a stray on either wavelength; below N none is.
use Prim.Native.Nat.{min}
use mathlib.Core.Path.{◌≡◌}
use mathlib.Core.Bool.{◌&&◌, ◌||◌}
use lib.Dec.{leb}
use Rattle.scan.specs.Entry.{has}
use Rattle.scan.specs.Lowest.{any}
use Rattle.faults.proofs.has_stray.Given as goal

abbrev pub invariant-loop-v : goal.invariant-loop-v
invariant-loop-v l = l.bad ≡ any (λ j. leb l.nodes j && (has l.first j || has l.second j)) (min l.v 64)
