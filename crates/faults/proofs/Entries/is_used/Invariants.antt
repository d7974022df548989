-- `faults::Entries::is_used` meets its contract. The bits that the loop gathers are not all zero just where some entry from `from` on and below i is not zero.
use Prim.Native.Nat.{min}
use mathlib.Core.Path.{◌≡◌}
use mathlib.Core.Bool.{not}
use lib.Dec.{eqb}
use Rattle.scan.specs.Lowest.{any}
use Rattle.faults.specs.Faults.{is_used, is_leftover}
use Rattle.faults.proofs.Entries.is_used.Given as goal

abbrev pub invariant-loop-i : goal.invariant-loop-i
invariant-loop-i l = not (eqb l.bits 0) ≡ any (is_leftover l.from (is_used l.self.directions.now l.self.first.now l.self.second.now)) (min l.i l.end)
