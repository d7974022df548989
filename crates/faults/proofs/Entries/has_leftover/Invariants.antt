-- `faults::Entries::has_leftover` meets its contract. The loop keeps that no entry below i is left over, and goes on by blocks to the end of the last.
use Prim.Native.Nat.{min}
use mathlib.Core.Path.{◌≡◌}
use mathlib.Core.Bool.{false}
use Rattle.scan.specs.Lowest.{any}
use Rattle.faults.specs.Faults.{is_used, is_leftover}
use Rattle.faults.proofs.Entries.has_leftover.Given as goal

abbrev pub invariant-loop-i : goal.invariant-loop-i
invariant-loop-i l = false ≡ any (is_leftover l.links (is_used l.self.directions.now l.self.first.now l.self.second.now)) (min l.i 256)
