-- `legacy::links::split` meets its contract. The first loop keeps that the entries below i are the ends and the others as they were; the second whether each
-- entry below i is zero or that of a link. Where an entry was read, the fields of all are in their ranges.
use Prim.Native.Nat.{◌<◌, ◌≤◌, min}
use mathlib.Core.Path.{◌≡◌}
use mathlib.Core.Bool.{◌||◌}
use lib.Dec.{ltb}
use Rattle.scan.specs.Lowest.{every}
use Rattle.scan.specs.Fill.{filled}
use Rattle.legacy.specs.Record.{link, ends_of, is_zero}
use Rattle.legacy.specs.WellFormed.{InRange}
use Rattle.legacy.proofs.links.split.Given as goal

abbrev pub invariant-loop-i : goal.invariant-loop-i
invariant-loop-i l = (l.ends ≡ filled (λ j. ends_of (link l.m j)) l.i l.initial.ends) × (0 < l.i → InRange l.m)

abbrev pub invariant-loop-i-2 : goal.invariant-loop-i-2
invariant-loop-i-2 l = (min l.m.count 256 ≤ l.i) × (l.zeros ≡ every (λ j. ltb j l.m.count || is_zero (link l.m j)) l.i) × (0 < l.i → InRange l.m)
