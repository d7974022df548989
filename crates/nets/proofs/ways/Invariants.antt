-- `nets::ways` meets its contract. The loop's invariant: the table has the rows of the links before k.
use mathlib.Core.Path.{◌≡◌}
use Rattle.nets.specs.Nets.{rows_of}
use Rattle.nets.proofs.ways.Given as goal

abbrev pub invariant-loop-k : goal.invariant-loop-k
invariant-loop-k l = l.table.0 ≡ rows_of l.m l.gap l.k
