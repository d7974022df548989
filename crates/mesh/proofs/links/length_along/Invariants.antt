-- `mesh::links::length_along` meets its contract. The loop keeps the sum of the first k listed lengths, and whether one of them is 0.
use Rattle.scan.specs.Entry.{at}
use Rattle.metres.specs.Laws.Summing.{Summed}
use Rattle.mesh.specs.WellFormed.{lengths}
use Rattle.mesh.proofs.links.length_along.Given as goal

abbrev pub invariant-loop-k : goal.invariant-loop-k
invariant-loop-k l = Summed (λ j. lengths l.m (at l.row j)) l.k l.metres l.unmeasured
