-- `mesh::links::store_ends` meets its contract. The loop keeps that the entries below i are the ends and the others as they were.
use mathlib.Core.Path.{◌≡◌}
use Rattle.scan.specs.Fill.{filled}
use Rattle.mesh.specs.WellFormed.{link}
use Rattle.mesh.specs.Parts.{ends_of}
use Rattle.mesh.proofs.links.store_ends.Given as goal

abbrev pub invariant-loop-i : goal.invariant-loop-i
invariant-loop-i l = l.ends ≡ filled (λ j. ends_of (link l.m j)) l.i l.initial.ends
