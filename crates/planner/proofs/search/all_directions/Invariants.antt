-- `planner::search::all_directions` meets its contract. The loop's invariant is `Directing`; a link that gets no direction is the lowest that parts the mesh.
use Rattle.mesh.specs.declared.Mesh.{Mesh}
use Rattle.planner.specs.Search.{Given}
use Rattle.planner.specs.Laws.Directing.{Directing}
use Rattle.planner.proofs.search.all_directions.Given as goal

abbrev pub invariant-loop-k : goal.invariant-loop-k
invariant-loop-k l = (m : Mesh) → Given m l.count l.ends l.initial.arcs.leaving.0 → Directing m l.arcs.leaving.0 l.arcs.entering.0 l.directions l.before l.k
