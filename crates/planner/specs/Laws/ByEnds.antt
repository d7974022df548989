-- Planning reads N, L and the ends of the links alone: two accepted meshes that have these in common have one plan. Assumes nothing.
use Rattle.std.specs.Prelude.{◌≡◌, not}
use Rattle.std.proofs.Math.Path.{sym}
use Rattle.std.proofs.Common.{◌∙◌}
use Rattle.scan.specs.Lowest.{lowest, any}
use Rattle.graph.specs.Net.{Net}
use Rattle.graph.specs.Plan.{unreached, parts, plan}
use Rattle.mesh.specs.declared.Mesh.{Mesh}
use Rattle.mesh.specs.Answer.{Answer, Accepted}
use Rattle.mesh.specs.Mesh.{must, and_then, mesh_answer}
use Rattle.mesh.specs.WellFormed.{SameEnds}
use Rattle.mesh.specs.Laws.ByEnds.{same_low, same_high}
use Rattle.nets.specs.Nets.{net_of}
use Rattle.planner.specs.declared.Planned.{Planned}
use Rattle.planner.specs.Plan.{plan_answer, padded, or_none, planned_as, planned}

-- planning a net after the mesh checks
abbrev planned_on : Answer → Net → Planned
planned_on a G =
    planned_as
    (and_then a
    (must (not (any (unreached G) G.nodes)) 20 (lowest (unreached G) G.nodes)
    (must (not (any (parts G) G.links)) 21 (lowest (parts G) G.links)
    Accepted)))
    (padded (or_none (plan G)))

module _ (m m' : Mesh) (same : SameEnds m m') (e : mesh_answer m ≡ Accepted) (e' : mesh_answer m' ≡ Accepted) where
  net_by_ends : net_of m ≡ net_of m'
  net_by_ends = λ j. record {
    nodes = same.nodes j;
    links = same.count j;
    low = λ i. same_low m m' same e e' i j;
    high = λ i. same_high m m' same e e' i j;
  }

  pub planned_by_ends : planned m ≡ planned m'
  unfolding planned plan_answer
  planned_by_ends = λ j. planned_on ((e ∙ sym e') j) (net_by_ends j)
