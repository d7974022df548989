-- What the answer of planning means, in walks along links (01, "The plan" and "Refusals from the input"); refusal 20 is `NoPath` of `nets`. Definitions only.
use Rattle.std.specs.Prelude.{ℕ, ◌<◌, ◌≡◌, List}
use Rattle.graph.specs.Net.{Net, Strong, both_ways, without, Parted, First}
use Rattle.mesh.specs.declared.Mesh.{Mesh}
use Rattle.nets.specs.Nets.{net_of}
use Rattle.planner.specs.Plan.{padded, planned}

-- 21 some link's removal parts the mesh, in which every two nodes have a path between them: the place is the lowest such link
pub record LinkParts (G : Net) (place : ℕ) : Type 0 where
  pub joined : Strong G both_ways
  pub link : place < G.links
  pub parted : Parted G (without place both_ways)
  pub lowest : (k : ℕ) → k < place → Strong G (without k both_ways)

-- accepted: the plan is the first admissible assignment, with zeros past the last link
pub record FirstPlan (m : Mesh) : Type 0 where
  pub directions : List ℕ
  pub plan_is : (planned m).plan ≡ padded directions
  pub first : First (net_of m) directions
