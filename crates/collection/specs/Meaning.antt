-- What 02, request 5, says of the collection route of a mesh. Definitions only.
use Rattle.std.specs.Prelude.{ℕ, ◌<◌, ◌≤◌, ◌≡◌}
use Rattle.graph.specs.Net.{Strong, both_ways}
use Rattle.mesh.specs.declared.Mesh.{Mesh}
use Rattle.mesh.specs.Answer.{Accepted, Refused}
use Rattle.mesh.specs.Mesh.{mesh_answer}
use Rattle.nets.specs.Nets.{net_of, NoPath}
use Rattle.depth_first.specs.Folded.{Folded}
use Rattle.collection.specs.Collection.{tree_of, route_of, labels_of, needed}

-- every two nodes have a path between them
abbrev pub Connected : Mesh → Type 0
Connected m = Strong (net_of m) both_ways

-- the route and the labels are those of the walk along the search's tree, of which 02's sentences hold
abbrev pub Collects : Mesh → ℕ → Type 0
Collects m root = Folded (net_of m) root (tree_of m root) (route_of m root) (labels_of m root)

-- the condition of a refusal with an output of `room` entries, by number and place
pub data Refusal (m : Mesh) (root room : ℕ) : ℕ → ℕ → Type 0 where
  -- the mesh's own
  mesh-refused : {number place : ℕ} → mesh_answer m ≡ Refused number place → Refusal m root room number place
  -- 6 the root is no node, place 0
  no_such_root : mesh_answer m ≡ Accepted → m.nodes ≤ root → Refusal m root room 6 0
  -- 20 no path between some two nodes, at the lowest node that node 0 does not reach, whatever the root
  no_path : {place : ℕ} → mesh_answer m ≡ Accepted → root < m.nodes → NoPath (net_of m) place → Refusal m root room 20 place
  -- 11 output shorter than the route, with the entries needed
  output_short : mesh_answer m ≡ Accepted → root < m.nodes → Connected m → room < needed m → Refusal m root room 11 (needed m)
