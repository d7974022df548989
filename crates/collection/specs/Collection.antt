-- The collection route of a mesh from a root (02, request 5), and what asking for it gives. Definitions only.
use Rattle.std.specs.Prelude.{ℕ, ◌-◌, ◌*◌, Bool, false, not, List, ◌∷◌, length, replicate, ltb, leb, Err}
use Rattle.scan.specs.Lowest.{lowest, any}
use Rattle.graph.specs.Plan.{unreached}
use Rattle.mesh.specs.declared.Mesh.{Mesh}
use Rattle.mesh.specs.Answer.{Answer, Accepted, Refused}
use Rattle.mesh.specs.Mesh.{must, and_then, output_as, mesh_answer}
use Rattle.nets.specs.Nets.{net_of}
use Rattle.depth_first.specs.Tree.{Tree, tour, labelled}
use Rattle.depth_first.specs.Search.{visit}
use Rattle.collection.specs.declared.Collected.{Collected}

-- the tree of the depth-first search from the root, with none of 64 nodes visited
abbrev pub tree_of : Mesh → ℕ → Tree
tree_of m root = visit (net_of m) root (replicate 64 false)

-- the route: the nodes in the order the walk meets them, the root first and last
abbrev pub route_of : Mesh → ℕ → List ℕ
route_of m root = root ∷ tour root (tree_of m root)

-- no link is labelled tree
abbrev pub no_labels : List Bool
no_labels = replicate 256 false

-- the labels of the links, tree or not
abbrev pub labels_of : Mesh → ℕ → List Bool
labels_of m root = labelled (tree_of m root) no_labels

-- the entries that a route needs
abbrev pub needed : Mesh → ℕ
needed m = 2 * m.nodes - 1

-- the lowest node that node 0 does not reach
abbrev pub apart_at : Mesh → ℕ
apart_at m = lowest (unreached (net_of m)) m.nodes

-- asking for the route with an output of `room` entries: the mesh checks; 6 for a root that is no node; 20 with the lowest node that node 0 does not reach; 11 with the
-- entries needed
unfoldable pub collect_answer : Mesh → ℕ → ℕ → Answer
collect_answer m root room =
    and_then (mesh_answer m)
    (must (ltb root m.nodes) 6 0
    (must (not (any (unreached (net_of m)) m.nodes)) 20 (apart_at m)
    (must (leb (needed m) room) 11 (needed m)
    Accepted)))

abbrev pub collected_as : Answer → List Bool → ℕ → Collected
collected_as Accepted labels n = record { tree = labels; count = n; answer = Accepted }
collected_as (Err r) labels n = record { tree = no_labels; count = 0; answer = Refused r.number r.place }

-- the answer, with the labels and how many entries were written; on a refusal no link is labelled, and no entry was written
unfoldable pub collected : Mesh → ℕ → ℕ → Collected
collected m root room = collected_as (collect_answer m root room) (labels_of m root) (length (route_of m root))

-- the output afterwards: the route, then the entries past it as they were; on a refusal all as it was
unfoldable pub output_after : Mesh → ℕ → List ℕ → List ℕ
output_after m root out = output_as (collect_answer m root (length out)) (route_of m root) out
