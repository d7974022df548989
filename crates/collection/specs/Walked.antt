-- The contracts of the walk. Definitions only.
use Rattle.std.specs.Prelude.{ℕ, ◌+◌, ◌*◌, ◌/◌, ◌≤◌, ◌<◌, ◌≡◌, Bool, true, false, Option, Some, None, List, ◌∷◌, length, replicate, set}
use Rattle.std.proofs.lemmas.List.Edits.{sets}
use Rattle.scan.specs.Entry.{has}
use Rattle.graph.specs.Net.{Net, Fits}
use Rattle.mesh.specs.declared.Mesh.{Mesh}
use Rattle.depth_first.specs.Tree.{Tree, visited, labelled, tour}
use Rattle.depth_first.specs.Search.{opens, unvisited, visit, follow}
use Rattle.collection.specs.declared.arcs.Arcs.{Arcs}
use Rattle.collection.specs.declared.walk.Walk.{Walk}
use Rattle.collection.specs.Collection.{no_labels, tree_of, route_of}
use Rattle.collection.specs.Arcs.{net_of_arcs, Leaves, Chains}

-- the table chains the arcs of a net of at most 256 links
pub record CanTry (G : Net) (next : List ℕ) : Type 0 where
  pub fits : Fits G
  pub few : G.links ≤ 256
  pub chains : Chains G next

-- u is a new node, and the route has room for the walk
pub record CanVisit (G : Net) (next : List ℕ) (u place : ℕ) (seen : List Bool) (route : List ℕ) : Type 0 where
  pub can : CanTry G next
  pub inside : u < G.nodes
  pub new : has seen u ≡ false
  pub flags : length seen ≡ 64
  pub entries : length route ≡ 127
  pub room : place + 2 * unvisited G seen ≤ 128

-- the links of u are left from that of the arc on
pub record CanFollow (G : Net) (next : List ℕ) (u arc place : ℕ) (seen : List Bool) (route : List ℕ) : Type 0 where
  pub can : CanTry G next
  pub leaves : Leaves G u arc
  pub flags : length seen ≡ 64
  pub entries : length route ≡ 127
  pub room : place + 2 * unvisited G seen ≤ 127

-- of the arcs from `arc` on that leave the same node, those before r lead to no new node
pub record Passed (G : Net) (seen : List Bool) (arc r : ℕ) : Type 0 where
  pub from : arc / 2 ≤ r / 2
  pub leaves : (u : ℕ) → Leaves G u arc → Leaves G u r
  pub no_new : (u : ℕ) → Leaves G u arc → (j : ℕ) → arc / 2 ≤ j → j < r / 2 → j < G.links → opens G seen u j ≡ false

-- r does
pub record Leading (G : Net) (seen : List Bool) (arc r : ℕ) : Type 0 where
  pub passed : Passed G seen arc r
  pub below : r / 2 < G.links
  pub leads : (u : ℕ) → Leaves G u arc → opens G seen u (r / 2) ≡ true

-- none of them does
abbrev pub NoneLeads : Net → List Bool → ℕ → Type 0
NoneLeads G seen arc = (u : ℕ) → Leaves G u arc → (j : ℕ) → arc / 2 ≤ j → j < G.links → opens G seen u j ≡ false

-- the first that does, if there is one
abbrev pub Next : Net → List Bool → ℕ → Option ℕ → Type 0
Next G seen arc (Some r) = Leading G seen arc r
Next G seen arc None = NoneLeads G seen arc

-- what the walk along the tree T below u, which writes these nodes from `place` on, leaves
pub record Walked (T : Tree) (nodes : List ℕ) (place : ℕ) (seen labels : List Bool) (route : List ℕ) (r : ℕ) (seen' labels' : List Bool) (route' : List ℕ) : Type 0 where
  pub next : r ≡ place + length nodes
  pub seen_is : seen' ≡ visited T seen
  pub labels_are : labels' ≡ labelled T labels
  pub written : route' ≡ sets route place nodes

abbrev pub Visited : Net → ℕ → ℕ → List Bool → List Bool → List ℕ → ℕ → List Bool → List Bool → List ℕ → Type 0
Visited G u place seen labels route =
    let T = visit G u seen in
    Walked T (u ∷ tour u T) place (set seen u true) labels route

abbrev pub Followed : Net → ℕ → ℕ → ℕ → List Bool → List Bool → List ℕ → ℕ → List Bool → List Bool → List ℕ → Type 0
Followed G u arc place seen labels route =
    let T = follow G (arc / 2) u seen in
    Walked T (tour u T) place seen labels route

-- ---- the same of the code's tables of arcs and of its walk before and after

abbrev pub net_in : Arcs → Net
net_in a = net_of_arcs 64 a.links a.to

abbrev pub MayVisit : Arcs → ℕ → Walk → Type 0
MayVisit a u w = CanVisit (net_in a) a.next u w.count w.seen w.route

abbrev pub MayFollow : Arcs → ℕ → ℕ → Walk → Type 0
MayFollow a u arc w = CanFollow (net_in a) a.next u arc w.count w.seen w.route

abbrev pub Visits : Arcs → ℕ → Walk → Walk → Type 0
Visits a u w w' = Visited (net_in a) u w.count w.seen w.tree w.route w'.count w'.seen w'.tree w'.route

abbrev pub Follows : Arcs → ℕ → ℕ → Walk → Walk → Type 0
Follows a u arc w w' = Followed (net_in a) u arc w.count w.seen w.tree w.route w'.count w'.seen w'.tree w'.route

-- nothing is visited, labelled or written
abbrev pub unwalked : Walk
unwalked = record { seen = replicate 64 false; tree = no_labels; route = replicate 127 0; count = 0 }

-- ---- the whole walk from a root of m

pub record WalkedFrom (m : Mesh) (root : ℕ) (labels : List Bool) (route : List ℕ) (r : ℕ) (labels' : List Bool) (route' : List ℕ) : Type 0 where
  pub entries : r ≡ length (route_of m root)
  pub labels_are : labels' ≡ labelled (tree_of m root) labels
  pub written : route' ≡ sets route 0 (route_of m root)
