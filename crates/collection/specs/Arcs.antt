-- The arcs of a net's links in a table that chains those of each node. Definitions only.
use Rattle.std.specs.Prelude.{ℕ, ◌+◌, ◌*◌, ◌/◌, ◌<◌, ◌≤◌, ◌≡◌, Bool, false, List}
use Rattle.scan.specs.Entry.{at}
use Rattle.graph.specs.Net.{Net, with_nodes, end, code}
use Rattle.mesh.specs.declared.Mesh.{Mesh}
use Rattle.nets.specs.Nets.{net_of}
use Rattle.depth_first.specs.Search.{touches}

-- the arc along link i in the way d: 2 × i from its low to its high end, 2 × i + 1 back
abbrev pub arc_of : ℕ → Bool → ℕ
arc_of i d = 2 * i + code d

-- the net of the first arcs, by the nodes that they lead to
abbrev pub net_of_arcs : ℕ → ℕ → List ℕ → Net
net_of_arcs nodes links to = record { nodes = nodes; links = links; low = λ i. at to (2 * i + 1); high = λ i. at to (2 * i) }

module _ (G : Net) where
  -- arc a leaves u, or is the end of a chain
  pub data Leaves (u a : ℕ) : Type 0 where
    ended : G.links ≤ a / 2 → Leaves u a
    leaving : (i : ℕ) (d : Bool) → a ≡ arc_of i d → i < G.links → u ≡ end G i d → Leaves u a

  -- a is the first arc that leaves u along a link from k on, by rising number, or the chain's end
  pub record Heads (u k a : ℕ) : Type 0 where
    pub leaves : Leaves u a
    pub from : k ≤ a / 2
    pub others : (j : ℕ) → k ≤ j → j < a / 2 → j < G.links → touches G u j ≡ false

  -- the table chains the arcs that leave each node
  pub record Chains (next : List ℕ) : Type 0 where
    pub heads : (u : ℕ) → u < G.nodes → Heads u 0 (at next (512 + u))
    pub later : (i : ℕ) (d : Bool) → i < G.links → Heads (end G i d) (i + 1) (at next (arc_of i d))

-- the links of m on as many nodes as the tables have entries for
abbrev pub table_net : Mesh → Net
table_net m = with_nodes 64 (net_of m)

-- the tables hold the arcs of m
pub record Chained (m : Mesh) (next to : List ℕ) : Type 0 where
  pub net_is : net_of_arcs 64 m.count to ≡ table_net m
  pub chains : Chains (table_net m) next
