-- Nets: nodes and links by number, each link with a low and a high end. Open ways along links, walks, and assignments of directions.
-- Two links may join the same nodes. Definitions only.
use Rattle.std.specs.Prelude.{ℕ, ◌<◌, ◌≤◌, ◌≡◌, ◌⊎◌, Bool, true, false, not, ◌&&◌, List, length, get_or, eqb}
use Rattle.graph.specs.Walk.{Walk}

pub record Net : Type 0 where
  pub nodes : ℕ
  pub links : ℕ
  pub low : ℕ → ℕ
  pub high : ℕ → ℕ

-- there is a node, and the ends of every link are nodes
pub record Fits (G : Net) : Type 0 where
  pub some-node : 0 < G.nodes
  pub low_below : (i : ℕ) → i < G.links → G.low i < G.nodes
  pub high_below : (i : ℕ) → i < G.links → G.high i < G.nodes

-- the same links, on n nodes
abbrev pub with_nodes : ℕ → Net → Net
with_nodes n G = record { nodes = n; links = G.links; low = G.low; high = G.high }

-- ---- ways and walks

-- the two ways along a link: false from its low to its high end, true from its high to its low end; way d leads from `end G i d` to `end G i (not d)`
abbrev pub end : Net → ℕ → Bool → ℕ
end G i false = G.low i
end G i true = G.high i

-- which ways along which links are open
abbrev pub Ways : Type 0
Ways = ℕ → Bool → Bool

-- an arc from u to v: an open way along a link
pub record Arc (G : Net) (m : Ways) (u v : ℕ) : Type 0 where
  pub link : ℕ
  pub way : Bool
  pub below : link < G.links
  pub free : m link way ≡ true
  pub starts : u ≡ end G link way
  pub ends : v ≡ end G link (not way)

-- a walk leads from u to v
abbrev pub Leads : Net → Ways → ℕ → ℕ → Type 0
Leads G m u v = Walk (Arc G m) u v

-- one leads from every node to every other
abbrev pub Strong : Net → Ways → Type 0
Strong G m = (u v : ℕ) → u < G.nodes → v < G.nodes → Leads G m u v

-- every link in either direction (01: a path between two nodes)
abbrev pub both_ways : Ways
both_ways i d = true

-- the link k taken away; its nodes stay
abbrev pub without : ℕ → Ways → Ways
without k m i d = not (eqb i k) && m i d

-- some two nodes have no walk between them
abbrev pub Parted : Net → Ways → Type 0
Parted G m = (u : ℕ) × (v : ℕ) × (u < G.nodes) × (v < G.nodes) × (Leads G m u v → ⊥)

-- ---- assignments of directions

-- a direction is 0, low to high, or 1, high to low
abbrev pub code : Bool → ℕ
code false = 0
code true = 1

-- the ways that an assignment leaves open
abbrev pub along : List ℕ → Ways
along p i d = eqb (get_or p i 0) (code d)

-- a direction for each link
pub record Assignment (G : Net) (p : List ℕ) : Type 0 where
  pub sized : length p ≡ G.links
  pub directions : (i : ℕ) → i < G.links → get_or p i 0 ≤ 1

-- 01's admissible: from every node a directed path leads to every other
pub record Admissible (G : Net) (p : List ℕ) : Type 0 where
  pub assigns : Assignment G p
  pub strong : Strong G (along p)

-- p stands before q when they are compared from link 0 on, 0 before 1
pub record Before (p q : List ℕ) : Type 0 where
  pub place : ℕ
  pub inside : place < length p
  pub same : (i : ℕ) → i < place → get_or p i 0 ≡ get_or q i 0
  pub smaller : get_or p place 0 < get_or q place 0

-- the first admissible assignment
pub record First (G : Net) (p : List ℕ) : Type 0 where
  pub admissible : Admissible G p
  pub least : (q : List ℕ) → Admissible G q → (p ≡ q) ⊎ Before p q
