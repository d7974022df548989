-- The net of a mesh, and what refusal 20 says of it (01, "Refusals from the input"). Definitions only.
use Rattle.std.specs.Prelude.{ℕ, zero, suc, ◌%◌, ◌<◌, ◌≡◌, ◌↔◌, Bool, true, not, cond, eqb, Option, Some, None, List, length, replicate}
use Rattle.scan.specs.Lowest.{lowest, any}
use Rattle.scan.specs.Bits.{has}
use Rattle.graph.specs.Net.{Net, Ways, Arc, Leads, both_ways, without}
use Rattle.mesh.specs.declared.Mesh.{Mesh}
use Rattle.mesh.specs.WellFormed.{link}
use Rattle.rows.specs.Rows.{Edge, put, Spread}

-- the nodes and links of a mesh
abbrev pub net_of : Mesh → Net
net_of m = record { nodes = m.nodes; links = m.count; low = λ i. (link m i).low; high = λ i. (link m i).high }

-- 20 no path between some two nodes: the place is the lowest node that node 0 doesn't reach
pub record NoPath (G : Net) (place : ℕ) : Type 0 where
  pub node : place < G.nodes
  pub unreached : Leads G both_ways 0 place → ⊥
  pub lowest : (v : ℕ) → v < place → Leads G both_ways 0 v

-- ---- what the code's functions give

-- link k is not the one that is left out
abbrev pub stays : Option ℕ → ℕ → Bool
stays None k = true
stays (Some gap) k = not (eqb gap k)

-- all ways but those of the link that is left out
abbrev pub ways_but : Option ℕ → Ways
ways_but None = both_ways
ways_but (Some gap) = without gap both_ways

-- the rows of the first links but for that one, both ways; a node's number counts modulo 64
unfoldable pub rows_of : Mesh → Option ℕ → ℕ → List ℕ
rows_of m gap zero = replicate 64 0
rows_of m gap (suc k) =
    let r = rows_of m gap k in
    cond (stays gap k) (put (put r ((link m k).low % 64) ((link m k).high % 64)) ((link m k).high % 64) ((link m k).low % 64)) r

-- the lowest index below n that passes p, where one does
abbrev pub lowest_of : (ℕ → Bool) → ℕ → Option ℕ
lowest_of p n = cond (any p n) (Some (lowest p n)) None

-- v is the lowest of so many nodes that no walk along the rows from node 0 comes to, if there is one; a node's number counts modulo 64
pub record Finds (nodes : ℕ) (rows : List ℕ) (v : Option ℕ) : Type 0 where
  pub reached : ℕ
  pub spread : Spread rows 0 reached
  pub found : v ≡ lowest_of (λ w. not (has reached (w % 64))) nodes

-- ---- rows and nets

-- the rows have the net's open ways
pub record Table (G : Net) (w : Ways) (rows : List ℕ) : Type 0 where
  pub sized : length rows ≡ 64
  pub ways : (u v : ℕ) → Edge rows u v ↔ Arc G w u v
