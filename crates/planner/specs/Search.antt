-- What the pass of the planner's code over the links is given and gives. Definitions only.
use Rattle.std.specs.Prelude.{ℕ, ◌-◌, ◌≡◌, cond, Result, Ok, Err, List, ◌++◌, replicate}
use Rattle.scan.specs.Lowest.{lowest, any}
use Rattle.graph.specs.Net.{Strong, both_ways}
use Rattle.graph.specs.Plan.{parts}
use Rattle.graph.specs.Greedy.{greedy}
use Rattle.mesh.specs.declared.Mesh.{Mesh}
use Rattle.mesh.specs.WellFormed.{WellFormed}
use Rattle.mesh.specs.Parts.{ends_in}
use Rattle.nets.specs.Nets.{net_of, Table}

-- the number of links of a mesh, their ends, and its rows both ways, where every two nodes have a path between them
pub record Given (m : Mesh) (count : ℕ) (ends ways : List ℕ) : Type 0 where
  pub formed : WellFormed m
  pub counted : count ≡ m.count
  pub stored : ends ≡ ends_in m
  pub table : Table (net_of m) both_ways ways
  pub joined : Strong (net_of m) both_ways

-- all directions, or the lowest link whose removal parts the mesh
unfoldable pub directed : Mesh → Result (List ℕ) ℕ
directed m =
    cond (any (parts (net_of m)) m.count)
    (Err (lowest (parts (net_of m)) m.count))
    (Ok (greedy (net_of m) m.count ++ replicate (256 - m.count) 0))
