-- The survey of a mesh: its parts and its bridging links, all that stands behind refusals 20 and 21 (01, "Refusals from the input"). Definitions only.
use Rattle.std.specs.Prelude.{ℕ, List, replicate, Err}
use Rattle.scan.specs.Lowest.{lowest}
use Rattle.scan.specs.Fill.{filled}
use Rattle.scan.specs.Total.{bit}
use Rattle.graph.specs.Net.{Net, both_ways}
use Rattle.graph.specs.Reach.{reaches}
use Rattle.graph.specs.Greedy.{bridge}
use Rattle.mesh.specs.declared.Mesh.{Mesh}
use Rattle.mesh.specs.Answer.{Answer, Accepted, Refused}
use Rattle.mesh.specs.Mesh.{mesh_answer}
use Rattle.nets.specs.Nets.{net_of}
use Rattle.bridges.specs.declared.Surveyed.{Surveyed}

-- the part of v, all nodes that have a path to v, is known by its lowest node
unfoldable pub part_of : Net → ℕ → ℕ
part_of G v = lowest (λ u. reaches G both_ways v u) G.nodes

abbrev pub no_parts : List ℕ
no_parts = replicate 64 0

abbrev pub no_bridges : List ℕ
no_bridges = replicate 256 0

-- the part of each node, 0 past the last node
abbrev pub parts_by : Net → List ℕ
parts_by G = filled (part_of G) G.nodes no_parts

-- whether each link is a bridge, that is, no path joins its ends without it: 1 or 0, and 0 past the last link
abbrev pub bridges_by : Net → List ℕ
bridges_by G = filled (λ k. bit (bridge G k)) G.links no_bridges

abbrev pub bridges_of : Mesh → List ℕ
bridges_of m = bridges_by (net_of m)

abbrev pub surveyed_as : Answer → List ℕ → List ℕ → Surveyed
surveyed_as Accepted parts bridges = record { parts = parts; bridges = bridges; answer = Accepted }
surveyed_as (Err r) parts bridges = record { parts = no_parts; bridges = no_bridges; answer = Refused r.number r.place }

-- the mesh checks' answer, the parts and the bridges; all zeros on a refusal
unfoldable pub surveyed : Mesh → Surveyed
surveyed m = surveyed_as (mesh_answer m) (parts_by (net_of m)) (bridges_of m)
