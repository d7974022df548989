-- What a survey says, in walks along links, and how planning's answer follows from it (01, "Refusals from the input"). Definitions only.
use Rattle.std.specs.Prelude.{ℕ, ◌<◌, ◌≤◌, Bool, not, eqb}
use Rattle.scan.specs.Entry.{at}
use Rattle.scan.specs.Lowest.{lowest, any}
use Rattle.graph.specs.Net.{Net, Leads, both_ways, without}
use Rattle.mesh.specs.declared.Mesh.{Mesh}
use Rattle.mesh.specs.Answer.{Answer, Accepted}
use Rattle.mesh.specs.Mesh.{must, and_then}
use Rattle.bridges.specs.declared.Surveyed.{Surveyed}

-- `place` is the lowest node of the part of v: of the nodes that have a path to v
pub record PartOf (G : Net) (v place : ℕ) : Type 0 where
  pub node : place < G.nodes
  pub joined : Leads G both_ways place v
  pub lowest : (u : ℕ) → u < G.nodes → Leads G both_ways u v → place ≤ u

-- link k is a bridge: without it no path joins its ends
abbrev pub Bridges : Net → ℕ → Type 0
Bridges G k = Leads G (without k both_ways) (G.low k) (G.high k) → ⊥

-- by a survey: v is in another part than node 0; link k is a bridge
abbrev pub apart : Surveyed → ℕ → Bool
apart s v = not (eqb (at s.parts v) 0)

abbrev pub bridging : Surveyed → ℕ → Bool
bridging s k = eqb (at s.bridges k) 1

-- planning's answer by a survey: the refusal of the mesh checks; 20 with the lowest node in another part than node 0; 21 with the lowest bridge
abbrev pub verdict : Mesh → Surveyed → Answer
verdict m s =
    and_then s.answer
    (must (not (any (apart s) m.nodes)) 20 (lowest (apart s) m.nodes)
    (must (not (any (bridging s) m.count)) 21 (lowest (bridging s) m.count)
    Accepted))
