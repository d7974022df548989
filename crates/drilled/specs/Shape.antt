-- The heaviest drill by link numbers (02, request 6): its net, its plan and its back-up digraph. Middle node i has the links 2 × i and 2 × i + 1. Definitions
-- only.
use Rattle.std.specs.Prelude.{ℕ, zero, suc, ◌+◌, ◌*◌, ◌<◌, ◌≡◌, List, [], ◌∷◌}
use Rattle.graph.specs.Net.{Net}
use Rattle.flood.specs.Digraph.{Digraph}

-- link 2 × i + a is between middle node i and outer node m + a, link 2 × m between the outer nodes
pub record DrillNet (m : ℕ) (G : Net) : Type 0 where
  pub nodes : G.nodes ≡ m + 2
  pub links : G.links ≡ 2 * m + 1
  pub middle : (i a : ℕ) → i < m → a < 2 → (G.low (2 * i + a) ≡ i) × (G.high (2 * i + a) ≡ m + a)
  pub across : (G.low (2 * m) ≡ m) × (G.high (2 * m) ≡ m + 1)

-- the first n of 0 1 0 1 ..
unfoldable pub alternating : ℕ → List ℕ
alternating zero = []
alternating (suc zero) = 0 ∷ []
alternating (suc (suc n)) = 0 ∷ (1 ∷ alternating n)

-- the arcs lead from outer node m + s to each middle node, from each of these to outer node m + t, and from there back to m + s. On wavelength 1 s is 0 and t is
-- 1, on wavelength 2 s is 1 and t is 0
pub record DrillDigraph (m s t : ℕ) (g : Digraph) : Type 0 where
  pub sides : s + t ≡ 1
  pub links : g.links ≡ 2 * m + 1
  pub into : (i : ℕ) → i < m → (g.tail (2 * i + s) ≡ m + s) × (g.head (2 * i + s) ≡ i)
  pub onward : (i : ℕ) → i < m → (g.tail (2 * i + t) ≡ i) × (g.head (2 * i + t) ≡ m + t)
  pub back : (g.tail (2 * m) ≡ m + t) × (g.head (2 * m) ≡ m + s)
