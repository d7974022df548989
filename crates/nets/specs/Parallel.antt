-- Links with the same ends (02, request 7), and the order of a net's links. Definitions only.
use Rattle.std.specs.Prelude.{ℕ, ◌<◌, ◌≤◌, ◌≡◌}
use Rattle.graph.specs.Net.{Net}

module _ (G : Net) where
  -- links i and j have the same ends
  abbrev pub Parallel : ℕ → ℕ → Type 0
  Parallel i j = (G.low i ≡ G.low j) × (G.high i ≡ G.high j)

  -- the low end of each link is below its high end, and links with the same ends stand next to each other
  pub record Ordered : Type 0 where
    pub upward : (i : ℕ) → i < G.links → G.low i < G.high i
    pub gathered : (i j k : ℕ) → i ≤ j → j ≤ k → k < G.links → Parallel i k → Parallel i j
