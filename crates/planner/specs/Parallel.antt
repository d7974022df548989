-- Links with the same ends in the planner's pass: what the flags at a link's turn say, and which ways along its ends other links leave open. Definitions only.
use Rattle.std.specs.Prelude.{ℕ, suc, ◌<◌, ◌≡◌, ◌≢◌, Bool, true, false, not}
use Rattle.graph.specs.Net.{Net, Ways}
use Rattle.nets.specs.Parallel.{Parallel}

module _ (G : Net) where
  -- the link after k has its ends; the link before k has
  abbrev pub Later : ℕ → Type 0
  Later k = (suc k < G.links) × Parallel G k (suc k)

  abbrev pub Earlier : ℕ → Type 0
  Earlier k = (i : ℕ) × (suc i ≡ k) × Later i

  -- another link with the ends of k is open by way d; none but k is
  abbrev pub Another : Ways → ℕ → Bool → Type 0
  Another w k d = (i : ℕ) × (i < G.links) × (i ≢ k) × (w i d ≡ true) × Parallel G i k

  abbrev pub Only : Ways → ℕ → Bool → Type 0
  Only w k d = (i : ℕ) → i < G.links → w i d ≡ true → Parallel G i k → i ≡ k

  -- by the flags of link k: which of its arcs another link has, that of way d and that of way (not d)
  pub record Stays (w : Ways) (k : ℕ) (d before after : Bool) : Type 0 where
    pub later : after ≡ true → (e : Bool) → Another w k e
    pub last : after ≡ false → Only w k (not d)
    pub earlier : before ≡ true → Another w k d
    pub alone : after ≡ false → before ≡ false → Only w k d
