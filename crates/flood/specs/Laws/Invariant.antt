-- What holds of the links' states S and the reached nodes R from the failure on, whatever the order of the deliveries. Definitions only.
use Rattle.std.specs.Prelude.{ℕ, ◌<◌, ◌≤◌, ◌≡◌, ◌≢◌, ◌⊎◌, ◌↔◌, Bool, true, false}
use Rattle.flood.specs.Digraph.{Digraph, Failure}
use Rattle.flood.specs.Laws.Tests.{Into, OutOf}

module _ (g : Digraph) (c : Failure) where
  open g use {links, tail, head}
  open c use {source, target, blocked}

  -- link i is not blocked, and leaves a reached node other than the target
  abbrev pub Open : (ℕ → Bool) → ℕ → Type 0
  Open R i = (R (tail i) ≡ true) × (tail i ≢ target) × (blocked i ≡ false)

  -- v is the target and reached, or a link out of v is offered, taken or refused
  abbrev pub Needed : (ℕ → ℕ) → (ℕ → Bool) → ℕ → Type 0
  Needed S R v = ((v ≡ target) × (R target ≡ true)) ⊎ OutOf g S v

  -- nodes can be ranked so that every taken link leads to a higher one
  pub record Ranked (S : ℕ → ℕ) (R : ℕ → Bool) : Type 0 where
    pub rank : ℕ → ℕ
    pub top : ℕ
    pub rises : (i : ℕ) → i < links → S i ≡ 2 → rank (tail i) < rank (head i)
    pub below : (v : ℕ) → R v ≡ true → rank v < top

  -- just the open links have been offered; a link that is no longer merely offered has a reached head; at most one link is taken into a node, and none
  -- into the source; any other node has a link taken into it just where it needs one
  pub record Inv (S : ℕ → ℕ) (R : ℕ → Bool) : Type 0 where
    pub source_reached : R source ≡ true
    pub opened : (i : ℕ) → i < links → (0 < S i) ↔ Open R i
    pub head_reached : (i : ℕ) → i < links → 2 ≤ S i → R (head i) ≡ true
    pub one_in : (i j : ℕ) → i < links → j < links → S i ≡ 2 → S j ≡ 2 → head i ≡ head j → i ≡ j
    pub none_in : (i : ℕ) → i < links → S i ≡ 2 → head i ≢ source
    pub fed : (v : ℕ) → v ≢ source → Into g S v ↔ Needed S R v
    pub ranked : Ranked S R
