-- What a scan over the links has passed, and where it stopped. Definitions only.
use Rattle.std.specs.Prelude.{ℕ, ◌+◌, ◌≤◌, ◌≡◌, Bool, true}
use Rattle.scan.specs.Lowest.{any, None}

-- a test, as its calls show, says p of the links from m on
abbrev pub Tells : (ℕ → Bool → Type 0) → (ℕ → Bool) → ℕ → Type 0
Tells calls p m = (i : ℕ) (t : Bool) → m ≤ i → calls i t → t ≡ p i

-- a scan of `links` links stands at i: none below i passes
pub record Passed (p : ℕ → Bool) (links i : ℕ) : Type 0 where
  pub within : i ≤ links
  pub none : None p i

-- a scan by blocks of n stopped at i: the block there, where it is whole, has one that passes
pub record Stopped (p : ℕ → Bool) (links n i : ℕ) : Type 0 where
  pub passed : Passed p links i
  pub found : i + n ≤ links → any (λ j. p (i + j)) n ≡ true
