-- A loop that sums lengths, and keeps whether one of them is 0. Assumes nothing.
use Rattle.std.specs.Prelude.{ℕ, ◌+◌, ◌≡◌, refl, Bool, true, false, ◌||◌, eqb}
use Rattle.std.proofs.Common.{ap, ◌∙◌, add-one}
use Rattle.std.proofs.Math.Path.{ap₂}
use Rattle.std.proofs.Math.Bool.{cond}
use Rattle.scan.specs.Lowest.{any, any-zero, any-turn}
use Rattle.scan.specs.Total.{total, total-next}
use Rattle.metres.specs.Known.{Metres, NotKnown}
use Rattle.metres.specs.Length.{length_of}

module _ (length : ℕ → ℕ) where
  -- the sum of the first k lengths, and whether one of them is 0
  abbrev pub Summed : ℕ → ℕ → Bool → Type 0
  Summed k sum unmeasured = (sum ≡ total length k) × (unmeasured ≡ any (λ i. eqb (length i) 0) k)

  -- before the loop
  pub summed_none : Summed 0 0 false
  unfolding total
  summed_none = (refl, any-zero _)

  -- one turn
  pub summed_turn : (k sum v : ℕ) (unmeasured : Bool) → Summed k sum unmeasured → v ≡ length k → Summed (k + 1) (sum + v) (unmeasured || eqb v 0)
  summed_turn k sum v unmeasured (s, u) e = (
    ap₂ ◌+◌ s e ∙ rw (add-one k, total-next length k),
    any-turn (λ i. eqb (length i) 0) k unmeasured (eqb v 0) _ u (ap (λ (w : ℕ). eqb w 0) e) refl,
  )

  -- after it
  pub summed_all : (k sum : ℕ) (unmeasured : Bool) → Summed k sum unmeasured → cond unmeasured NotKnown (Metres sum) ≡ length_of length (λ i. true) k
  unfolding length_of
  summed_all k sum unmeasured (s, u) = ap₂ (λ (t : Bool) (m : ℕ). cond t NotKnown (Metres m)) u s
