-- The loop over the elements of a list from element k on that joins a number for each by `|`, 0 just where the element passes a test: what it joined is 0
-- just where all of them pass. Assumes nothing.
use Rattle.std.specs.Prelude.{ℕ, ◌+◌, ◌≤◌, ◌<◌, min, ◌≡◌, Bool, ◌&&◌, List, eqb, length, get_or, drop}
use Rattle.std.proofs.Math.Path.{refl}
use Rattle.std.proofs.Common.{sym, ap, ◌∙◌, drop_of_length-le}
use Rattle.std.proofs.Math.Bool.{true, false}
use Rattle.std.specs.Int.Bits.{bit_or}
use Rattle.scan.specs.All.{all, all-step}
use Rattle.scan.specs.Bits.{or-zero}
use Rattle.scan.specs.Part.{drop_min}

module _ {A : Type 0} (p : A → Bool) (l : List A) where
  -- element i is looked at, or there is none; b says whether those before it pass
  next : (a : A) (i : ℕ) (b : Bool) → i < length l → (b && all p (drop i l)) ≡ ((b && p (get_or l i a)) && all p (drop (i + 1) l))
  next a i true h = all-step p l i a h
  next a i false h = refl

  last : (i : ℕ) (b : Bool) → length l ≤ i → (b && all p (drop i l)) ≡ b
  unfolding all
  last i true h = rw (drop_of_length-le l h)
  last i false h = refl

  module _ (k : ℕ) where
    -- `bits` joins the numbers of the elements from k on that stand before i
    abbrev pub Joined : ℕ → ℕ → Type 0
    Joined i bits = all p (drop k l) ≡ (eqb bits 0 && all p (drop i l))

    pub joined_none : (i : ℕ) → i ≡ min k (length l) → Joined i 0
    joined_none i e = ap (all p) (drop_min l k i e)

    pub joined-turn : (a : A) (i bits n : ℕ) → Joined i bits → i < length l → eqb n 0 ≡ p (get_or l i a) → Joined (i + 1) (bit_or bits n)
    joined-turn a i bits n j h e = rw (or-zero bits n, e) (j ∙ next a i (eqb bits 0) h)

    pub joined-all : (i bits : ℕ) → Joined i bits → length l ≤ i → eqb bits 0 ≡ all p (drop k l)
    joined-all i bits j h = sym (j ∙ last i (eqb bits 0) h)
