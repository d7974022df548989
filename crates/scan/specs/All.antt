-- Whether every element of a list passes a test. Assumes nothing.
use Prim.Native.Nat.{ℕ, zero, suc, ◌+◌, ◌-◌, ◌≤◌, ◌<◌}
use Rattle.std.specs.Prelude.{◌≡◌, Bool, true, false, ◌&&◌, length, get_or, drop, replicate}
use Rattle.std.proofs.Math.Path.{refl}
use Rattle.std.proofs.Common.{sym, ◌∙◌, arith, get_or-drop, drop-cons}
use Rattle.std.proofs.Math.Logic.{⊎_elim}
use Rattle.std.proofs.Math.Bool.{and-eq-true_iff}
use mathlib.Core.List.{List, [], ◌∷◌}
use Rattle.std.proofs.Math.Numerals.{add-one}
use Rattle.scan.specs.Test.{clash, known}

-- every element passes
unfoldable pub all : {A : Type 0} → (A → Bool) → List A → Bool
all p [] = true
all p (a ∷ l) = p a && all p l

module _ {A : Type 0} (p : A → Bool) where
  -- each element passes, also one past the end that does
  all-each : (a : A) → p a ≡ true → (l : List A) → all p l ≡ true → (i : ℕ) → p (get_or l i a) ≡ true
  unfolding all
  all-each a t [] e i = t
  all-each a t (b ∷ l) e zero = ((and-eq-true_iff (p b) (all p l)).0 e).0
  all-each a t (b ∷ l) e (suc i) = all-each a t l ((and-eq-true_iff (p b) (all p l)).0 e).1 i

  -- one does not
  all_fails : (a : A) (l : List A) → all p l ≡ false → (i : ℕ) × (p (get_or l i a) ≡ false)
  unfolding all
  all_fails a [] f = clash refl f
  all_fails a (b ∷ l) f =
      ⊎_elim
      (λ t. let (i, h) = all_fails a l (sym (rw t) ∙ f) in (suc i, h))
      (λ t. (0, t))
      (known (p b))

  -- a list of which each element is a
  pub all_same : (a : A) → ((b : A) → p b ≡ true → b ≡ a) → (l : List A) → all p l ≡ true → l ≡ replicate (length l) a
  unfolding all
  all_same a h [] e = refl
  all_same a h (b ∷ l) e = let (s, t) = (and-eq-true_iff (p b) (all p l)).0 e in λ j. h b s j ∷ all_same a h l t j

  pub all_replicate : (n : ℕ) (a : A) → p a ≡ true → all p (replicate n a) ≡ true
  unfolding all
  all_replicate zero a t = refl
  all_replicate (suc n) a t = rw t (all_replicate n a t)

  -- element i, then those after it
  pub all-step : (l : List A) (i : ℕ) (a : A) → i < length l → all p (drop i l) ≡ (p (get_or l i a) && all p (drop (i + 1) l))
  unfolding all
  all-step l i a h = rw (drop-cons l i a h, add-one i)

  -- ---- of the elements from element k on

  module _ (a : A) (l : List A) (k : ℕ) where
    -- where all pass each does, also one past the end that does
    pub all-drop-each : p a ≡ true → all p (drop k l) ≡ true → (i : ℕ) → k ≤ i → p (get_or l i a) ≡ true
    all-drop-each t e i h = let s : k + (i - k) ≡ i = omega arith in rw (get_or-drop, s) at (all-each a t (drop k l) e (i - k))

    -- where not all do one does not
    pub all-drop_fails : all p (drop k l) ≡ false → (i : ℕ) × (k ≤ i) × (p (get_or l i a) ≡ false)
    all-drop_fails e = let (i, f) = all_fails a (drop k l) e in (k + i, omega arith, rw get_or-drop at f)

    -- where each does all do
    pub all_drop : ((i : ℕ) → k ≤ i → p (get_or l i a) ≡ true) → all p (drop k l) ≡ true
    all_drop h = ⊎_elim (λ e. e) (λ e. let (i, b, f) = all-drop_fails e in clash (h i b) f) (known (all p (drop k l)))
