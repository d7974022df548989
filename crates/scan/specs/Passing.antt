-- The indices that pass a test, as a rising list: how many, which, in which order. Assumes nothing.
use Rattle.std.specs.Prelude.{ℕ, zero, suc, ◌+◌, ◌<◌, ◌≤◌, ◌≡◌, ◌↔◌, ◌≢◌, Bool, true, false, cond, length}
use Rattle.std.proofs.Math.Path.{refl}
use Rattle.std.proofs.Common.{sym, ap, ap₂, ◌∙◌, ⊎_elim, arith, add-one, length-append}
use mathlib.Core.List.Memᴰ
use mathlib.Core.List.{List, [], ◌∷◌, ◌++◌, append-nil, Memᴰ}
use Rattle.std.proofs.Math.Decide.{ℕ_discrete}
use Rattle.scan.specs.Test.{known, clash}
use Rattle.scan.specs.Lowest.{None}
use Rattle.scan.specs.Total.{count, count_none, count_pass, count_fail, count-le}
use Rattle.scan.specs.Distinct.{Rising, rising_more}

-- the indices below n that pass p, rising
unfoldable pub passing : (ℕ → Bool) → ℕ → List ℕ
passing p zero = []
passing p (suc n) = passing p n ++ cond (p n) (n ∷ []) []

module _ (p : ℕ → Bool) where
  -- no index; index i passes, or it does not
  pub passing_none : [] ≡ passing p 0
  unfolding passing
  passing_none = refl

  pub passing_pass : (i : ℕ) → p i ≡ true → passing p (i + 1) ≡ passing p i ++ (i ∷ [])
  unfolding passing
  passing_pass i t = rw (add-one i, t)

  pub passing_fail : (i : ℕ) → p i ≡ false → passing p (i + 1) ≡ passing p i
  unfolding passing
  passing_fail i t = rw (add-one i, t) (append-nil (passing p i))

  -- induction on the indices, by whether the next one passes
  module _ (P : ℕ → Type 0) where
    pub by_index : P 0 → ((i : ℕ) → P i → p i ≡ true → P (i + 1)) → ((i : ℕ) → P i → p i ≡ false → P (i + 1)) → (n : ℕ) → P n
    by_index none on off zero = none
    by_index none on off (suc n) = let r = by_index none on off n in rw (← add-one n) (⊎_elim (on n r) (off n r) (known (p n)))

  -- how many they are
  pub counted_none : 0 ≡ length (passing p 0)
  counted_none = ap length passing_none

  pub counted_pass : (i n : ℕ) → n ≡ length (passing p i) → p i ≡ true → n + 1 ≡ length (passing p (i + 1))
  counted_pass i n e t = rw (passing_pass i t, length-append, e)

  pub counted_fail : (i n : ℕ) → n ≡ length (passing p i) → p i ≡ false → n ≡ length (passing p (i + 1))
  counted_fail i n e t = rw (passing_fail i t) e

  length-passing : (n : ℕ) → length (passing p n) ≡ count p n
  length-passing =
      by_index (λ n. length (passing p n) ≡ count p n)
      (sym counted_none ∙ count_none p)
      (λ i e t. sym (counted_pass i _ refl t) ∙ count_pass p i _ e t)
      (λ i e t. sym (counted_fail i _ refl t) ∙ count_fail p i _ e t)

  pub passing-le : (n : ℕ) → length (passing p n) ≤ n
  passing-le n = omega (arith, length-passing n, count-le p n)

  -- fewer pass below one that passes than below a later index
  pub passing_less : (n i : ℕ) → i < n → p i ≡ true → length (passing p i) < length (passing p n)
  passing_less =
      by_index (λ n. (i : ℕ) → i < n → p i ≡ true → length (passing p i) < length (passing p n))
      (λ i l t. absurd (omega arith))
      (λ n r u i l t. elim (ℕ_discrete i n) [
        | yes e ↦ rw e (omega (arith, counted_pass n _ refl u))
        | no e ↦ omega (arith, r i (omega arith) t, counted_pass n _ refl u)
      ])
      (λ n r u i l t. elim (ℕ_discrete i n) [ yes e ↦ clash t (rw e u) | no e ↦ omega (arith, r i (omega arith) t, counted_fail n _ refl u) ])

  -- which they are
  pub passing-mem : (n i : ℕ) → Memᴰ i (passing p n) ↔ ((i < n) × (p i ≡ true))
  passing-mem =
      by_index (λ n. (i : ℕ) → Memᴰ i (passing p n) ↔ ((i < n) × (p i ≡ true)))
      (λ i. rw (← passing_none) (λ o. absurd (Memᴰ.not-nil o), λ (l, t). absurd (omega arith)))
      (λ n r u i. rw (passing_pass n u) (
        λ o. ⊎_elim
            (λ q. let (l, t) = (r i).0 q in (omega arith, t))
            (λ q. let e : i ≡ n = Memᴰ.eq_of_singleton q in (omega arith, rw e u))
            (Memᴰ.append_cases (passing p n) o),
        λ (l, t). elim (ℕ_discrete i n) [
          | yes e ↦ Memᴰ.append_right (passing p n) (Memᴰ.head e)
          | no e ↦ Memᴰ.append_left (n ∷ []) ((r i).1 (omega arith, t))
        ],
      ))
      (λ n r u i. rw (passing_fail n u) (
        λ o. let (l, t) = (r i).0 o in (omega arith, t),
        λ (l, t). elim (ℕ_discrete i n) [ yes e ↦ clash t (rw e u) | no e ↦ (r i).1 (omega arith, t) ],
      ))

  -- in which order
  pub passing_rising : (n : ℕ) → Rising (passing p n)
  passing_rising =
      by_index (λ n. Rising (passing p n))
      (rw (← passing_none) tt)
      (λ n r u. rw (passing_pass n u) (rising_more (passing p n) n r (λ b o. ((passing-mem n b).0 o).0)))
      (λ n r u. rw (passing_fail n u) r)

  -- none, and one only
  passing-nil : (n : ℕ) → None p n → passing p n ≡ []
  passing-nil =
      by_index (λ n. None p n → passing p n ≡ [])
      (λ h. sym passing_none)
      (λ n r u h. clash u (h n (omega arith)))
      (λ n r u h. passing_fail n u ∙ r (λ j l. h j (omega arith)))

  pub passing_one : (n k : ℕ) → k < n → p k ≡ true → ((i : ℕ) → i < n → i ≢ k → p i ≡ false) → passing p n ≡ k ∷ []
  passing_one n k =
      by_index (λ n. k < n → p k ≡ true → ((i : ℕ) → i < n → i ≢ k → p i ≡ false) → passing p n ≡ k ∷ [])
      (λ l t h. absurd (omega arith))
      (λ n r u l t h. elim (ℕ_discrete n k) [
        | yes e ↦ passing_pass n u ∙ ap₂ (λ (xs : List ℕ) (i : ℕ). xs ++ (i ∷ [])) (passing-nil n (λ j b. h j (omega arith) (λ q. omega arith))) e
        | no e ↦ clash u (h n (omega arith) e)
      ])
      (λ n r u l t h. elim (ℕ_discrete n k) [
        | yes e ↦ clash (rw e t) u
        | no e ↦ passing_fail n u ∙ r (omega arith) t (λ i b. h i (omega arith))
      ])
      n

-- the same test gives the same list
pub passing-same : (p q : ℕ → Bool) (n : ℕ) → ((i : ℕ) → i < n → p i ≡ q i) → passing p n ≡ passing q n
unfolding passing
passing-same p q zero h = refl
passing-same p q (suc n) h = ap₂ (λ (xs : List ℕ) (t : Bool). xs ++ cond t (n ∷ []) []) (passing-same p q n (λ i l. h i (omega arith))) (h n (omega arith))
