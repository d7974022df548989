-- Lists of flags: one flag more, and lists in which every flag that stood still stands. Assumes nothing.
use Rattle.std.specs.Prelude.{ℕ, suc, ◌<◌, ◌≡◌, refl, ◌⊎◌, Bool, true, false, List, length, set}
use Rattle.std.proofs.Common.{sym, ap, ◌∙◌, inl, inr, arith, length-set, get_or-set_same, get_or-set_other, ext_get_or}
use Rattle.std.proofs.Math.Decide.{ℕ_discrete, dec_lt}
use Rattle.std.proofs.lemmas.List.{set-get_or}
use Rattle.scan.specs.Entry.{has}
use Rattle.scan.specs.Total.{bit, count, total_but, count_tight}

-- a flag that stands after a store at j stands at j or stood before
pub set_only : (l : List Bool) (j i : ℕ) → has (set l j true) i ≡ true → (i ≡ j) ⊎ (has l i ≡ true)
set_only l j i h = elim (ℕ_discrete i j) [ yes e ↦ inl e | no n ↦ inr (sym (get_or-set_other l j i true false n) ∙ h) ]

-- a flag that stood still stands
pub set_keeps : (l : List Bool) (j i : ℕ) → has l i ≡ true → has (set l j true) i ≡ true
set_keeps l j i h = elim (ℕ_discrete i j) [
  | yes e ↦ let q : set l j true ≡ l = cc (set-get_or l i false) in rw q h
  | no n ↦ get_or-set_other l j i true false n ∙ h
]

-- every flag of l stands in r
pub record Extends (l r : List Bool) : Type 0 where
  pub sized : length r ≡ length l
  pub keeps : (i : ℕ) → has l i ≡ true → has r i ≡ true

pub extends_refl : (l : List Bool) → Extends l l
extends_refl l = record { sized = refl; keeps = λ i h. h }

pub extends_trans : {l r x : List Bool} → Extends l r → Extends r x → Extends l x
extends_trans a b = record { sized = b.sized ∙ a.sized; keeps = λ i h. b.keeps i (a.keeps i h) }

pub extends_set : {l r : List Bool} → Extends l r → (j : ℕ) → Extends l (set r j true)
extends_set {l} {r} x j = record { sized = length-set r j true ∙ x.sized; keeps = λ i h. set_keeps r j i (x.keeps i h) }

-- then r is l, or more flags stand in it
pub extends_grows : {l r : List Bool} → Extends l r → (n : ℕ) → length l ≡ n → (r ≡ l) ⊎ (count (has l) n < count (has r) n)
extends_grows {l} {r} x n e = elim (dec_lt (count (has l) n) (count (has r) n)) [
  | yes h ↦ inr h
  | no h ↦ inl (ext_get_or false r l x.sized (λ i b. sym (count_tight (has l) (has r) n (λ i _. x.keeps i) (omega arith) i (omega (arith, x.sized)))))
]

-- one flag more is counted once it is set
pub count_set : (l : List Bool) (n j : ℕ) → j < n → j < length l → has l j ≡ false → count (has (set l j true)) n ≡ suc (count (has l) n)
unfolding count
count_set l n j h b f =
    omega (
      arith,
      total_but (λ i. bit (has (set l j true) i)) (λ i. bit (has l i)) n j h (λ i _ m. ap bit (get_or-set_other l j i true false m)),
      ap bit (get_or-set_same l j true false b),
      ap bit f,
    )
