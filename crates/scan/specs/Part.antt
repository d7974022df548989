-- Parts of a list, as loops over the first k elements and slices of a slice have them. Assumes nothing.
use Rattle.std.specs.Prelude.{ℕ, zero, suc, ◌+◌, ◌-◌, ◌≤◌, ◌<◌, min, ◌≡◌, refl, List, [], ◌∷◌, map, length, get_or, take, drop, replicate}
use Rattle.std.proofs.Common.{sym, ◌∙◌, ap, add-zero, add-one, arith, length-take, length-drop, drop_of_length-le, drop-cons, get_or-take, get_or-drop, length-take-le, take_all}
use Rattle.std.proofs.Math.Decide.{dec_lt}
use Rattle.std.proofs.lemmas.List.{length-map}
use Rattle.std.proofs.Math.ListN.{get_or-eq_default}

-- the length of an array of structs, which owning it tells of the list mapped
pub length_mapped : {X Y : Type 0} (f : X → Y) (l : List X) (n : ℕ) → length (map f l) ≡ n → length l ≡ n
length_mapped f l n e = sym (length-map l f) ∙ e

-- the first element of what is left from `at` on
pub front : (s : List ℕ) (at : ℕ) → get_or (drop at s) 0 0 ≡ get_or s at 0
front s at = get_or-drop at s 0 0 ∙ ap (λ (j : ℕ). get_or s j 0) (add-zero at)

-- element i of the first k, and what is left after it
pub drop-take : {A : Type 0} (d : A) (l : List A) (k i : ℕ) → i < k → k ≤ length l
    → drop i (take k l) ≡ get_or l i d ∷ drop (i + 1) (take k l)
drop-take d l k i h hk =
    drop-cons (take k l) i d (simp (length-take-le k l hk) h)
    ∙ rw (get_or-take k l i d h, add-one i)

-- nothing is left of the first k from k on
pub drop-take-end : {A : Type 0} (l : List A) (k i : ℕ) → k ≤ i → drop i (take k l) ≡ []
drop-take-end l k i h = drop_of_length-le (take k l) {i = i} (simp length-take (omega arith))

-- dropping more than there is
pub drop_min : {A : Type 0} (l : List A) (k i : ℕ) → i ≡ min k (length l) → drop k l ≡ drop i l
drop_min l k i e = elim (dec_lt k (length l)) [
  | yes h ↦ let k-is : k ≡ i = omega arith in rw k-is
  | no h ↦ drop_of_length-le l {i = k} (omega arith) ∙ sym (drop_of_length-le l {i = i} (omega arith))
]

-- the slice &s[at..] as a list
pub part_rest : {A : Type 0} (s : List A) (at : ℕ) → take (length s - at) (drop at s) ≡ drop at s
part_rest s at = take_all (length s - at) (drop at s) (simp length-drop (omega arith))

-- what holds of every element and of the default holds of the first k elements
pub each-taken : {A : Type 0} (P : A → Type 0) (d : A) (l : List A) (k : ℕ) → ((i : ℕ) → P (get_or l i d)) → (i : ℕ) → P (get_or (take k l) i d)
each-taken P d l k h i = go (dec_lt i k)
  where
    go : Dec (i < k) → P (get_or (take k l) i d)
    go (yes b) = rw (get_or-take k l i d b) (h i)
    go (no b) =
        rw (get_or-eq_default (take k l) d {n = i} (simp length-take (omega arith)))
        (rw (get_or-eq_default l d {n = length l} (omega arith)) at (h (length l)))

-- parts of a list to whose elements a function is applied
module _ {A B : Type 0} (f : A → B) where
  pub map-take : (k : ℕ) (l : List A) → map f (take k l) ≡ take k (map f l)
  map-take zero l = refl
  map-take (suc k) [] = refl
  map-take (suc k) (a ∷ l) = λ j. f a ∷ map-take k l j

  pub map-drop : (k : ℕ) (l : List A) → map f (drop k l) ≡ drop k (map f l)
  map-drop zero l = refl
  map-drop (suc k) [] = refl
  map-drop (suc k) (a ∷ l) = map-drop k l

  pub map-replicate : (n : ℕ) (a : A) → map f (replicate n a) ≡ replicate n (f a)
  map-replicate zero a = refl
  map-replicate (suc n) a = λ j. f a ∷ map-replicate n a j
