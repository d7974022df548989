-- Runs of stores in a list: `sets l i vs` has the elements of vs from index i on. Assumes nothing.
use Rattle.std.specs.Prelude.{ℕ, zero, suc, ◌+◌, ◌-◌, ◌≤◌, ◌<◌, ◌≡◌, List, [], ◌∷◌, ◌++◌, length, get_or, take, drop, set, replicate}
use Rattle.std.proofs.Common.{sym, ◌∙◌, ap, append_assoc, append-nil, add-zero, zero-add, add-suc, suc-add, add-one, arith, length-drop, drop_of_length-le, drop-drop, take-suc, length-take-le}
use Rattle.std.proofs.lemmas.List.{length-replicate}
use Rattle.std.proofs.lemmas.List.Edits.{sets, sets-eq}
use Rattle.scan.specs.Part.{part_rest}

-- one run after the other
pub sets_append : {A : Type 0} (l : List A) (i : ℕ) (xs ys : List A) → sets l i (xs ++ ys) ≡ sets (sets l i xs) (i + length xs) ys
sets_append l i [] ys = rw (add-zero i)
sets_append l i (x ∷ xs) ys = sets_append (set l i x) (suc i) xs ys ∙ rw (add-suc i (length xs), suc-add i (length xs))

-- a run at the front
pub sets_front : {A : Type 0} (vs l : List A) → length vs ≤ length l → sets l 0 vs ≡ vs ++ drop (length vs) l
sets_front vs l h = sets-eq vs l 0 (rw zero-add h) ∙ ap (λ (k : ℕ). vs ++ drop k l) (zero-add (length vs))

-- the first entries of a list, and one more
pub sets_take : {A : Type 0} (l vs : List A) (i : ℕ) (d : A) → i < length vs → set (sets l 0 (take i vs)) i (get_or vs i d) ≡ sets l 0 (take (i + 1) vs)
sets_take l vs i d h =
    let n : 0 + length (take i vs) ≡ i = omega (arith, length-take-le i vs (omega arith)) in
    sym (rw (add-one i, take-suc vs i d h) (sets_append l 0 (take i vs) (get_or vs i d ∷ []) ∙ ap (λ (k : ℕ). set (sets l 0 (take i vs)) k (get_or vs i d)) n))

drop-replicate : {A : Type 0} (k n : ℕ) (a : A) → drop k (replicate n a) ≡ replicate (n - k) a
drop-replicate zero n a = let e : n - 0 ≡ n = omega arith in rw e
drop-replicate (suc k) zero a = let e : 0 - suc k ≡ 0 = omega arith in rw e
drop-replicate (suc k) (suc n) a = let e : suc n - suc k ≡ n - k = omega arith in rw e (drop-replicate k n a)

-- in an array of equal entries
pub sets_replicate : {A : Type 0} (n : ℕ) (a : A) (vs : List A) → length vs ≤ n → sets (replicate n a) 0 vs ≡ vs ++ replicate (n - length vs) a
sets_replicate n a vs h = sets_front vs (replicate n a) (rw length-replicate h) ∙ ap (λ (l : List _). vs ++ l) (drop-replicate (length vs) n a)

-- the lent tail &mut l[at..] with a run at its front, back in its place
pub sets_lent : {A : Type 0} (l : List A) (at : ℕ) (vs : List A) → at + length vs ≤ length l
    → take at l ++ (sets (take (length l - at) (drop at l)) 0 vs ++ drop (length l - at) (drop at l)) ≡ sets l at vs
sets_lent l at vs h =
    let n : length vs ≤ length (drop at l) = simp length-drop (omega arith) in
    let z : drop (length l - at) (drop at l) ≡ [] = drop_of_length-le (drop at l) {i = length l - at} (simp length-drop (omega arith)) in
    rw (z, part_rest l at, append-nil, sets_front vs (drop at l) n, drop-drop (length vs) at l)
    (sym (sets-eq vs l at h ∙ append_assoc (take at l) vs (drop (at + length vs) l)))
