-- Rows that begin with the indices that pass a test: sums and tests over them, and the loops that list them and that store them at the front of an output.
-- Assumes nothing.
use Rattle.std.specs.Prelude.{ℕ, zero, suc, ◌+◌, ◌<◌, ◌≤◌, ◌≡◌, refl, Bool, true, false, cond, ◌&&◌, ◌||◌, List, [], ◌∷◌, ◌++◌, length, take, set}
use Rattle.std.proofs.Common.{sym, ap, ap₂, ◌∙◌, zero-add, arith, add-one, length-append, get_or-take, take-suc-set}
use Rattle.std.proofs.Math.ListN.{get_or-append}
use Rattle.std.proofs.lemmas.List.Edits.{sets}
use Rattle.std.proofs.Math.Seq.{length-sets, get_or-append_seam}
use Rattle.scan.specs.Entry.{at}
use Rattle.scan.specs.Lowest.{any, None, any-zero, any_next, any_same, any_fails}
use Rattle.scan.specs.Total.{total, total-next, total-same}
use Rattle.scan.specs.Passing.{passing, by_index, passing_none, passing_pass, passing_fail, passing-le, passing_less, counted_none, counted_pass, counted_fail}
use Rattle.scan.specs.Store.{sets_append}

-- row begins with the n indices below i that pass p
pub record Listing (p : ℕ → Bool) (i n : ℕ) (row : List ℕ) : Type 0 where
  pub counted : n ≡ length (passing p i)
  pub listed : take n row ≡ passing p i

-- ---- sums and tests over a row

-- the entries of a list with one more at its end
module _ {A : Type 0} (g : ℕ → A) (l : List ℕ) (a : ℕ) where
  entry-before : (k : ℕ) → k < length l → g (at (l ++ (a ∷ [])) k) ≡ g (at l k)
  entry-before k h = ap g (get_or-append l (a ∷ []) 0 k h)

  entry_last : g (at (l ++ (a ∷ [])) (length l)) ≡ g a
  entry_last = ap g (get_or-append_seam l a [] 0)

total-more : (f : ℕ → ℕ) (l : List ℕ) (a : ℕ) → total (λ k. f (at (l ++ (a ∷ [])) k)) (length (l ++ (a ∷ []))) ≡ total (λ k. f (at l k)) (length l) + f a
total-more f l a =
    let g : ℕ → ℕ = λ k. f (at (l ++ (a ∷ [])) k) in
    rw (length-append l (a ∷ []), add-one (length l), total-next g (length l))
    (ap₂ ◌+◌ (total-same g (λ k. f (at l k)) (length l) (entry-before f l a)) (entry_last f l a))

any-more : (q : ℕ → Bool) (l : List ℕ) (a : ℕ) → any (λ k. q (at (l ++ (a ∷ [])) k)) (length (l ++ (a ∷ []))) ≡ (any (λ k. q (at l k)) (length l) || q a)
any-more q l a =
    let g : ℕ → Bool = λ k. q (at (l ++ (a ∷ [])) k) in
    rw (length-append l (a ∷ []), any_next g (length l))
    (ap₂ ◌||◌ (any_same g (λ k. q (at l k)) (length l) (entry-before q l a)) (entry_last q l a))

or_fails : (t : Bool) → t ≡ (t || false)
or_fails true = refl
or_fails false = refl

module _ (p : ℕ → Bool) where
  total-passing : (f : ℕ → ℕ) (n : ℕ) → total (λ k. f (at (passing p n) k)) (length (passing p n)) ≡ total (λ i. cond (p i) (f i) 0) n
  total-passing f =
      let s : ℕ → ℕ = λ i. cond (p i) (f i) 0 in
      by_index p (λ n. total (λ k. f (at (passing p n) k)) (length (passing p n)) ≡ total s n)
      (rw (← passing_none p) (total-same (λ k. f (at [] k)) s 0 (λ i h. absurd (omega arith))))
      (λ i e t. rw (passing_pass p i t) (total-more f (passing p i) i ∙ rw (e, add-one i, total-next s i, t)))
      (λ i e t. rw (passing_fail p i t) (e ∙ rw (add-one i, total-next s i, t) (omega arith)))

  any-passing : (q : ℕ → Bool) (n : ℕ) → any (λ k. q (at (passing p n) k)) (length (passing p n)) ≡ any (λ i. p i && q i) n
  any-passing q =
      let s : ℕ → Bool = λ i. p i && q i in
      by_index p (λ n. any (λ k. q (at (passing p n) k)) (length (passing p n)) ≡ any s n)
      (rw (← passing_none p) (sym (any-zero _) ∙ any-zero s))
      (λ i e t. rw (passing_pass p i t) (any-more q (passing p i) i ∙ rw (e, any_next s i, t)))
      (λ i e t. rw (passing_fail p i t) (e ∙ rw (any_next s i, t) (or_fails (any s i))))

module _ {p : ℕ → Bool} {i n : ℕ} {row : List ℕ} (s : Listing p i n row) where
  entry : (k : ℕ) → k < n → at row k ≡ at (passing p i) k
  entry k h = sym (get_or-take n row k 0 h) ∙ ap (λ (l : List ℕ). at l k) s.listed

  -- a sum over the listed indices, and whether one of them passes another test
  pub total_listed : (f : ℕ → ℕ) → total (λ k. f (at row k)) n ≡ total (λ j. cond (p j) (f j) 0) i
  total_listed f =
      total-same (λ k. f (at row k)) (λ k. f (at (passing p i) k)) n (λ k h. ap f (entry k h))
      ∙ ap (total (λ k. f (at (passing p i) k))) s.counted
      ∙ total-passing p f i

  pub any_listed : (q : ℕ → Bool) → any (λ k. q (at row k)) n ≡ any (λ j. p j && q j) i
  any_listed q =
      any_same (λ k. q (at row k)) (λ k. q (at (passing p i) k)) n (λ k h. ap q (entry k h))
      ∙ ap (any (λ k. q (at (passing p i) k))) s.counted
      ∙ any-passing p q i

-- ---- a loop from 0 on that lists

pub listing_none : (p : ℕ → Bool) (row : List ℕ) → Listing p 0 0 row
listing_none p row = record { counted = counted_none p; listed = passing_none p }

module _ {p : ℕ → Bool} {i n : ℕ} {row : List ℕ} (s : Listing p i n row) where
  -- no more are listed than there are
  pub listing_le : n ≤ i
  listing_le = omega (arith, s.counted, passing-le p i)

  -- one that passes is stored
  pub listing_pass : n < length row → p i ≡ true → Listing p (i + 1) (n + 1) (set row n i)
  listing_pass h t = record {
    counted = counted_pass p i n s.counted t;
    listed = rw (add-one n, take-suc-set row n i h, s.listed, passing_pass p i t);
  }

  -- one that does not
  pub listing_fail : p i ≡ false → Listing p (i + 1) n row
  listing_fail t = record { counted = counted_fail p i n s.counted t; listed = rw (passing_fail p i t) s.listed }

listing_past : {p : ℕ → Bool} {i n : ℕ} {row : List ℕ} → Listing p i n row → (b : ℕ) → None (λ j. p (i + j)) b → Listing p (i + b) n row
listing_past {p} {i} {n} {row} s zero h = let e : i + 0 ≡ i = omega arith in rw e s
listing_past {p} {i} {n} {row} s (suc b) h =
    let e : i + suc b ≡ i + b + 1 = omega arith in
    rw e (listing_fail (listing_past s b (λ j l. h j (omega arith))) (h b (omega arith)))

-- a block of b in which none passes
pub listing_block : {p : ℕ → Bool} {i n : ℕ} {row : List ℕ} → Listing p i n row → (b : ℕ) → any (λ j. p (i + j)) b ≡ false → Listing p (i + b) n row
listing_block {p} {i} s b e = listing_past s b (any_fails (λ j. p (i + j)) b e)

-- ---- a loop from 0 on that stores them at the front of a list, and leaves the rest as it was

-- out is out₀ with the n indices below i that pass p at its front
pub record Stored (p : ℕ → Bool) (i n : ℕ) (out₀ out : List ℕ) : Type 0 where
  pub counted : n ≡ length (passing p i)
  pub stored : out ≡ sets out₀ 0 (passing p i)

pub stored_none : (p : ℕ → Bool) (out : List ℕ) → Stored p 0 0 out out
stored_none p out = record { counted = counted_none p; stored = ap (sets out 0) (passing_none p) }

module _ {p : ℕ → Bool} {i n : ℕ} {out₀ out : List ℕ} (s : Stored p i n out₀ out) where
  pub stored-length : length out ≡ length out₀
  stored-length = ap length s.stored ∙ length-sets out₀ 0 (passing p i)

  -- no more are stored than there are
  pub stored-le : n ≤ i
  stored-le = omega (arith, s.counted, passing-le p i)

  -- one that passes has room where all below m have
  pub stored_room : (m : ℕ) → length (passing p m) ≤ length out₀ → i < m → p i ≡ true → n < length out
  stored_room m h l t = omega (arith, s.counted, stored-length, passing_less p m i l t)

  -- and is stored
  pub stored_pass : p i ≡ true → Stored p (i + 1) (n + 1) out₀ (set out n i)
  stored_pass t = record {
    counted = counted_pass p i n s.counted t;
    stored = rw (passing_pass p i t, sets_append out₀ 0 (passing p i) (i ∷ []), ← s.stored, zero-add (length (passing p i)), ← s.counted);
  }

  -- one that does not
  pub stored_fail : p i ≡ false → Stored p (i + 1) n out₀ out
  stored_fail t = record { counted = counted_fail p i n s.counted t; stored = rw (passing_fail p i t) s.stored }
