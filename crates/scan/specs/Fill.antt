-- The first entries of an array made those of a function, and the loop that does it. Assumes nothing.
use Rattle.std.specs.Prelude.{ℕ, ◌<◌, ◌≤◌, min, ◌≡◌, refl, cond, List, ltb, length, replicate}
use Rattle.std.proofs.Common.{sym, ◌∙◌, arith, lt-ltb, le-ltb}
use Rattle.std.proofs.Math.Decide.{dec_lt}
use Rattle.std.proofs.lemmas.List.{length-replicate}
use Rattle.std.proofs.Math.ListN.{get_or-eq_default}
use Rattle.scan.specs.Entry.{at, replicate-at}
use Rattle.scan.specs.Sweep.{sweep_to, length-sweep, at-sweep, sweep_is}

-- the first entries of an array, as many as there are links, become f's
abbrev pub filled : (ℕ → ℕ) → ℕ → List ℕ → List ℕ
filled f links l = sweep_to (λ i v. f i) links l

-- an array of 256 entries, 0 past the last link
abbrev pub table_of : (ℕ → ℕ) → ℕ → List ℕ
table_of f links = filled f links (replicate 256 0)

-- ---- an array of zeros, of which the first n entries are filled

module _ (size : ℕ) (f : ℕ → ℕ) (n : ℕ) where
  abbrev array : List ℕ
  array = filled f n (replicate size 0)

  entry_is : (i : ℕ) → i < size → at array i ≡ cond (ltb i n) (f i) (at (replicate size 0) i)
  entry_is i b = at-sweep (λ i v. cond (ltb i n) (f i) v) (replicate size 0) i (rw (length-replicate {A = ℕ} size 0) b)

  pub array-filled : (i : ℕ) → i < n → i < size → at array i ≡ f i
  array-filled i h b = entry_is i b ∙ rw (lt-ltb i n h)

  pub array-past : (i : ℕ) → n ≤ i → at array i ≡ 0
  array-past i h = elim (dec_lt i size) [
    | yes b ↦ entry_is i b ∙ rw (le-ltb i n h) (replicate-at {A = ℕ} size 0 i)
    | no b ↦ get_or-eq_default array 0 {n = i} (omega (arith, length-sweep (λ i v. cond (ltb i n) (f i) v) (replicate size 0), length-replicate {A = ℕ} size 0))
  ]

-- ---- one of 256 entries

module _ (f : ℕ → ℕ) (links : ℕ) where
  abbrev next : ℕ → ℕ → ℕ
  next i v = cond (ltb i links) (f i) v

  -- the array keeps its length
  pub table_sized : length (table_of f links) ≡ 256
  table_sized = length-sweep next (replicate 256 0)

  -- after the loop: no more entries than the array has are filled
  pub fill_all : (l : List ℕ) (n : ℕ) → length l ≡ 256 → min links 256 ≤ n → n ≤ min links 256 → filled f n l ≡ filled f links l
  fill_all l n e low high = sweep_is next l (filled f n l) (length-sweep _ l) (λ i h. at-sweep _ l i h ∙ each i h (dec_lt i n))
    where
      each : (i : ℕ) → i < length l → Dec (i < n) → cond (ltb i n) (f i) (at l i) ≡ cond (ltb i links) (f i) (at l i)
      each i h (yes b) = rw (lt-ltb i n b, lt-ltb i links (omega arith))
      each i h (no b) = rw (le-ltb i n (omega arith), le-ltb i links (omega arith))

  -- of an array of zeros
  pub table_is : filled f (min links 256) (replicate 256 0) ≡ table_of f links
  table_is = fill_all (replicate 256 0) (min links 256) refl (omega arith) (omega arith)

  -- a filled entry
  pub table_filled : (i : ℕ) → i < links → i < 256 → at (table_of f links) i ≡ f i
  table_filled = array-filled 256 f links

  -- where f is 0 past the last link, of at most 256, the array is f at every index
  pub table_at : links ≤ 256 → ((i : ℕ) → links ≤ i → f i ≡ 0) → (i : ℕ) → at (table_of f links) i ≡ f i
  table_at few past i = elim (dec_lt i links) [ yes l ↦ table_filled i l (omega arith) | no l ↦ array-past 256 f links i (omega arith) ∙ sym (past i (omega arith)) ]

  -- another function that agrees on the filled entries fills the same
  pub fill_same : (g : ℕ → ℕ) (l : List ℕ) → ((i : ℕ) → i < links → i < length l → f i ≡ g i) → filled f links l ≡ filled g links l
  fill_same g l same = sweep_is (λ i v. cond (ltb i links) (g i) v) l (filled f links l) (length-sweep next l) (λ i h. at-sweep next l i h ∙ each i h (dec_lt i links))
    where
      each : (i : ℕ) → i < length l → Dec (i < links) → cond (ltb i links) (f i) (at l i) ≡ cond (ltb i links) (g i) (at l i)
      each i h (yes b) = rw (lt-ltb i links b) (same i b h)
      each i h (no b) = rw (le-ltb i links (omega arith))
