-- The scan of the links by blocks, and then one by one: what it keeps, each turn and each end. Assumes nothing.
use Rattle.std.specs.Prelude.{ℕ, ◌+◌, ◌-◌, ◌<◌, ◌≤◌, ◌≡◌, Bool, true, false, ◌&&◌, leb}
use Rattle.std.proofs.Common.{sym, ◌∙◌, arith, le-leb}
use Rattle.std.proofs.Math.Bool.{and-eq-true_iff}
use Rattle.std.proofs.Math.Decide.{dec_lt}
use Rattle.std.proofs.lemmas.Bool.{lt-leb}
use Rattle.scan.specs.Lowest.{any, lowest, None, lowest_is, lowest_only, any_says, any_same, any_found, any_fails, any_none, lowest_found, lowest_none, none_yet, none_next}
use Rattle.searches.specs.Scan.{Passed, Stopped}

pub passed_none : (p : ℕ → Bool) (links : ℕ) → Passed p links 0
passed_none p links = record { within = omega arith; none = none_yet p }

module _ {p : ℕ → Bool} {links i : ℕ} (s : Passed p links i) where
  -- a block of n in which none passes
  pub passed_block : (n : ℕ) → i + n ≤ links → any (λ j. p (i + j)) n ≡ false → Passed p links (i + n)
  passed_block n h e = record {
    within = h;
    none = λ m l. elim (dec_lt m i) [
      | yes b ↦ s.none m b
      | no b ↦ let z : i + (m - i) ≡ m = omega arith in rw z at (any_fails (λ j. p (i + j)) n e (m - i) (omega arith))
    ];
  }

  -- the blocks end at one that has one that passes, or where less than a block is left
  pub stopped_at : (n : ℕ) → any (λ j. p (i + j)) n ≡ true → Stopped p links n i
  stopped_at n e = record { passed = s; found = λ h. e }

  pub stopped_before : (n : ℕ) → links < i + n → Stopped p links n i
  stopped_before n h = record { passed = s; found = λ b. absurd (omega arith) }

  -- one that does not pass
  pub passed_one : i < links → p i ≡ false → Passed p links (i + 1)
  passed_one h e = record { within = omega arith; none = none_next p i s.none e }

  -- one that does
  pub lowest-here : i < links → p i ≡ true → i ≡ lowest p links
  lowest-here h e = sym (lowest_found p links i h s.none e)

  pub any_here : i < links → p i ≡ true → true ≡ any p links
  any_here h e = sym (any_found p links i h e)

  -- none does
  pub lowest_nowhere : links ≤ i → links ≡ lowest p links
  lowest_nowhere h = sym (lowest_none p links i h s.none)

  pub any_nowhere : links ≤ i → false ≡ any p links
  any_nowhere h = sym (any_none p links i s.none h)

-- a block that has one
pub any_stopped : {p : ℕ → Bool} {links n i : ℕ} → Stopped p links n i → i + n ≤ links → true ≡ any p links
any_stopped {p} {links} {n} {i} s h =
    let (j, l, t) = (any_says (λ j. p (i + j)) n).0 (s.found h) in
    sym (any_found p links (i + j) (omega arith) t)

-- ---- a scan that starts at link m: the test passes from m on

module _ (p : ℕ → Bool) {m : ℕ} where
  pub onward_is : {i : ℕ} → m ≤ i → (leb m i && p i) ≡ p i
  onward_is {i} h = rw (le-leb m i h)

  -- it has passed what is below m
  pub passed_below : {links : ℕ} → m ≤ links → Passed (λ i. leb m i && p i) links m
  passed_below h = record { within = h; none = λ j l. rw (lt-leb m j l) }

  -- it finds none where there are no more than m links
  pub lowest_beyond : {n : ℕ} → n ≤ m → n ≡ lowest (λ i. leb m i && p i) n
  lowest_beyond {n} h = sym (lowest_none (λ i. leb m i && p i) n m h (λ j l. rw (lt-leb m j l)))

  -- where none below m passes, it finds the lowest of all
  pub lowest_onward : (n : ℕ) → None p m → lowest (λ i. leb m i && p i) n ≡ lowest p n
  lowest_onward n h =
      let L = lowest_is (λ i. leb m i && p i) n in
      let r = lowest (λ i. leb m i && p i) n in
      sym (lowest_only p n r (record {
        within = L.within;
        passes = λ l. ((and-eq-true_iff (leb m r) (p r)).0 (L.passes l)).1;
        before = λ i l. elim (dec_lt i m) [ yes b ↦ h i b | no b ↦ sym (onward_is (omega arith)) ∙ L.before i l ];
      }))

-- a block past m
pub any_onward : (p : ℕ → Bool) (m i n : ℕ) → m ≤ i → any (λ j. leb m (i + j) && p (i + j)) n ≡ any (λ j. p (i + j)) n
any_onward p m i n h = any_same (λ j. leb m (i + j) && p (i + j)) (λ j. p (i + j)) n (λ j l. onward_is p (omega arith))
