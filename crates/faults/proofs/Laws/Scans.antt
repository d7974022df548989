-- Loops that keep whether some entry failed a test so far, and what they say of the entries of a plan or a session. Serves the proofs of this crate.
-- Assumes nothing.
use Rattle.std.specs.Prelude.{ℕ, ◌+◌, ◌<◌, ◌≤◌, max, min, ◌≡◌, refl, ◌⊎◌, Bool, true, false, cond, not, ◌&&◌, ◌||◌, List, eqb, leb}
use Rattle.std.proofs.Math.Path.{sym}
use Rattle.std.proofs.Common.{ap, ◌∙◌, inl, inr, ⊎_elim, arith}
use Rattle.std.proofs.Math.Bool.{or-false, or-true, and-or_distrib_left}
use Rattle.std.proofs.Math.Decide.{ℕ_discrete, dec_lt}
use Rattle.std.specs.Int.Bits.{bit_or}
use Rattle.std.proofs.Math.Dec.{ltb}
use borrow.Author.Tests.{eq-eqb, ne_eqb, lt-ltb, le-ltb, lt-leb, le-leb}
use Rattle.scan.specs.Test.{Says, lt_says, or_says, says_same}
use Rattle.scan.specs.Bits.{or-zero}
use Rattle.scan.specs.Entry.{at, has}
use Rattle.scan.specs.Lowest.{any, any_says, any_same, any-or, any_none, any-turn, any_block}
use Rattle.faults.specs.Faults.{is_over, overflows, is_stray, strays, is_used, is_leftover}

-- ---- a loop from n on and below `limit`, over what is not below n and passes q

module _ (n limit : ℕ) (q : ℕ → Bool) where
  abbrev past : ℕ → Bool
  past i = leb n i && q i

  -- before the loop
  pub past_none : false ≡ any past (min n limit)
  past_none = sym (any_none past (min n limit) n (λ j h. rw (lt-leb n j h)) (omega arith))

  module _ (i : ℕ) (bad : Bool) (e : bad ≡ any past (min i limit)) where
    -- one turn
    pub past-turn : n ≤ i → i < limit → (bad || q i) ≡ any past (min (i + 1) limit)
    past-turn h l =
        let now : min i limit ≡ i = omega arith in
        let next : min (i + 1) limit ≡ i + 1 = omega arith in
        rw next (any-turn past i bad (q i) _ (rw now at e) (rw (le-leb n i h)) refl)

    -- one block of b, which begins before i where fewer are left
    pub past_block : (from b next : ℕ) → n ≤ from → from ≤ i → i ≤ from + b → from + b ≡ min next limit
        → (bad || any (λ j. q (from + j)) b) ≡ any past (min next limit)
    past_block from b next h g l z =
        let onward = any_same (λ j. q (from + j)) (λ j. past (from + j)) b (λ j k. rw (le-leb n (from + j) (omega arith))) in
        rw (e, onward, ← z) (any_block past (min i limit) from b (omega arith) (omega arith))

    -- after it
    pub past_all : limit ≤ i → bad ≡ any past limit
    past_all h = let all : min i limit ≡ limit = omega arith in rw all at e

  -- a block that has one
  pub past_found : (from b : ℕ) → n ≤ from → from + b ≤ limit → true ≡ any (λ j. q (from + j)) b → true ≡ any past limit
  past_found from b h l e =
      let (j, k, t) = (any_says (λ j. q (from + j)) b).0 (sym e) in
      sym ((any_says past limit).1 (from + j, omega arith, rw (le-leb n (from + j) (omega arith)) t))

-- over the b from n on
pub past_part : (n b : ℕ) (q : ℕ → Bool) → any (past n 0 q) (n + b) ≡ any (λ j. q (n + j)) b
past_part n b q =
    let before = any_none (past n 0 q) n n (λ j h. rw (lt-leb n j h)) (omega arith) in
    let onward = any_same (λ j. past n 0 q (n + j)) (λ j. q (n + j)) b (λ j k. rw (le-leb n (n + j) (omega arith))) in
    sym (any_block (past n 0 q) n n b (omega arith) (omega arith)) ∙ rw (before, onward)

not-and : (a b : Bool) → not (a && b) ≡ (not a || not b)
not-and true b = refl
not-and false b = refl

-- bits gathered from two numbers are not all zero just where one of the numbers is not zero
pub or-nonzero : (x y : ℕ) → not (eqb (bit_or x y) 0) ≡ (not (eqb x 0) || not (eqb y 0))
or-nonzero x y = rw (or-zero x y) (not-and (eqb x 0) (eqb y 0))

-- a number is below the larger of two just where it is below one of them
pub below_larger : (b v w : ℕ) → ltb b (max v w) ≡ (ltb b v || ltb b w)
below_larger b v w = says_same (lt_says b (max v w)) (
  λ t. ⊎_elim (λ h. omega arith) (λ h. omega arith) (either.0 t),
  λ h. either.1 (elim (dec_lt b v) [ yes l ↦ inl l | no l ↦ inr (omega arith) ]),
)
  where
    either : Says (ltb b v || ltb b w) ((b < v) ⊎ (b < w))
    either = or_says (lt_says b v) (lt_says b w)

-- ---- the entries of a plan or a session

-- those of one array that are not zero
abbrev nonzero : List ℕ → ℕ → Bool
nonzero entries i = not (eqb (at entries i) 0)

module _ (links top : ℕ) (entries : List ℕ) where
  abbrev above : ℕ → Bool
  above i = ltb top (at entries i)

  abbrev left : ℕ → Bool
  left = is_leftover links (nonzero entries)

  -- an entry is wrong exactly where it is above the top or left over
  over-parts : (i : ℕ) → is_over links top i (at entries i) ≡ (above i || left i)
  unfolding is_over
  over-parts i = go (dec_lt i links) (ℕ_discrete (at entries i) 0)
    where
      go : Dec (i < links) → Dec (at entries i ≡ 0) → ltb (cond (ltb i links) top 0) (at entries i) ≡ (above i || left i)
      go (yes l) d = rw (lt-ltb i links l, lt-leb links i l) (sym (or-false (above i)))
      go (no l) (yes z) = rw (le-ltb i links (omega arith), le-leb links i (omega arith), le-ltb 0 (at entries i) (omega arith), eq-eqb (at entries i) 0 z, le-ltb top (at entries i) (omega arith))
      go (no l) (no n) = rw (le-ltb i links (omega arith), le-leb links i (omega arith), lt-ltb 0 (at entries i) (omega arith), ne_eqb (at entries i) 0 n) (sym (or-true (above i)))

  -- so one is exactly where one is above the top or one left over
  overflows-parts : (any above 256 || any left 256) ≡ overflows links top entries
  unfolding overflows
  overflows-parts = sym (any_same _ _ 256 (λ i l. over-parts i) ∙ any-or above left 256)

-- three tests, and three more, one by one or in pairs
in_pairs : (a b c d e f : Bool) → ((a || (b || c)) || ((d || e) || f)) ≡ ((a || d) || ((b || e) || (c || f)))
in_pairs true b c d e f = refl
in_pairs false true c true e f = refl
in_pairs false true c false e f = refl
in_pairs false false true true e f = refl
in_pairs false false true false true f = refl
in_pairs false false true false false f = refl
in_pairs false false false true e f = refl
in_pairs false false false false true f = refl
in_pairs false false false false false f = refl

-- an entry of three arrays is left over just where one of the first is, one of the second or one of the third
left-each : (links : ℕ) (a b c : List ℕ)
    → any (is_leftover links (is_used a b c)) 256 ≡ ((any (left links 0 a) 256 || any (left links 0 b) 256) || any (left links 0 c) 256)
left-each links a b c =
    any_same _ _ 256 (λ i l. rw (or-nonzero (bit_or (at a i) (at b i)) (at c i), or-nonzero (at a i) (at b i), and-or_distrib_left (leb links i) (nonzero a i || nonzero b i) (nonzero c i), and-or_distrib_left (leb links i) (nonzero a i) (nonzero b i)))
    ∙ any-or _ _ 256
    ∙ ap (λ (t : Bool). t || any (left links 0 c) 256) (any-or (left links 0 a) (left links 0 b) 256)

-- the three arrays have a wrong entry just where one of each kind is too high, or one left over
pub overflows-each : (links : ℕ) (a b c : List ℕ)
    → ((any (above links 1 a) 256 || (any (above links 4 b) 256 || any (above links 4 c) 256)) || any (is_leftover links (is_used a b c)) 256)
    ≡ (overflows links 1 a || (overflows links 4 b || overflows links 4 c))
overflows-each links a b c =
    rw (left-each links a b c, in_pairs (any (above links 1 a) 256) _ _ _ _ _)
    (λ i. overflows-parts links 1 a i || (overflows-parts links 4 b i || overflows-parts links 4 c i))

-- a node past the last is reached on either of two floods just where one is on the first, or one on the second
pub strays-either : (nodes : ℕ) (first second : List Bool) → any (λ v. leb nodes v && (has first v || has second v)) 64 ≡ (strays nodes first || strays nodes second)
unfolding strays is_stray
strays-either nodes first second = any_same _ _ 64 (λ v l. and-or_distrib_left (leb nodes v) (has first v) (has second v)) ∙ any-or _ _ 64
