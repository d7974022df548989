-- What an input asks for is what 02 says: the digits before one line feed at its end are a number, and the decimal of that number are these digits. Assumes
-- nothing.
use Rattle.std.specs.Prelude.{ℕ, suc, ◌+◌, ◌*◌, ◌-◌, ◌/◌, ◌%◌, ◌≤◌, ◌<◌, ◌≡◌, ◌≢◌, ◌⊎◌, ◌↔◌, Bool, true, false, cond, List, [], ◌∷◌, ◌++◌, eqb, length, take}
use Rattle.std.proofs.Math.Path.{refl}
use Rattle.std.proofs.Common.{sym, ◌∙◌, ap, inl, inr, ⊎_elim, arith, length-append, length-take-le, take_all, take-suc, get_or-append-add, lt-ltb, le-ltb, ne_eqb, eqb-true}
use Rattle.std.proofs.Math.Decide.{dec_lt}
use Rattle.std.proofs.Math.Seq.{take-length, take-append_seam}
use Rattle.std.proofs.lemmas.Bool.{eqb-false}
use Rattle.scan.specs.Test.{branch, and_says, not_says}
use Rattle.scan.specs.Entry.{at, at_inside}
use Rattle.heaviest.specs.Asked.{Asked, Middles, Refused}
use Rattle.heaviest.specs.Drill.{is_size}
use Rattle.heaviest.specs.Input.{decimal, Names, until_feed, is_digit, one_digit, two_digits, value_of, asked}
use Rattle.heaviest.proofs.Laws.Tests.{size_says, digit_says, feed_within, feed_most}

-- ---- digits

-- the digits of a number are its decimal
one_decimal : (a : ℕ) → 1 ≤ one_digit a → decimal (one_digit a) ≡ a ∷ []
one_decimal a = branch (λ (n : ℕ). 1 ≤ n → decimal n ≡ a ∷ [])
    (is_digit a)
    (λ t h. let (l, u) = (digit_says a).0 t in let e : 48 + (a - 48) ≡ a = omega arith in rw (lt-ltb (a - 48) 10 (omega arith), e))
    (λ t h. absurd (omega arith))

two-decimal : (a b : ℕ) → 1 ≤ two_digits a b → decimal (two_digits a b) ≡ a ∷ (b ∷ [])
two-decimal a b = branch (λ (n : ℕ). 1 ≤ n → decimal n ≡ a ∷ (b ∷ []))
    _
    (λ t h.
    let ((x, y), z) = (and_says (and_says (digit_says a) (digit_says b)) (not_says _)).0 t in
    let n : ℕ = 10 * (a - 48) + (b - 48) in
    let e : 48 + n / 10 ≡ a = omega arith in
    let f : 48 + n % 10 ≡ b = omega arith in
    let g : a ≢ 48 = eqb-false a 48 z in
    rw (le-ltb n 10 (omega arith), e, f))
    (λ t h. absurd (omega arith))

number_long : (d : List ℕ) → 2 < length d → value_of d ≡ 0
unfolding value_of
number_long d h = rw (ne_eqb (length d) 1 (λ e. omega arith), ne_eqb (length d) 2 (λ e. omega arith))

number-decimal : (d : List ℕ) → 1 ≤ value_of d → decimal (value_of d) ≡ d
unfolding value_of
number-decimal [] h = absurd (omega arith)
number-decimal (a ∷ []) h = one_decimal a h
number-decimal (a ∷ (b ∷ [])) h = two-decimal a b h
number-decimal (a ∷ (b ∷ (c ∷ d))) h = absurd (omega (arith, number_long (a ∷ (b ∷ (c ∷ d))) (omega arith)))

-- a number is that of its decimal
decimal-number : (m : ℕ) → 1 ≤ m → m ≤ 62 → value_of (decimal m) ≡ m
unfolding value_of
decimal-number m some most = elim (dec_lt m 10) [
  | yes h ↦ rw (lt-ltb m 10 h, (digit_says (48 + m)).1 (omega arith)) (omega arith)
  | no h ↦
      let t : ℕ = m / 10 in
      let u : ℕ = m % 10 in
      rw (le-ltb m 10 (omega arith), (digit_says (48 + t)).1 (omega arith), (digit_says (48 + u)).1 (omega arith), ne_eqb (48 + t) 48 (λ e. omega arith)) (omega arith)
]

-- ---- one line feed

-- the input is what stands before a line feed, or that and the line feed
feed_split : (s : List ℕ) → (s ≡ take (until_feed s) s) ⊎ (s ≡ take (until_feed s) s ++ (10 ∷ []))
feed_split s = branch (λ (n : ℕ). (s ≡ take n s) ⊎ (s ≡ take n s ++ (10 ∷ []))) (eqb last 10) (λ t. inr (fed (eqb-true last 10 t))) (λ t. inl (sym (take-length s)))
  where
    last : ℕ
    last = at s (length s - 1)

    fed : last ≡ 10 → s ≡ take (length s - 1) s ++ (10 ∷ [])
    fed e =
        let inside : length s - 1 < length s = at_inside s (length s - 1) (omega arith) in
        let all : suc (length s - 1) ≡ length s = omega arith in
        sym (rw (← e) (sym (take-suc s (length s - 1) 0 inside) ∙ rw all (take-length s)))

-- it does not count, and a decimal does not end in one
feed_dropped : (d : List ℕ) → take (until_feed (d ++ (10 ∷ []))) (d ++ (10 ∷ [])) ≡ d
feed_dropped d =
    let e : length (d ++ (10 ∷ [])) - 1 ≡ length d + 0 = omega (arith, length-append d (10 ∷ [])) in
    let z : length d + 0 ≡ length d = omega arith in
    rw (e, get_or-append-add d (10 ∷ []) 0 0, z) (take-append_seam d (10 ∷ []))

feed_kept : (m : ℕ) → take (until_feed (decimal m)) (decimal m) ≡ decimal m
feed_kept m = elim (dec_lt m 10) [
  | yes h ↦ rw (lt-ltb m 10 h, ne_eqb (48 + m) 10 (λ e. omega arith))
  | no h ↦ let u : ℕ = m % 10 in rw (le-ltb m 10 (omega arith), ne_eqb (48 + u) 10 (λ e. omega arith))
]

-- ---- the input

-- what stands before the line feed
abbrev before : List ℕ → List ℕ
before s = take (until_feed s) s

-- it is the decimal of m where s is an input for m
names-before : (s : List ℕ) (m : ℕ) → Names s m → before s ≡ decimal m
names-before s m N = ⊎_elim (λ e. rw e (feed_kept m)) (λ e. rw e (feed_dropped (decimal m))) N.written

not_both : (m : ℕ) → Refused ≡ Middles m → ⊥
not_both m e = let z : ◌≡◌ {A = ℕ} 0 1 = cc in omega arith

module _ (s : List ℕ) where
  -- a number that has the right size is one that s is an input for
  before-names : is_size (value_of (before s)) ≡ true → Names s (value_of (before s))
  before-names t =
      let (least, most) = (size_says (value_of (before s))).0 t in
      let d : decimal (value_of (before s)) ≡ before s = number-decimal (before s) least in
      record { least = least; most = most; written = rw d (feed_split s) }

  names-size : (m : ℕ) → Names s m → (value_of (before s) ≡ m) × (is_size m ≡ true)
  names-size m N = (ap value_of (names-before s m N) ∙ decimal-number m N.least N.most, (size_says m).1 (N.least, N.most))

  asks_names : (t : Bool) → is_size (value_of (before s)) ≡ t → (m : ℕ) → cond t (Middles (value_of (before s))) Refused ≡ Middles m → Names s m
  asks_names true e m q = let same : value_of (before s) ≡ m = cc in rw (← same) (before-names e)
  asks_names false e m q = absurd (not_both m q)

  -- s asks for m just where it is an input for m, and is refused just where it is one for no m
  pub asked-names : (m : ℕ) → (asked s ≡ Middles m) ↔ Names s m
  unfolding asked
  asked-names m = (
    asks_names (is_size (value_of (before s))) refl m,
    λ N. let (same, size) = names-size m N in rw (same, size),
  )

  pub refused-names : (asked s ≡ Refused) ↔ ((m : ℕ) → ¬ Names s m)
  unfolding asked
  refused-names = (
    λ e m N. not_both m (sym e ∙ (asked-names m).1 N),
    λ none. branch (λ (a : Asked). a ≡ Refused) (is_size (value_of (before s))) (λ t. absurd (none _ (before-names t))) (λ t. refl),
  )

-- ---- long inputs

-- an input of more than three bytes is refused
asked_long : (s : List ℕ) → 3 < length s → asked s ≡ Refused
unfolding asked
asked_long s h =
    let none : value_of (before s) ≡ 0 = number_long (before s) (omega (arith, feed_most s, length-take-le (until_feed s) s (feed_within s))) in
    rw none

-- so what stands past the first four bytes changes nothing
pub asked-take : (n : ℕ) → 4 ≤ n → (s : List ℕ) → asked (take n s) ≡ asked s
asked-take n h s = elim (dec_lt (length s) n) [
  | yes l ↦ ap asked (take_all n s (omega arith))
  | no l ↦ asked_long (take n s) (omega (arith, length-take-le n s (omega arith))) ∙ sym (asked_long s (omega arith))
]
