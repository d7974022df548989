-- The input of the drill's program (02, request 6): m in decimal without leading zeros, with or without one line feed after it. Definitions only.
use Rattle.std.specs.Prelude.{ℕ, ◌+◌, ◌*◌, ◌-◌, ◌/◌, ◌%◌, ◌≤◌, ◌≡◌, ◌⊎◌, Bool, cond, not, ◌&&◌, List, [], ◌∷◌, ◌++◌, leb, ltb, eqb, length, take}
use Rattle.scan.specs.Entry.{at}
use Rattle.heaviest.specs.Asked.{Asked, Middles, Refused}
use Rattle.heaviest.specs.Drill.{is_size}

-- ---- in 02's words

-- m, below 100, in decimal without leading zeros: its digits in ASCII
abbrev pub decimal : ℕ → List ℕ
decimal m = cond (ltb m 10) ((48 + m) ∷ []) ((48 + m / 10) ∷ ((48 + m % 10) ∷ []))

-- s is an input for m
pub record Names (s : List ℕ) (m : ℕ) : Type 0 where
  pub least : 1 ≤ m
  pub most : m ≤ 62
  pub written : (s ≡ decimal m) ⊎ (s ≡ decimal m ++ (10 ∷ []))

-- ---- what it asks for

-- the number of middle nodes; no drill has 0
abbrev pub middles_of : Asked → ℕ
middles_of (Middles m) = m
middles_of Refused = 0

-- ---- how it is read

-- how many bytes stand before one line feed at the end
abbrev pub until_feed : List ℕ → ℕ
until_feed s = cond (eqb (at s (length s - 1)) 10) (length s - 1) (length s)

abbrev pub is_digit : ℕ → Bool
is_digit b = leb 48 b && leb b 57

-- the number that one digit writes, and that two write of which the first is not 0; 0 for other bytes
abbrev pub one_digit : ℕ → ℕ
one_digit a = cond (is_digit a) (a - 48) 0

abbrev pub two_digits : ℕ → ℕ → ℕ
two_digits a b = cond (is_digit a && is_digit b && not (eqb a 48)) (10 * (a - 48) + (b - 48)) 0

-- the number that the bytes write, 0 where they are not one or two such digits
unfoldable pub value_of : List ℕ → ℕ
value_of s = cond (eqb (length s) 1) (one_digit (at s 0)) (cond (eqb (length s) 2) (two_digits (at s 0) (at s 1)) 0)

-- what the input asks for
unfoldable pub asked : List ℕ → Asked
asked s = let m : ℕ = value_of (take (until_feed s) s) in cond (is_size m) (Middles m) Refused
