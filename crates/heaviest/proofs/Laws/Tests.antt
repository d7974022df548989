-- What the tests of a size and of a digit say, and how much of an input stands before a line feed. Assumes nothing.
use Rattle.std.specs.Prelude.{ℕ, ◌+◌, ◌-◌, ◌≤◌, ◌≡◌, List, eqb, length}
use Rattle.std.proofs.Common.{arith}
use Rattle.scan.specs.Test.{branch, Says, le_says, and_says}
use Rattle.scan.specs.Entry.{at}
use Rattle.heaviest.specs.Drill.{is_size}
use Rattle.heaviest.specs.Input.{until_feed, is_digit}

pub size_says : (m : ℕ) → Says (is_size m) ((1 ≤ m) × (m ≤ 62))
size_says m = and_says (le_says 1 m) (le_says m 62)

pub digit_says : (b : ℕ) → Says (is_digit b) ((48 ≤ b) × (b ≤ 57))
digit_says b = and_says (le_says 48 b) (le_says b 57)

pub feed_within : (s : List ℕ) → until_feed s ≤ length s
feed_within s = branch (λ (n : ℕ). n ≤ length s) (eqb (at s (length s - 1)) 10) (λ t. omega arith) (λ t. omega arith)

-- at most one byte is left out
pub feed_most : (s : List ℕ) → length s ≤ until_feed s + 1
feed_most s = branch (λ (n : ℕ). length s ≤ n + 1) (eqb (at s (length s - 1)) 10) (λ t. omega arith) (λ t. omega arith)

pub feed_none : (s : List ℕ) → length s ≡ 0 → until_feed s ≡ 0
feed_none s e = omega (arith, feed_within s)
