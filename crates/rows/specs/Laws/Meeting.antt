-- The search from both sides: ahead from u along the arcs of one table, and back from v along those of another. It stops once the two meet, or once one side is done
-- and they have not met. Where the second table has the arcs of the first turned round, a walk leads from u to v just where they meet. Assumes nothing.
use Rattle.std.specs.Prelude.{ℕ, ◌≡◌, true, List}
use Rattle.std.proofs.Common.{inl, inr, ⊎_elim, arith}
use Rattle.std.specs.Int.Bits.{bit_and, bit_xor, and_lt}
use Rattle.std.specs.Int.Count.{count_trailing_zeros}
use Rattle.scan.specs.Test.{clash}
use Rattle.scan.specs.Bits.{has, has_none, has-and_says, Digit, trailing_is}
use Rattle.graph.specs.Walk.{Walk, join, turn}
use Rattle.rows.specs.Rows.{Edge, Mirror, Spreading, Meet, Apart}
use Rattle.rows.specs.Laws.Spreading.{spread_all, spread_says}

-- ---- what the search found

module _ {leaving entering : List ℕ} {u v ahead ahead-done back back_done : ℕ}
    (A : Spreading leaving u ahead ahead-done) (B : Spreading entering v back back_done) where
  -- the two meet
  pub met : (bit_and ahead back ≡ 0 → ⊥) → Meet leaving entering u v
  met n = let (a, b) = (has-and_says ahead back _).0 common.held in (_, (A.sound _ a, B.sound _ b))
    where
      common : Digit 64 (bit_and ahead back) (count_trailing_zeros 64 (bit_and ahead back))
      common = trailing_is 64 (bit_and ahead back) (omega arith) (and_lt 64 ahead back A.seen_fits B.seen_fits)

  -- one side has ended before
  module _ (z : bit_and ahead back ≡ 0) where
    apart : (w : ℕ) → has ahead w ≡ true → has back w ≡ true → ⊥
    apart w a b = clash ((has-and_says ahead back w).1 (a, b)) (rw z (has_none w))

    pub ahead_ended : bit_xor ahead ahead-done ≡ 0 → Apart leaving entering u v
    ahead_ended e = inl (λ p. apart v ((spread_says (spread_all A e) v).1 p) B.start)

    pub back-ended : bit_xor back back_done ≡ 0 → Apart leaving entering u v
    back-ended e = inr (λ p. apart u A.start ((spread_says (spread_all B e) u).1 p))

-- ---- what it says where the second table has the arcs of the first

module _ (leaving entering : List ℕ) (M : Mirror leaving entering) {u v : ℕ} where
  pub meet_leads : Meet leaving entering u v → Walk (Edge leaving) u v
  meet_leads (w, (p, q)) = join p (turn (λ x y. (M y x).1) q)

  pub apart_none : Apart leaving entering u v → Walk (Edge leaving) u v → ⊥
  apart_none a p = ⊎_elim (λ n. n p) (λ n. n (turn (λ x y. (M x y).0) p)) a
