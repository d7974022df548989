-- The search along arcs: a loop has seen some nodes that a walk from u comes to, and has followed all arcs of those that are done. Once all that
-- is seen is done, what is seen is closed under the arcs. Assumes nothing.
use Rattle.std.specs.Prelude.{ℕ, ◌^◌, ◌<◌, ◌≡◌, refl, ◌⊎◌, true, List, get_or}
use Rattle.std.proofs.Common.{sym, inl, inr, ⊎_elim, arith, pow_pos}
use Rattle.std.proofs.Math.Logic.{⊎_map}
use Rattle.std.proofs.Math.Logic.Iff
use Rattle.std.proofs.Math.Pow.{pow-lt}
use Rattle.std.specs.Int.Bits.{bit_or, bit_xor}
use Rattle.std.proofs.lemmas.Nat.{or_lt, xor_lt}
use Rattle.std.specs.Int.Count.{count_trailing_zeros}
use Rattle.scan.specs.Test.{clash, known, failing, Says}
use Rattle.scan.specs.Bits.{has, has_none, has_power_says, has-or_says, has_xor_says, or_power, Digit, trailing_is}
use Rattle.graph.specs.Walk.{Walk, one, join, stay, carry}
use Rattle.rows.specs.Rows.{Edge, Spread, Spreading}

-- u is seen, and nothing is done
pub spreading_start : (rows : List ℕ) (u seen : ℕ) → u < 64 → seen ≡ 2 ^ u → Spreading rows u seen 0
spreading_start rows u seen h e = rw e (record {
  seen_fits = pow-lt h;
  done_fits = pow_pos 64;
  start = (has_power_says u u).1 refl;
  sound = λ v g. stay (sym ((has_power_says u v).0 g));
  inside = λ v g. clash g (has_none v);
  followed = λ v w g. clash g (has_none v);
})

module _ {rows : List ℕ} {u seen done : ℕ} (S : Spreading rows u seen done) where
  -- what is to do is seen and not done
  to_do : (v : ℕ) → Says (has (bit_xor seen done) v) ((has seen v ≡ true) × (has done v ≡ true → ⊥))
  to_do v = has_xor_says seen done v (S.inside v)

  -- once nothing is to do what is seen is all to which a walk leads
  pub spread_all : bit_xor seen done ≡ 0 → Spread rows u seen
  spread_all z = record { start = S.start; sound = S.sound; closed = λ v w h a. S.followed v w (all_done v h) a }
    where
      all_done : (v : ℕ) → has seen v ≡ true → has done v ≡ true
      all_done v h = ⊎_elim (λ e. e) (λ e. clash ((to_do v).1 (h, λ d. clash d e)) (rw z (has_none v))) (known (has done v))

  -- ---- one node more

  module _ (n : bit_xor seen done ≡ 0 → ⊥) where
    abbrev node : ℕ
    node = count_trailing_zeros 64 (bit_xor seen done)

    pub next-node : Digit 64 (bit_xor seen done) node
    next-node = trailing_is 64 (bit_xor seen done) (omega arith) (xor_lt 64 seen done S.seen_fits S.done_fits)

    seen-node : (has seen node ≡ true) × (has done node ≡ true → ⊥)
    seen-node = (to_do node).0 next-node.held

    module _ (bit : ℕ) (e : bit ≡ 2 ^ node) where
      pub done_grows : done < bit_or done bit
      done_grows = rw e (omega (arith, or_power done node (failing Iff.rfl seen-node.1), pow_pos node))

      module _ (fits : get_or rows node 0 < 2 ^ 64) where
        abbrev row : ℕ
        row = get_or rows node 0

        pub spreading_next : Spreading rows u (bit_or seen row) (bit_or done bit)
        spreading_next = record {
          seen_fits = or_lt 64 seen row S.seen_fits fits;
          done_fits = or_lt 64 done bit S.done_fits (rw e (pow-lt next-node.below));
          start = still u S.start;
          sound = λ v h. ⊎_elim (S.sound v) (λ g. join (S.sound node seen-node.0) (one g)) ((has-or_says seen row v).0 h);
          inside = λ v h. ⊎_elim (λ g. still v (S.inside v g)) (λ q. still v (rw q seen-node.0)) (now_done v h);
          followed = λ v w h a. ⊎_elim (λ g. still w (S.followed v w g a)) (λ q. (has-or_says seen row w).1 (inr (rw q at a))) (now_done v h);
        }
          where
            still : (v : ℕ) → has seen v ≡ true → has (bit_or seen row) v ≡ true
            still v h = (has-or_says seen row v).1 (inl h)

            now_done : (v : ℕ) → has (bit_or done bit) v ≡ true → (has done v ≡ true) ⊎ (v ≡ node)
            now_done v h = ⊎_map (λ g. g) (λ g. (has_power_says node v).0 (rw e at g)) ((has-or_says done bit v).0 h)

-- ---- what the search found

-- the nodes found are all to which a walk leads
pub spread_says : {rows : List ℕ} {u r : ℕ} → Spread rows u r → (v : ℕ) → Says (has r v) (Walk (Edge rows) u v)
spread_says {r = r} S v = (S.sound v, λ w. carry (λ (x : ℕ). has r x ≡ true) (λ x y a h. S.closed x y h a) w S.start)
