-- Which arcs rows have after one is put in or taken out: only row a changes, and of it only the digit b. Assumes nothing.
use Rattle.std.specs.Prelude.{ℕ, ◌^◌, ◌<◌, ◌≡◌, refl, ◌⊎◌, List, length, get_or}
use Rattle.std.proofs.Common.{inl}
use Rattle.std.proofs.Math.Logic.{⊎_elim, ⊎_map}
use Rattle.std.proofs.Math.ListN.{length-set}
use Rattle.std.specs.Int.Bits.{bit_or, bit_xor}
use Rattle.scan.specs.Test.{Says}
use Rattle.scan.specs.Entry.{moved, set_at}
use Rattle.scan.specs.Bits.{has, has_power_says, has-or_says, has_xor_says}
use Rattle.rows.specs.Rows.{edge, Edge, put, flip}

module _ (rows : List ℕ) (a b : ℕ) where
  pub length-put : length (put rows a b) ≡ length rows
  unfolding put
  length-put = length-set rows a _

  pub length-flip : length (flip rows a b) ≡ length rows
  unfolding flip
  length-flip = length-set rows a _

  module _ (h : a < length rows) (u v : ℕ) where
    pub put-edge : Says (edge (put rows a b) u v) (Edge rows u v ⊎ ((u ≡ a) × (v ≡ b)))
    unfolding put
    put-edge =
        let (out, into) = has-or_says (get_or rows a 0) (2 ^ b) v in
        moved (set_at rows a (bit_or (get_or rows a 0) (2 ^ b)) h) (λ i x. Says (has x v) (Edge rows i v ⊎ ((i ≡ a) × (v ≡ b)))) u
        (λ e. ⊎_map (λ g. g) (λ p. (refl, (has_power_says b v).0 p)) (out e), λ g. into (⊎_map (λ g. g) (λ (_, e). (has_power_says b v).1 e) g))
        (λ n. (inl, ⊎_elim (λ g. g) (λ (e, _). absurd (n e))))

    -- an arc that is there is taken out
    pub flip-edge : Edge rows a b → Says (edge (flip rows a b) u v) (Edge rows u v × ((u ≡ a) × (v ≡ b) → ⊥))
    unfolding flip
    flip-edge on =
        let (out, into) = has_xor_says (get_or rows a 0) (2 ^ b) v (λ p. rw ((has_power_says b v).0 p) on) in
        moved (set_at rows a (bit_xor (get_or rows a 0) (2 ^ b)) h) (λ i x. Says (has x v) (Edge rows i v × ((i ≡ a) × (v ≡ b) → ⊥))) u
        (λ e. let (g, n) = out e in (g, λ (_, q). n ((has_power_says b v).1 q)), λ (g, n). into (g, λ p. n (refl, (has_power_says b v).0 p)))
        (λ n. (λ g. (g, λ (e, _). n e), λ (g, _). g))
