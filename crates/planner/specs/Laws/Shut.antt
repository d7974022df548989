-- One way of a link shut, or both. Assumes nothing.
use Rattle.std.specs.Prelude.{ℕ, ◌≡◌, refl, ◌⊎◌, Bool, true, false, not, ◌&&◌}
use Rattle.std.proofs.Common.{sym, inl, inr, ⊎_elim, true≢false}
use Rattle.std.proofs.Math.Logic.Iff
use Rattle.scan.specs.Test.{Says, and_says, denies}
use Rattle.graph.specs.Net.{Ways, without}
use Rattle.graph.specs.Laws.Arcs.{without_free, without_open}
use Rattle.nets.specs.Laws.Table.{is_way, is_way_says}

-- way d of link k shut
abbrev pub shut : ℕ → Bool → Ways → Ways
shut k d w i e = w i e && not (is_way k d i e)

pub shut_says : (k : ℕ) (d : Bool) (w : Ways) (i : ℕ) (e : Bool) → Says (shut k d w i e) ((w i e ≡ true) × ((i ≡ k) × (e ≡ d) → ⊥))
shut_says k d w i e = and_says Iff.rfl (denies (is_way_says k d i e))

-- a way is one of the two
pub either_way : (e d : Bool) → (e ≡ d) ⊎ (e ≡ not d)
either_way true true = inl refl
either_way true false = inr refl
either_way false true = inr refl
either_way false false = inl refl

pub not_self : (d : Bool) → d ≡ not d → ⊥
not_self true e = true≢false e
not_self false e = true≢false (sym e)

-- both ways of link k, first the way (not d)
pub shut_both : (k : ℕ) (w : Ways) (i : ℕ) (e d : Bool) → Says (without k w i e) (shut k d (shut k (not d) w) i e ≡ true)
shut_both k w i e d = (
  λ o. let (n, f) = without_open k w i e o in second.1 (first.1 (f, λ (q, _). n q), λ (q, _). n q),
  λ o. let (p, n) = second.0 o in let (f, m) = first.0 p in without_free k w i e (λ q. ⊎_elim (λ t. n (q, t)) (λ t. m (q, t)) (either_way e d)) f,
)
  where
    first : Says (shut k (not d) w i e) ((w i e ≡ true) × ((i ≡ k) × (e ≡ not d) → ⊥))
    first = shut_says k (not d) w i e

    second : Says (shut k d (shut k (not d) w) i e) ((shut k (not d) w i e ≡ true) × ((i ≡ k) × (e ≡ d) → ⊥))
    second = shut_says k d (shut k (not d) w) i e
