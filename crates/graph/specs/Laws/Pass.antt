-- The pass over the links that gives each its direction. While it meets no bridge the open ways stay strong, since by Boesch and Tindell's lemma one of the
-- next link's two ways can be shut; and the first link neither of whose ways can be shut is a bridge. Assumes nothing.
use Prim.Native.Nat.{ℕ, zero, suc, ◌<◌, ◌≤◌}
use Rattle.std.specs.Prelude.{◌≡◌, ◌⊎◌, ◌≢◌, Bool, true, false, not, length, get_or, eqb}
use Rattle.std.proofs.Math.Path.{refl}
use Rattle.std.proofs.Common.{sym, ◌∙◌, ap, inl, inr, ⊎_elim, arith, lt-ltb, le-ltb}
use Rattle.std.proofs.Math.Logic.{⊎_map}
use mathlib.Core.List.{[], ◌∷◌}
use Rattle.std.proofs.Math.Decide.{ℕ_discrete, dec_lt}
use Rattle.std.proofs.Math.ListN.{length-append, get_or-append}
use Rattle.std.proofs.lemmas.List.{get_or_at}
use Rattle.scan.specs.Test.{branch, failing, known, Says, eq_says}
use Rattle.scan.specs.Lowest.{None}
use Rattle.graph.specs.Walk.{one}
use Rattle.graph.specs.Net.{Net, Fits, end, Leads, Strong, without, both_ways, code}
use Rattle.graph.specs.Reach.{reaches}
use Rattle.graph.specs.Greedy.{next, greedy, direction, begun, bridge}
use Rattle.graph.specs.Laws.Arcs.{arc, widen, without_free, without_open}
use Rattle.graph.specs.Laws.Reached.{reaches_iff, leads?}
use Rattle.graph.specs.Laws.Orientation.{one_way, strong_around}
use Rattle.graph.specs.Laws.Bridge.{unbridged_iff}

-- ---- the two directions

pub code-either : (d : Bool) (x : ℕ) → x ≤ 1 → (x ≡ code d) ⊎ (x ≡ code (not d))
code-either false x h = elim (ℕ_discrete x 0) [ yes e ↦ inl e | no n ↦ inr (omega arith) ]
code-either true x h = elim (ℕ_discrete x 1) [ yes e ↦ inl e | no n ↦ inr (omega arith) ]

pub code_inj : (d e : Bool) → code d ≡ code e → d ≡ e
code_inj false false q = refl
code_inj false true q = absurd (omega arith)
code_inj true false q = absurd (omega arith)
code_inj true true q = refl

-- ---- the directions given

module _ (G : Net) where
  pub direction-le : (k : ℕ) → direction G k ≤ 1
  unfolding next
  direction-le k = branch (λ (x : ℕ). x ≤ 1) (reaches G (without k (begun G k)) (G.high k) (G.low k)) (λ e. omega arith) (λ e. omega arith)

  pub greedy-length : (k : ℕ) → length (greedy G k) ≡ k
  unfolding greedy
  greedy-length zero = refl
  greedy-length (suc k) = omega (arith, length-append (greedy G k) (direction G k ∷ []), greedy-length k)

  pub greedy-at : (k i : ℕ) → i < k → get_or (greedy G k) i 0 ≡ direction G i
  unfolding greedy
  greedy-at zero i h = absurd (omega arith)
  greedy-at (suc k) i h = elim (ℕ_discrete i k) [
    | yes e ↦ rw e (get_or_at (greedy G k) (direction G k) [] 0 k (greedy-length k))
    | no n ↦ get_or-append (greedy G k) (direction G k ∷ []) 0 i (omega (arith, greedy-length k)) ∙ greedy-at k i (omega arith)
  ]

  -- ---- the ways they leave open

  pub begun_early : (k i : ℕ) (d : Bool) → i < k → begun G k i d ≡ eqb (direction G i) (code d)
  begun_early k i d h = rw (lt-ltb i k h, greedy-at k i h)

  pub begun_late : (k i : ℕ) (d : Bool) → k ≤ i → begun G k i d ≡ true
  begun_late k i d h = rw (le-ltb i k h)

  -- each link is open some way
  begun-some : (k i : ℕ) (d : Bool) → (begun G k i d ≡ true) ⊎ (begun G k i (not d) ≡ true)
  begun-some k i d = elim (dec_lt i k) [
    | yes l ↦ rw (begun_early k i d l, begun_early k i (not d) l) (⊎_map (eq_says _ _).1 (eq_says _ _).1 (code-either d (direction G i) (direction-le i)))
    | no l ↦ inl (begun_late k i d (omega arith))
  ]

  -- once link k has the direction d: the ways open before, but for k's, and k's way d
  pub begun-next : (k : ℕ) (d : Bool) → direction G k ≡ code d → (i : ℕ) (b : Bool)
      → Says (begun G (suc k) i b) ((without k (begun G k) i b ≡ true) ⊎ ((i ≡ k) × (b ≡ d)))
  begun-next k d e i b = elim (ℕ_discrete i k) [
    | yes q ↦ (
      λ o. inr (q, code_inj b d (sym ((eq_says _ _).0 (sym (early q) ∙ o)) ∙ e)),
      ⊎_elim (λ o. absurd ((without_open k (begun G k) i b o).0 q)) (λ (_, s). early q ∙ (eq_says _ _).1 (e ∙ ap code (sym s))),
    )
    | no n ↦ (
      λ o. inl (without_free k (begun G k) i b n (sym (same n (dec_lt i k)) ∙ o)),
      ⊎_elim (λ o. same n (dec_lt i k) ∙ (without_open k (begun G k) i b o).1) (λ (q, _). absurd (n q)),
    )
  ]
    where
      early : i ≡ k → begun G (suc k) i b ≡ eqb (direction G k) (code b)
      early q = begun_early (suc k) i b (omega arith) ∙ rw q

      same : i ≢ k → Dec (i < k) → begun G (suc k) i b ≡ begun G k i b
      same n (yes l) = begun_early (suc k) i b (omega arith) ∙ sym (begun_early k i b l)
      same n (no l) = begun_late (suc k) i b (omega arith) ∙ sym (begun_late k i b (omega arith))

-- ---- one link

module _ {G : Net} (F : Fits G) (k : ℕ) (h : k < G.links) where
  pub next_up : Leads G (without k (begun G k)) (G.high k) (G.low k) → direction G k ≡ 0
  unfolding next
  next_up p = rw ((reaches_iff F (without k (begun G k)) (G.high k) (F.high_below k h) (G.low k)).1 p)

  pub next_down : (Leads G (without k (begun G k)) (G.high k) (G.low k) → ⊥) → direction G k ≡ 1
  unfolding next
  next_down n = rw (failing (reaches_iff F (without k (begun G k)) (G.high k) (F.high_below k h) (G.low k)) n)

  module _ (strong : Strong G (begun G k)) where
    -- some end leads to the other without the link, unless it is a bridge
    either_way : bridge G k ≡ false → Leads G (without k (begun G k)) (G.high k) (G.low k) ⊎ Leads G (without k (begun G k)) (G.low k) (G.high k)
    either_way e = one_way F (begun G k) k h strong (λ i d l. begun-some G k i d) ((unbridged_iff F k h).0 e)

    -- the link's direction keeps the ways strong where its end leads back without it
    next_strong : (d : Bool) → direction G k ≡ code d → Leads G (without k (begun G k)) (end G k (not d)) (end G k d) → Strong G (begun G (suc k))
    next_strong d e p =
        strong_around F (begun G k) k h strong (begun G (suc k)) (λ i b l o. (begun-next G k d e i b).1 (inl o)) d
        (one (arc k d h ((begun-next G k d e k d).1 (inr (refl, refl))))) (widen (λ i b l o. (begun-next G k d e i b).1 (inl o)) p)

    unbridged_next : bridge G k ≡ false → Strong G (begun G (suc k))
    unbridged_next e = elim (leads? F (without k (begun G k)) (G.high k) (F.high_below k h) (G.low k)) [
      | yes p ↦ next_strong false (next_up p) p
      | no n ↦ next_strong true (next_down n) (⊎_elim (λ p. absurd (n p)) (λ p. p) (either_way e))
    ]

-- ---- all links

module _ {G : Net} (F : Fits G) (joined : Strong G both_ways) where
  -- while there is no bridge the open ways stay strong
  pub begun_strong : (k : ℕ) → k ≤ G.links → None (bridge G) k → Strong G (begun G k)
  begun_strong zero h f = λ u v hu hv. widen (λ i d l o. begun_late G 0 i d (omega arith)) (joined u v hu hv)
  begun_strong (suc k) h f = unbridged_next F k h (begun_strong k (omega arith) (λ j l. f j (omega arith))) (f k (omega arith))

  -- the first link that can be given no direction is a bridge
  pub stuck_bridge : (k : ℕ) → k < G.links → None (bridge G) k → (Leads G (without k (begun G k)) (G.high k) (G.low k) → ⊥)
      → (Leads G (without k (begun G k)) (G.low k) (G.high k) → ⊥) → bridge G k ≡ true
  stuck_bridge k h f up down =
      ⊎_elim (λ e. e) (λ e. absurd (⊎_elim up down (either_way F k h (begun_strong k (omega arith) f) e))) (known (bridge G k))
