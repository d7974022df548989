-- The greedy directions of a connected net without bridges are the first admissible assignment. Where an admissible q first differs from them it has 1: had it
-- 0 there, its walk back round that link would lead along ways that the pass had left open, and the pass would have given 0 too. Assumes nothing.
use Rattle.std.specs.Prelude.{ℕ, ◌<◌, ◌≡◌, refl, ◌⊎◌, Bool, true, false, not, List, get_or}
use Rattle.std.proofs.Common.{sym, ◌∙◌, inl, inr, ⊎_elim, arith, le_refl, eqb-true, lt-ltb}
use Rattle.std.proofs.Math.Decide.{dec_lt}
use Rattle.scan.specs.Lowest.{None}
use Rattle.graph.specs.Net.{Net, Fits, end, Leads, Strong, without, both_ways, code, along, Admissible, Before, First}
use Rattle.graph.specs.Greedy.{greedy, direction, begun, bridge}
use Rattle.graph.specs.Laws.Arcs.{end_below, widen, without_free, without_open}
use Rattle.graph.specs.Laws.Orientation.{first_use}
use Rattle.graph.specs.Laws.First.{before-total}
use Rattle.graph.specs.Laws.Bridge.{unbridged_up, unbridged_down}
use Rattle.graph.specs.Laws.Pass.{code-either, code_inj, direction-le, greedy-length, greedy-at, begun_early, begun_late, next_up, begun_strong}

-- ---- an admissible assignment

pub admissible_joined : {G : Net} {q : List ℕ} → Admissible G q → Strong G both_ways
admissible_joined a u v hu hv = widen (λ i d l o. refl) (a.strong u v hu hv)

module _ {G : Net} (F : Fits G) {q : List ℕ} (a : Admissible G q) where
  -- the end of link k leads back to its start without k
  way_back : (k : ℕ) → k < G.links → (d : Bool) → get_or q k 0 ≡ code d → Leads G (without k (along q)) (end G k (not d)) (end G k d)
  way_back k h d e =
      ⊎_elim (λ w. w) (λ (x, o, w). rw (code_inj x d (sym (eqb-true _ _ o) ∙ e)) at w)
      (first_use G (along q) k (a.strong (end G k (not d)) (end G k d) (end_below F k h (not d)) (end_below F k h d)))

  pub admissible_unbridged : (k : ℕ) → k < G.links → bridge G k ≡ false
  admissible_unbridged k h =
      ⊎_elim (λ e. unbridged_up F k h (along q) (way_back k h false e)) (λ e. unbridged_down F k h (along q) (way_back k h true e))
      (code-either false (get_or q k 0) (a.assigns.directions k h))

  -- ---- none stands before the greedy directions

  -- where q and the directions before k agree, link k has 0 if it has 0 in q
  direction-zero : (k : ℕ) → k < G.links → ((i : ℕ) → i < k → direction G i ≡ get_or q i 0) → get_or q k 0 ≡ 0 → direction G k ≡ 0
  direction-zero k h same e = next_up F k h (widen opens (way_back k h false e))
    where
      opens : (i : ℕ) (d : Bool) → i < G.links → without k (along q) i d ≡ true → without k (begun G k) i d ≡ true
      opens i d l o =
          let (n, f) = without_open k (along q) i d o in
          without_free k (begun G k) i d n (elim (dec_lt i k) [ yes b ↦ begun_early G k i d b ∙ rw (same i b) f | no b ↦ begun_late G k i d (omega arith) ])

  not-before : Before q (greedy G G.links) → ⊥
  not-before b =
      let h : b.place < G.links = omega (arith, b.inside, a.assigns.sized) in
      let s : get_or q b.place 0 < direction G b.place = rw (greedy-at G G.links b.place h) at b.smaller in
      let same : (i : ℕ) → i < b.place → direction G i ≡ get_or q i 0 = λ i l. sym (b.same i l ∙ greedy-at G G.links i (omega arith)) in
      omega (arith, direction-zero b.place h same (omega (arith, direction-le G b.place)))

  greedy_least : (greedy G G.links ≡ q) ⊎ Before (greedy G G.links) q
  greedy_least =
      ⊎_elim inl (⊎_elim inr (λ b. absurd (not-before b)))
      (before-total (greedy G G.links) q (greedy-length G G.links ∙ sym a.assigns.sized))

-- ---- the greedy directions

module _ {G : Net} (F : Fits G) (joined : Strong G both_ways) (unbridged : None (bridge G) G.links) where
  greedy_admissible : Admissible G (greedy G G.links)
  greedy_admissible = record {
    assigns = record { sized = greedy-length G G.links; directions = λ i h. rw (greedy-at G G.links i h) (direction-le G i) };
    strong = λ u v hu hv. widen (λ i d l o. rw (lt-ltb i G.links l) at o) (begun_strong F joined G.links (le_refl _) unbridged u v hu hv);
  }

  pub greedy-first : First G (greedy G G.links)
  greedy-first = record { admissible = greedy_admissible; least = λ q a. greedy_least F a }
