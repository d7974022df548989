-- The first admissible assignment of the drill's net is 0 1 0 1 .. : every node leads to outer node m, and m to every node. One that stands before it has 0 on
-- both links of some middle node, so that no arc leads there. Assumes nothing.
use Rattle.std.specs.Prelude.{ℕ, zero, suc, ◌+◌, ◌*◌, ◌/◌, ◌%◌, ◌<◌, ◌≡◌, refl, ◌≢◌, Bool, true, false, not, List, length, get_or}
use Rattle.std.proofs.Common.{sym, ◌∙◌, inl, inr, ⊎_elim, arith}
use Rattle.std.proofs.Math.Decide.{ℕ_discrete, dec_lt}
use Rattle.scan.specs.Test.{eq_says}
use Rattle.graph.specs.Walk.{here, step, one, join, carry}
use Rattle.graph.specs.Net.{Net, end, Arc, Leads, code, along, Admissible, Before, First}
use Rattle.graph.specs.Laws.First.{before-total}
use Rattle.heaviest.proofs.Laws.Drill.{Kind, middle, across, kind}
use Rattle.drilled.specs.Shape.{DrillNet, alternating}

-- ---- 0 1 0 1 ..

pub alternating-length : (n : ℕ) → length (alternating n) ≡ n
unfolding alternating
alternating-length zero = refl
alternating-length (suc zero) = refl
alternating-length (suc (suc n)) = omega (arith, alternating-length n)

pub alternating-at : (n k : ℕ) → k < n → get_or (alternating n) k 0 ≡ k % 2
unfolding alternating
alternating-at zero k h = absurd (omega arith)
alternating-at (suc zero) zero h = refl
alternating-at (suc zero) (suc k) h = absurd (omega arith)
alternating-at (suc (suc n)) zero h = refl
alternating-at (suc (suc n)) (suc zero) h = refl
alternating-at (suc (suc n)) (suc (suc k)) h = omega (arith, alternating-at n k (omega arith))

module _ (m : ℕ) (some : 0 < m) {G : Net} (D : DrillNet m G) where
  abbrev p : List ℕ
  p = alternating G.links

  -- ---- it is admissible

  arc_at : (k : ℕ) (d : Bool) {u v : ℕ} → k < 2 * m + 1 → k % 2 ≡ code d → u ≡ end G k d → v ≡ end G k (not d) → Arc G (along p) u v
  arc_at k d h e s t =
      let l : k < G.links = omega (arith, D.links) in
      record { link = k; way = d; below = l; free = (eq_says _ _).1 (alternating-at G.links k l ∙ e); starts = s; ends = t }

  from_middle : (i : ℕ) → i < m → Arc G (along p) i m
  from_middle i l = let (low, high) = D.middle i 0 l (omega arith) in arc_at (2 * i + 0) false (omega arith) (omega arith) (sym low) (omega arith)

  to_middle : (i : ℕ) → i < m → Arc G (along p) (m + 1) i
  to_middle i l = let (low, high) = D.middle i 1 l (omega arith) in arc_at (2 * i + 1) true (omega arith) (omega arith) (sym high) (sym low)

  between : Arc G (along p) m (m + 1)
  between = arc_at (2 * m) false (omega arith) (omega arith) (sym D.across.0) (sym D.across.1)

  leads_to : (u : ℕ) → u < m + 2 → Leads G (along p) u m
  leads_to u h = elim (dec_lt u m) [
    | yes l ↦ one (from_middle u l)
    | no l ↦ elim (ℕ_discrete u m) [
      | yes e ↦ rw e here
      | no n ↦ let e : u ≡ m + 1 = omega arith in rw e (step (to_middle 0 some) (one (from_middle 0 some)))
    ]
  ]

  leads_from : (v : ℕ) → v < m + 2 → Leads G (along p) m v
  leads_from v h = elim (dec_lt v m) [
    | yes l ↦ step between (one (to_middle v l))
    | no l ↦ elim (ℕ_discrete v m) [ yes e ↦ rw e here | no n ↦ let e : v ≡ m + 1 = omega arith in rw e (one between) ]
  ]

  admissible : Admissible G p
  admissible = record {
    assigns = record { sized = alternating-length G.links; directions = λ k h. omega (arith, alternating-at G.links k h) };
    strong = λ u v hu hv. join (leads_to u (omega (arith, D.nodes))) (leads_from v (omega (arith, D.nodes)));
  }

  -- ---- and the first

  -- no arc leads to a middle node whose links both have 0
  module _ (q : List ℕ) (i : ℕ) (l : i < m) (zeros : (a : ℕ) → a < 2 → get_or q (2 * i + a) 0 ≡ 0) where
    ends_elsewhere : (k : ℕ) (d : Bool) → Kind m k → along q k d ≡ true → end G k (not d) ≢ i
    ends_elsewhere k false (middle j a h b e) o r = let high : G.high k ≡ m + a = rw e (D.middle j a h b).1 in omega arith
    ends_elsewhere k true (middle j a h b e) o r =
        let low : G.low k ≡ j = rw e (D.middle j a h b).0 in
        let same : k ≡ 2 * i + a = omega arith in
        let one : get_or q k 0 ≡ 1 = (eq_says _ 1).0 o in
        let none : get_or q k 0 ≡ 0 = rw same (zeros a b) in
        omega arith
    ends_elsewhere k false (across e) o r = let high : G.high k ≡ m + 1 = rw e D.across.1 in omega arith
    ends_elsewhere k true (across e) o r = let low : G.low k ≡ m = rw e D.across.0 in omega arith

    not_entered : Leads G (along q) m i → ⊥
    not_entered w =
        carry (λ (v : ℕ). v ≢ i)
        (λ u v a _ e. ends_elsewhere a.link a.way (kind m a.link (omega (arith, a.below, D.links))) a.free (sym a.ends ∙ e))
        w (λ e. omega arith) refl

  none_before : (q : List ℕ) → Admissible G q → Before q p → ⊥
  none_before q A b =
      let k : ℕ = b.place in
      let i : ℕ = k / 2 in
      let h : k < G.links = omega (arith, A.assigns.sized) in
      let e : get_or p k 0 ≡ k % 2 = alternating-at G.links k h in
      let zeros : (a : ℕ) → a < 2 → get_or q (2 * i + a) 0 ≡ 0 = λ a l. elim (ℕ_discrete (2 * i + a) k) [
        | yes r ↦ rw r (omega arith)
        | no n ↦ omega (arith, b.same (2 * i + a) (omega arith), alternating-at G.links (2 * i + a) (omega arith))
      ] in
      not_entered q i (omega (arith, D.links)) zeros (A.strong m i (omega (arith, D.nodes)) (omega (arith, D.nodes, D.links)))

  pub alternating-first : First G p
  alternating-first = record {
    admissible = admissible;
    least = λ q A. ⊎_elim inl (⊎_elim inr (λ b. absurd (none_before q A b))) (before-total p q (alternating-length G.links ∙ sym A.assigns.sized));
  }
