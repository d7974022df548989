-- A cut of the link between the outer nodes: every other link leads from the source to a middle node, or from one to the target. So every other link is offered,
-- every path has two links, and every order of deliveries comes to rest after 4 × m - 2 of them. Assumes nothing.
use Rattle.std.specs.Prelude.{ℕ, ◌+◌, ◌*◌, ◌<◌, ◌≡◌, refl, ◌≢◌, ◌⊎◌, ◌↔◌, true, false, length}
use Rattle.std.proofs.Common.{sym, ◌∙◌, inl, inr, ⊎_elim, arith, ne_eqb}
use mathlib.Core.List.{List, Memᴰ}
use Rattle.std.proofs.Math.Decide.{ℕ_discrete}
use Rattle.std.proofs.lemmas.Bool.{eqb-false}
use Rattle.graph.specs.Walk.{Walk, one, stay}
use Rattle.flood.specs.declared.Flood.{Flood}
use Rattle.flood.specs.Digraph.{Digraph, Failure, cut, usable, Flow, Sound}
use Rattle.flood.specs.Machine.{at_rest}
use Rattle.flood.specs.Path.{Chain, end, link, SimplePath}
use Rattle.flood.specs.Laws.Progress.{Progress}
use Rattle.flood.specs.Laws.Route.{rest_route, rest_exactly}
use Rattle.flood.specs.Laws.Bound.{rest-offered-all, made-all_but_rest}
use Rattle.flood.specs.Laws.Cut.{cut-usable}
use Rattle.heaviest.proofs.Laws.Drill.{Kind, middle, across, kind}
use Rattle.drilled.specs.Shape.{DrillDigraph}

module _ (m : ℕ) {s t : ℕ} {g : Digraph} (D : DrillDigraph m s t g) where
  abbrev c : Failure
  c = cut g (2 * m)

  -- link k leads from the source to a middle node, or from one to the target
  abbrev Ends : ℕ → Type 0
  Ends k = ((g.tail k ≡ m + s) × (g.head k < m)) ⊎ ((g.tail k < m) × (g.head k ≡ m + t))

  ends : (k : ℕ) → k < g.links → c.blocked k ≡ false → Ends k
  ends k h b = by (kind m k (omega (arith, D.links)))
    where
      by : Kind m k → Ends k
      by (middle i a l d e) = elim (ℕ_discrete a s) [
        | yes q ↦ let f : k ≡ 2 * i + s = omega arith in let (x, y) = D.into i l in inl (rw f (x, omega arith))
        | no n ↦ let f : k ≡ 2 * i + t = omega (arith, D.sides) in let (x, y) = D.onward i l in inr (rw f (omega arith, y))
      ]
      by (across e) = absurd (eqb-false k (2 * m) b e)

  -- ---- every other link is offered

  to_middle : (i : ℕ) → i < m → Flow g c c.source i
  to_middle i l =
      let (tail, head) = D.back in
      let (x, y) = D.into i l in
      (λ e. omega (arith, D.sides), (2 * i + s, omega (arith, D.links, D.sides), ne_eqb (2 * i + s) (2 * m) (λ e. omega (arith, D.sides)), x ∙ sym head, y))

  tail_reached : (k : ℕ) → Ends k → (g.tail k ≢ c.target) × Walk (Flow g c) c.source (g.tail k)
  tail_reached k (inl (x, y)) = let (tail, head) = D.back in (λ e. omega (arith, D.sides), stay (head ∙ sym x))
  tail_reached k (inr (x, y)) = let (tail, head) = D.back in (λ e. omega arith, one (to_middle (g.tail k) x))

  -- ---- every path has two links

  abbrev All : List ℕ → Type 0
  All p = (i : ℕ) → Memᴰ i p → Ends i

  from_target : {u v : ℕ} {p : List ℕ} → Chain g u p v → u ≡ m + t → All p → length p ≡ 0
  from_target end e f = refl
  from_target (link i h r) e f = ⊎_elim (λ (x, y). absurd (omega (arith, D.sides))) (λ (x, y). absurd (omega arith)) (f i (Memᴰ.head refl))

  from_middle : {u v : ℕ} {p : List ℕ} → Chain g u p v → u < m → v ≡ m + t → All p → length p ≡ 1
  from_middle end l e f = absurd (omega arith)
  from_middle (link i h r) l e f =
      ⊎_elim (λ (x, y). absurd (omega arith)) (λ (x, y). omega (arith, from_target r y (λ j o. f j (Memᴰ.tail o)))) (f i (Memᴰ.head refl))

  from_source : {u v : ℕ} {p : List ℕ} → Chain g u p v → u ≡ m + s → v ≡ m + t → All p → length p ≡ 2
  from_source end d e f = absurd (omega (arith, D.sides))
  from_source (link i h r) d e f =
      ⊎_elim (λ (x, y). omega (arith, from_middle r y e (λ j o. f j (Memᴰ.tail o)))) (λ (x, y). absurd (omega arith)) (f i (Memᴰ.head refl))

  pub path_two : (p : List ℕ) → SimplePath g c p → length p ≡ 2
  path_two p P = from_source P.chain D.back.1 D.back.0 (λ i o. let (l, b) = P.free i o in ends i l b)

  -- ---- the deliveries

  others : usable g c ≡ 2 * m
  others = omega (arith, cut-usable g (2 * m) (omega (arith, D.links)), D.links)

  -- whatever was delivered, in whatever order: no link is under way exactly after 4 × m - 2 deliveries
  pub rest-drill : Sound g c → {n : ℕ} {f : Flood} → Progress g c n f → (at_rest g f ≡ true) ↔ (n + 2 ≡ 4 * m)
  rest-drill sound q = (
    λ r.
        let (p, R) = rest_route g c q r sound in
        omega (arith, rest_exactly g c q r R, path_two p R.path, rest-offered-all g c q r (λ k l b. tail_reached k (ends k l b)), others),
    λ e. made-all_but_rest g c sound 2 (λ p P. omega (arith, path_two p P)) q (omega (arith, others)),
  )
