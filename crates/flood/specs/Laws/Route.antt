-- At rest the taken links are one simple path from the source to the target. The flood has come to the target; back from there, each time over the link
-- taken into the node, leads to the source, since ranks fall; and forward from any taken link leads to the target, so that link is on the path.
-- Assumes nothing.
use Prim.Native.Nat.{ℕ, zero, suc, ◌+◌, ◌*◌, ◌<◌, ◌≤◌}
use Rattle.std.specs.Prelude.{◌≡◌, ◌⊎◌, ◌↔◌, Bool, true, length}
use Rattle.std.proofs.Math.Path.{refl, ap}
use Rattle.std.proofs.Common.{sym, ◌∙◌, inl, inr}
use Rattle.std.proofs.Math.Logic.{⊎_elim}
use mathlib.Core.List.Memᴰ
use mathlib.Core.List.{List, [], ◌∷◌, map, Memᴰ}
use native.Mathlib.Omega.{arith}
use Rattle.std.proofs.Math.Decide.{ℕ_discrete}
use Rattle.std.proofs.Math.Dec.{eqb}
use borrow.Author.Tests.{eqb-true, eq-eqb}
use Rattle.scan.specs.Entry.{at, has}
use Rattle.scan.specs.Distinct.{Distinct, count_distinct}
use Rattle.graph.specs.Walk.{Walk, carry}
use Rattle.flood.specs.Digraph.{Digraph, Failure, Arc, Flow, Sound}
use Rattle.flood.specs.Machine.{Flood, at_rest, offered_links, taken_links}
use Rattle.flood.specs.Path.{Chain, end, link, Route}
use Rattle.flood.specs.Laws.Tests.{Into, Rests, at-rest_says}
use Rattle.flood.specs.Laws.Invariant.{Inv, Needed}
use Rattle.flood.specs.Laws.Progress.{Progress}
use Rattle.flood.specs.Laws.Count.{rest-made}
use Rattle.flood.specs.Laws.Chain.{Taken, end_met, tail_met, links_once, nodes_once}

module _ (g : Digraph) (c : Failure) where
  open g use {links, tail, head}
  open c use {source, target}

  -- a route has as many links as are taken
  pub route_links : (f : Flood) {p : List ℕ} → Route g c (at f.states) p → taken_links g f ≡ length p
  unfolding taken_links
  route_links f {p} r =
      count_distinct (λ i. eqb (at f.states i) 2) links p r.once
      (λ i o. ((r.path.free i o).0, eq-eqb (at f.states i) 2 (r.on-taken i o)))
      (λ i b t. r.taken-on i b (eqb-true (at f.states i) 2 t))

  module _ {S : ℕ → ℕ} {R : ℕ → Bool} (I : Inv g c S R) (rest : Rests g S) where
    abbrev rank : ℕ → ℕ
    rank = I.ranked.rank

    -- ---- nodes reached at rest

    -- the flood went on along every arc that is not blocked, save from the target
    flow : (u v : ℕ) → Flow g c u v → R u ≡ true → R v ≡ true
    flow u v (n, (i, l, f, t, h)) r =
        let p = (I.opened i l).1 (rw t r, λ e. n (sym t ∙ e), f) in
        let (a, b) = rest i l in
        rw h at (I.head_reached i l (omega arith))

    -- so it came to every node to which such arcs lead
    flooded : {v : ℕ} → Walk (Flow g c) source v → R v ≡ true
    flooded w = carry (λ v. R v ≡ true) flow w I.source_reached

    -- and to the target
    target_reached : Walk (Arc g c) source target → R target ≡ true
    target_reached w = ⊎_elim (λ r. r) (λ r. r) (carry (λ v. (R v ≡ true) ⊎ (R target ≡ true)) on w (inl I.source_reached))
      where
        on : (u v : ℕ) → Arc g c u v → (R u ≡ true) ⊎ (R target ≡ true) → (R v ≡ true) ⊎ (R target ≡ true)
        on u v a (inr r) = inr r
        on u v a (inl r) = elim (ℕ_discrete u target) [ yes e ↦ inr (rw e at r) | no n ↦ inl (flow u v (n, a) r) ]

    -- ---- the path

    Found : Type 0
    Found = (p : List ℕ) × Chain g source p target × Taken g S p

    -- back from the target, each time over the link taken into the node
    back : (n v : ℕ) → rank v < n → (p : List ℕ) → Chain g v p target → Taken g S p → Needed g c S R v → Found
    unfolding Found
    back zero v b p w t need = absurd (omega arith)
    back (suc n) v b p w t need = go (ℕ_discrete v source) (back n)
      where
        over : ((u : ℕ) → rank u < n → (p : List ℕ) → Chain g u p target → Taken g S p → Needed g c S R u → Found) → Into g S v → Found
        over f (m, l, s, h) =
            f (tail m) (omega (arith, I.ranked.rises m l s, ap rank h)) (m ∷ p)
            (link m refl (rw (sym h) at w)) all (inr (m, l, refl, omega arith, omega arith))
          where
            all : Taken g S (m ∷ p)
            all i o = ⊎_elim (λ e. rw e (l, s)) (λ q. t i q) (Memᴰ.cases_cons o)

        go : Dec (v ≡ source) → ((u : ℕ) → rank u < n → (p : List ℕ) → Chain g u p target → Taken g S p → Needed g c S R u → Found) → Found
        go (yes e) f = (p, rw e at w, t)
        go (no d) f = over f ((I.fed v d).1 need)

    module _ {p : List ℕ} (w : Chain g source p target) (t : Taken g S p) where
      -- a taken link that leads to a node of the chain is on the chain
      on_chain : {i : ℕ} → i < links → S i ≡ 2 → Memᴰ (head i) (source ∷ map head p) → Memᴰ i p
      on_chain {i} l s o = ⊎_elim
          (λ e. absurd (I.none_in i l s e))
          (λ q. let (m, o, h) = Memᴰ.of_map head p q in let (k, z) = t m o in Memᴰ.cast (I.one_in i m l k s z (sym h)) o)
          (Memᴰ.cases_cons o)

      -- forward from a taken link, each time over a link that leaves the node, to the target: all of them are on the chain, the first one too
      forward : (n i : ℕ) → i < links → S i ≡ 2 → I.ranked.top ≤ rank (head i) + n → Memᴰ i p
      forward zero i l s b = absurd (omega (arith, I.ranked.below (head i) (I.head_reached i l (omega arith))))
      forward (suc n) i l s b = go ((I.fed (head i) (I.none_in i l s)).0 (i, l, s, refl)) (forward n)
        where
          go : Needed g c S R (head i) → ((m : ℕ) → m < links → S m ≡ 2 → I.ranked.top ≤ rank (head m) + n → Memᴰ m p) → Memᴰ i p
          go (inl (e, r)) f = on_chain l s (Memᴰ.cast e (end_met g w))
          go (inr (m, k, e, x, y)) f =
              let (a, d) = rest m k in
              let q : S m ≡ 2 = omega arith in
              on_chain l s (Memᴰ.cast (sym e) (tail_met g w (f m k q (omega (arith, I.ranked.rises m k q, ap rank e)))))

      -- a chain of taken links from the source to the target is the route
      pub chain_route : Route g c S p
      chain_route =
          record {
            path = record { chain = w; simple = simple; free = λ i o. let (l, s) = t i o in (l, ((I.opened i l).0 (omega arith)).2) };
            once = links_once g p simple.1;
            taken-on = λ i l s. forward I.ranked.top i l s (omega arith);
            on-taken = λ i o. (t i o).1;
          }
        where
          simple : Distinct (source ∷ map head p)
          simple = nodes_once g rank w (λ i o. I.ranked.rises i (t i o).0 (t i o).1)

    route : Walk (Arc g c) source target → (p : List ℕ) × Route g c S p
    unfolding Found
    route k =
        let (p, w, t) = back (suc (rank target)) target (omega arith) [] end (λ i o. absurd (Memᴰ.not-nil o)) (inl (refl, target_reached k)) in
        (p, chain_route w t)

  -- ---- after n deliveries, at rest

  module _ {n : ℕ} {f : Flood} (q : Progress g c n f) (r : at_rest g f ≡ true) where
    -- the nodes reached are those to which a walk leads that is not blocked and does not pass the target
    pub rest-reached : (v : ℕ) → (has f.reached v ≡ true) ↔ Walk (Flow g c) source v
    rest-reached v = (q.walked v, flooded q.inv ((at-rest_says g f).0 r))

    -- the taken links are one simple path from the source to the target
    pub rest_route : Sound g c → (p : List ℕ) × Route g c (at f.states) p
    rest_route sound = route q.inv ((at-rest_says g f).0 r) sound.walk

    -- so there have been two deliveries for each link ever offered, less one for each link of the route
    pub rest_exactly : {p : List ℕ} → Route g c (at f.states) p → n + length p ≡ 2 * offered_links g f
    rest_exactly w = omega (arith, rest-made g c q r, route_links f w)
