-- The route query finds the route, so there is but one. The taken links are just those of a path that meets no node twice, so exactly one of them leaves
-- each of its nodes but the last, and none the last: the query follows the path to its end. Assumes nothing.
use Prim.Native.Nat.{ℕ, zero, suc, ◌<◌, ◌≤◌}
use Rattle.std.specs.Prelude.{◌≡◌, false, length}
use Rattle.std.proofs.Math.Path.{refl}
use Rattle.std.proofs.Common.{sym, ap, ◌∙◌, ⊎_elim, arith}
use Rattle.std.proofs.Math.Bool.{true}
use mathlib.Core.List.Memᴰ
use mathlib.Core.List.{List, [], ◌∷◌, map, Memᴰ}
use Rattle.std.proofs.Math.Dec.{eqb}
use Rattle.scan.specs.Test.{Says, eq_says, and_says, failing}
use Rattle.scan.specs.Entry.{at}
use Rattle.scan.specs.Lowest.{lowest_found}
use Rattle.scan.specs.Total.{count-le}
use Rattle.scan.specs.Distinct.{Distinct}
use Rattle.flood.specs.Digraph.{Digraph, Failure}
use Rattle.flood.specs.Machine.{Flood, first, some, taken_links}
use Rattle.flood.specs.Topology.{carries, route_from}
use Rattle.flood.specs.Path.{Chain, end, link, Route}
use Rattle.flood.specs.Laws.Tests.{some_says}
use Rattle.flood.specs.Laws.Chain.{Taken, tail_met}
use Rattle.flood.specs.Laws.Route.{route_links}

module _ (g : Digraph) (states : List ℕ) where
  open g use {links, tail, head}

  abbrev S : ℕ → ℕ
  S = at states

  carries_says : (u i v : ℕ) → Says (carries g u i v) ((tail i ≡ u) × (v ≡ 2))
  unfolding carries
  carries_says u i v = and_says (eq_says (tail i) u) (eq_says v 2)

  -- the taken links that leave a node of the chain p from u on are on the chain
  abbrev Leaving : ℕ → List ℕ → Type 0
  Leaving u p = (k : ℕ) → k < links → S k ≡ 2 → Memᴰ (tail k) (u ∷ map head p) → Memᴰ k p

  -- none leaves the end
  none_carries : {u : ℕ} → Leaving u [] → some g (carries g u) states ≡ false
  none_carries {u} on =
      failing (some_says g (carries g u) states)
      (λ (k, l, e). let (h, s) = (carries_says u k (S k)).0 e in Memᴰ.not-nil (on k l s (Memᴰ.head h)))

  module _ {u v i : ℕ} {p : List ℕ} (w : Chain g (head i) p v) (d : Distinct (u ∷ (head i ∷ map head p))) (on : Leaving u (i ∷ p)) where
    -- just the first link leaves the start
    carries_only : {k : ℕ} → k < links → (tail k ≡ u) × (S k ≡ 2) → k ≡ i
    carries_only {k} l (h, s) =
        ⊎_elim (λ e. e) (λ o. absurd (d.0 (tail k) (tail_met g w o) (sym h))) (Memᴰ.cases_cons (on k l s (Memᴰ.head h)))

    first_is : i < links → carries g u i (S i) ≡ true → first g (carries g u) states ≡ i
    unfolding first
    first_is l t =
        lowest_found (λ k. carries g u k (S k)) links i l
        (λ k b. failing (carries_says u k (S k)) (λ h. let q = carries_only (omega arith) h in omega arith)) t

    -- and none of the later nodes
    leaving-later : tail i ≡ u → Leaving (head i) p
    leaving-later e k l s o =
        ⊎_elim (λ h. absurd (d.0 (tail k) o (sym e ∙ ap tail (sym h)))) (λ q. q) (Memᴰ.cases_cons (on k l s (Memᴰ.tail o)))

  route_from_chain : {u v : ℕ} {p : List ℕ} → Chain g u p v → Distinct (u ∷ map head p) → Taken g S p → Leaving u p
      → (n : ℕ) → length p ≤ n → route_from g n u states ≡ p
  unfolding route_from
  route_from_chain end d t on zero h = refl
  route_from_chain end d t on (suc n) h = rw (none_carries on)
  route_from_chain (link i e w) d t on zero h = absurd (omega arith)
  route_from_chain (link {u = u} {p = p} i e w) d t on (suc n) h =
      let (l, s) = t i (Memᴰ.head refl) in
      let c : carries g u i (S i) ≡ true = (carries_says u i (S i)).1 (e, s) in
      let some_one : some g (carries g u) states ≡ true = (some_says g (carries g u) states).1 (i, l, c) in
      let rest = route_from_chain w d.1 (λ k o. t k (Memᴰ.tail o)) (leaving-later w d on e) n (omega arith) in
      rw (some_one, first_is w d on l c) (ap (λ (q : List ℕ). i ∷ q) rest)

module _ (g : Digraph) (c : Failure) (f : Flood) where
  pub route_from_is : {p : List ℕ} → Route g c (at f.states) p → route_from g g.links c.source f.states ≡ p
  unfolding taken_links
  route_from_is r =
      let short = count-le (λ i. eqb (at f.states i) 2) g.links in
      route_from_chain g f.states r.path.chain r.path.simple
      (λ i o. ((r.path.free i o).0, r.on-taken i o)) (λ i l s o. r.taken-on i l s) g.links (omega (arith, route_links g c f r, short))

  -- so there is but one route
  pub route_only : {p q : List ℕ} → Route g c (at f.states) p → Route g c (at f.states) q → p ≡ q
  route_only r t = sym (route_from_is r) ∙ route_from_is t
