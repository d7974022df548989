-- What the tests of refusals 20 and 21 say of walks, and that they decide whether there is a plan: where one passes no assignment is admissible, where both
-- fail the plan is the greedy one. Since walks here can be walked back, a net is connected where node 0 leads to every node. Assumes nothing.
use Rattle.std.specs.Prelude.{ℕ, ◌<◌, ◌≡◌, refl, ◌⊎◌, ◌↔◌, true, false, List}
use Rattle.std.proofs.Common.{sym, ◌∙◌, ⊎_elim}
use Rattle.std.proofs.Math.Logic.{⊎_map}
use Rattle.std.proofs.Math.Option.{some}
use Rattle.std.proofs.lemmas.Bool.{not-false}
use Rattle.scan.specs.Test.{clash, known, not_says, denies, Says}
use Rattle.scan.specs.Lowest.{any, any_says, any_found, any_fails}
use Rattle.graph.specs.Walk.{join}
use Rattle.graph.specs.Net.{Net, Fits, Leads, Strong, without, both_ways, Parted, Admissible, First}
use Rattle.graph.specs.Plan.{connects, unreached, parts, plan}
use Rattle.graph.specs.Greedy.{greedy}
use Rattle.graph.specs.Laws.Arcs.{back}
use Rattle.graph.specs.Laws.Reached.{reaches_iff}
use Rattle.graph.specs.Laws.Connected.{parted_iff}
use Rattle.graph.specs.Laws.First.{plan_iff}
use Rattle.graph.specs.Laws.Bridge.{bridge-parts}
use Rattle.graph.specs.Laws.Greedy.{admissible_joined, admissible_unbridged, greedy-first}

pub joined-from-zero : {G : Net} → ((v : ℕ) → v < G.nodes → Leads G both_ways 0 v) → Strong G both_ways
joined-from-zero f u v hu hv = join (back (λ i d o. refl) (f u hu)) (f v hv)

-- some two nodes have no walk between them once some one link is taken away
abbrev pub PartedByOne : Net → Type 0
PartedByOne G = (k : ℕ) × (k < G.links) × Parted G (without k both_ways)

module _ {G : Net} (F : Fits G) where
  -- ---- 20

  pub unreached_says : (v : ℕ) → Says (unreached G v) (Leads G both_ways 0 v → ⊥)
  unfolding unreached
  unreached_says v = denies (reaches_iff F both_ways 0 F.some-node v)

  pub all-reached : any (unreached G) G.nodes ≡ false → Strong G both_ways
  unfolding unreached
  all-reached e = joined-from-zero (λ v h. (reaches_iff F both_ways 0 F.some-node v).0 (not-false _ (any_fails (unreached G) G.nodes e v h)))

  pub unreached_iff : (any (unreached G) G.nodes ≡ true) ↔ Parted G both_ways
  unreached_iff = (
    λ e. let (v, h, t) = (any_says (unreached G) G.nodes).0 e in (0, v, F.some-node, h, (unreached_says v).0 t),
    λ (u, v, hu, hv, n). ⊎_elim (λ e. e) (λ e. absurd (n (all-reached e u v hu hv))) (known (any (unreached G) G.nodes)),
  )

  -- ---- 21

  pub parts_says : (k : ℕ) → Says (parts G k) (Parted G (without k both_ways))
  unfolding parts
  parts_says k = (λ e. (parted_iff F _).0 ((not_says _).0 e), λ p. (not_says (connects G (without k both_ways))).1 ((parted_iff F _).1 p))

  pub parts_iff : (any (parts G) G.links ≡ true) ↔ PartedByOne G
  parts_iff = (
    λ e. let (k, h, t) = (any_says (parts G) G.links).0 e in (k, h, (parts_says k).0 t),
    λ (k, h, p). any_found (parts G) G.links k h ((parts_says k).1 p),
  )

  -- ---- 20 or 21

  pub refused_iff : ((any (unreached G) G.nodes ≡ true) ⊎ (any (parts G) G.links ≡ true)) ↔ (Parted G both_ways ⊎ PartedByOne G)
  refused_iff = (⊎_map unreached_iff.0 parts_iff.0, ⊎_map unreached_iff.1 parts_iff.1)

  -- then no assignment is admissible
  pub refused_none : (any (unreached G) G.nodes ≡ true) ⊎ (any (parts G) G.links ≡ true) → (q : List ℕ) → Admissible G q → ⊥
  refused_none r q a =
      let joined : Strong G both_ways = admissible_joined a in
      ⊎_elim
      (λ e. let (u, v, hu, hv, n) = unreached_iff.0 e in n (joined u v hu hv))
      (λ e. let (k, h, t) = (any_says (parts G) G.links).0 e in clash t (sym (bridge-parts F k h joined) ∙ admissible_unbridged F a k h))
      r

  -- otherwise the greedy directions are the plan
  module _ (reached : any (unreached G) G.nodes ≡ false) (whole : any (parts G) G.links ≡ false) where
    pub planned-first : First G (greedy G G.links)
    planned-first =
        let joined : Strong G both_ways = all-reached reached in
        greedy-first F joined (λ k h. bridge-parts F k h joined ∙ any_fails (parts G) G.links whole k h)

    pub planned : plan G ≡ some (greedy G G.links)
    planned = (plan_iff F (greedy G G.links)).1 planned-first
