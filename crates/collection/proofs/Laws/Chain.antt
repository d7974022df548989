-- Going along a chain of arcs: what is kept from arc to arc, the next arc, and the end. Serves the proof of `next_new`. Assumes nothing.
use Rattle.std.specs.Prelude.{ℕ, ◌+◌, ◌/◌, ◌%◌, ◌≤◌, ◌<◌, ◌≡◌, refl, Bool, true, false, not, List}
use Rattle.std.proofs.Common.{sym, ap, ◌∙◌, inl, inr, arith}
use Rattle.std.proofs.Math.Decide.{ℕ_discrete, dec_lt}
use Rattle.scan.specs.Entry.{at, has}
use Rattle.scan.specs.Test.{clash, failing}
use Rattle.graph.specs.Net.{Net, Fits, end}
use Rattle.graph.specs.Laws.Arcs.{Joins, end_below}
use Rattle.depth_first.specs.Search.{touches, far, opens}
use Rattle.depth_first.proofs.Laws.Unfold.{opens_says}
use Rattle.depth_first.proofs.Laws.Ancestors.{joins_far}
use Rattle.collection.specs.Arcs.{arc_of, net_of_arcs, Leaves, ended, leaving, Heads}
use Rattle.collection.specs.Walked.{CanTry, Passed, Leading, NoneLeads}

-- ---- the numbers of arcs

pub half : (i : ℕ) (d : Bool) → arc_of i d / 2 ≡ i
half i false = omega arith
half i true = omega arith

-- every number is that of an arc
arc_is : (a : ℕ) → (d : Bool) × (a ≡ arc_of (a / 2) d)
arc_is a = elim (ℕ_discrete (a % 2) 0) [ yes e ↦ (false, omega arith) | no n ↦ (true, omega arith) ]

module _ (nodes links : ℕ) (to : List ℕ) where
  abbrev G : Net
  G = net_of_arcs nodes links to

  -- the node that an arc leads to
  head_is : (i : ℕ) (d : Bool) → at to (arc_of i d) ≡ end G i (not d)
  head_is i false = ap (at to) (omega arith)
  head_is i true = refl

  pub head_below : Fits G → (a : ℕ) → a / 2 < links → at to a < nodes
  head_below F a h = let (d, e) = arc_is a in rw (ap (at to) e ∙ head_is (a / 2) d) (end_below F (a / 2) h (not d))

  -- an arc that leaves u leads to the far end of its link
  leads_far : (u i : ℕ) (d : Bool) → u ≡ end G i d → (touches G u i ≡ true) × (far G u i ≡ at to (arc_of i d))
  leads_far u i d e = let (t, f) = joins_far G i u (end G i (not d)) (joins d e) in (t, f ∙ sym (head_is i d))
    where
      joins : (d : Bool) → u ≡ end G i d → Joins G i u (end G i (not d))
      joins false e = inl (e, refl)
      joins true e = inr (e, refl)

  pub leaves-far : {u a : ℕ} → Leaves G u a → a / 2 < links → far G u (a / 2) ≡ at to a
  leaves-far (ended l) h = absurd (omega arith)
  leaves-far {u} {a} (leaving i d e l s) h = rw (e, half i d) (leads_far u i d s).1

  -- so its link leads to a new node just where that one is new
  pub leaves-opens : (seen : List Bool) {u a : ℕ} → Leaves G u a → a / 2 < links → opens G seen u (a / 2) ≡ not (has seen (at to a))
  leaves-opens seen (ended l) h = absurd (omega arith)
  leaves-opens seen {u} {a} (leaving i d e l s) h =
      let (t, f) = leads_far u i d s in
      rw (e, half i d, t, f)

  -- ---- from arc to arc

  module _ {next : List ℕ} (C : CanTry G next) where
    -- the arc after one that leaves u is the first of the later links of u
    pub heads_after : {u a : ℕ} → Leaves G u a → a / 2 < links → Heads G u (a / 2 + 1) (at next a)
    heads_after (ended l) h = absurd (omega arith)
    heads_after (leaving i d e l s) h = rw (e, half i d, s) (C.chains.later i d l)

    pub next-later : (a : ℕ) → a / 2 < links → a / 2 < at next a / 2
    next-later a h = let (d, e) = arc_is a in omega (arith, (heads_after {u = end G (a / 2) d} (leaving (a / 2) d e h refl) h).from)

  module _ (seen : List Bool) where
    pub passed_none : (arc : ℕ) → Passed G seen arc arc
    passed_none arc = record { from = omega arith; leaves = λ u l. l; no_new = λ u l j a b. absurd (omega arith) }

    -- the links of u that are passed over, before a, at a and between a and the next arc
    over : (u k a b : ℕ) → Heads G u (a / 2 + 1) b → ((j : ℕ) → k ≤ j → j < a / 2 → j < links → opens G seen u j ≡ false) → opens G seen u (a / 2) ≡ false
        → (j : ℕ) → k ≤ j → j < b / 2 → j < links → opens G seen u j ≡ false
    over u k a b H before at_a j p q r = elim (ℕ_discrete j (a / 2)) [
      | yes e ↦ rw e at_a
      | no n ↦ elim (dec_lt j (a / 2)) [
        | yes l ↦ before j p l r
        | no l ↦ failing (opens_says G seen u j) (λ (t, _). clash t (H.others j (omega arith) q r))
      ]
    ]

    module _ {arc a : ℕ} (P : Passed G seen arc a) where
      pub passed_more : (next : List ℕ) → CanTry G next → a / 2 < links → has seen (at to a) ≡ true → Passed G seen arc (at next a)
      passed_more next C h t = record {
        from = omega (arith, P.from, next-later C a h);
        leaves = λ u l. (heads_after C (P.leaves u l) h).leaves;
        no_new = λ u l. over u (arc / 2) a (at next a) (heads_after C (P.leaves u l) h) (P.no_new u l) (leaves-opens seen (P.leaves u l) h ∙ ap not t);
      }

      pub passed_hit : a / 2 < links → has seen (at to a) ≡ false → Leading G seen arc a
      passed_hit h f = record { passed = P; below = h; leads = λ u l. leaves-opens seen (P.leaves u l) h ∙ ap not f }

      pub passed_all : links ≤ a / 2 → NoneLeads G seen arc
      passed_all h = λ u l j b r. P.no_new u l j b (omega arith) r
