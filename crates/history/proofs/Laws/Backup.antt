-- The plan of a planned mesh: its directions are 0 or 1, and 0 past the last link, and its back-up digraph is strong, since the assignment is admissible and
-- back-up arcs are its arcs turned round. Assumes nothing.
use Rattle.std.specs.Prelude.{ℕ, ◌+◌, ◌-◌, ◌<◌, ◌≤◌, ◌≡◌, ◌≢◌, Bool, true, false, not, cond, List, ◌++◌, length, replicate, eqb}
use Rattle.std.proofs.Common.{sym, ◌∙◌, ap, subst, arith, get_or-append-add, eqb-true}
use Rattle.std.proofs.Math.Decide.{dec_lt}
use Rattle.std.proofs.Math.ListN.{get_or-append}
use Rattle.scan.specs.Test.{branch}
use Rattle.scan.specs.Entry.{at, replicate-at}
use Rattle.graph.specs.Walk.{turn}
use Rattle.graph.specs.Net.{end, code, along, Fits, Arc, Assignment}
use Rattle.flood.specs.Path.{AnyArc, Strong}
use Rattle.mesh.specs.declared.Mesh.{Mesh}
use Rattle.mesh.specs.declared.Plan.{Plan}
use Rattle.mesh.specs.Answer.{Accepted}
use Rattle.mesh.specs.WellFormed.{WellFormed}
use Rattle.mesh.specs.Laws.Checked.{well_formed}
use Rattle.nets.specs.Nets.{net_of}
use Rattle.nets.specs.Laws.Fits.{well_formed_fits}
use Rattle.planner.specs.Plan.{padded, planned}
use Rattle.planner.specs.Meaning.{FirstPlan}
use Rattle.planner.specs.Laws.Meaning.{plan-first, plan_checked}
use Rattle.topology.specs.Backup.{backup}

-- ---- the assignment as a plan

module _ (m : Mesh) {q : List ℕ} (a : Assignment (net_of m) q) where
  padded-same : (i : ℕ) → i < m.count → at (padded q).directions i ≡ at q i
  padded-same i h = get_or-append q (replicate (256 - length q) 0) 0 i (omega (arith, a.sized))

  padded-past : (i : ℕ) → m.count ≤ i → at (padded q).directions i ≡ 0
  padded-past i h =
      let rest : List ℕ = replicate (256 - length q) 0 in
      let e : length q + (i - length q) ≡ i = omega (arith, a.sized) in
      ap (at (q ++ rest)) (sym e) ∙ get_or-append-add q rest (i - length q) 0 ∙ replicate-at (256 - length q) 0 (i - length q)

  padded_most : (i : ℕ) → at (padded q).directions i ≤ 1
  padded_most i = elim (dec_lt i m.count) [
    | yes h ↦ rw (padded-same i h) (a.directions i h)
    | no h ↦ rw (padded-past i (omega arith)) (omega arith)
  ]

  -- an arc of the assignment, turned round
  arc_back : (u v : ℕ) → Arc (net_of m) (along q) u v → AnyArc (backup m (padded q)) v u
  arc_back u v a = by_way a.way (padded-same a.link a.below ∙ eqb-true _ _ a.free) a.starts a.ends
    where
      by_way : (d : Bool) → at (padded q).directions a.link ≡ code d → u ≡ end (net_of m) a.link d → v ≡ end (net_of m) a.link (not d)
          → AnyArc (backup m (padded q)) v u
      by_way false e s t = (a.link, a.below, rw e (sym t), rw e (sym s))
      by_way true e s t = (a.link, a.below, rw e (sym t), rw e (sym s))

-- ---- the plan

module _ (m : Mesh) (accepted : (planned m).answer ≡ Accepted) where
  A : FirstPlan m
  A = plan-first m accepted

  -- a direction is 0 or 1, and 0 past the last link
  pub plan_most : (i : ℕ) → at (planned m).plan.directions i ≤ 1
  plan_most i = rw A.plan_is (padded_most m A.first.admissible.assigns i)

  pub plan-past : (i : ℕ) → m.count ≤ i → at (planned m).plan.directions i ≡ 0
  plan-past i h = rw A.plan_is (padded-past m A.first.admissible.assigns i h)

  -- the back-up digraph
  pub plan_strong : length m.links ≡ 256 → Strong (backup m (planned m).plan)
  plan_strong sized = subst (λ (p : Plan). Strong (backup m p)) (sym A.plan_is) (record {
    tail< = λ i h. pick (λ x. x < m.nodes) (way i) (F.high_below i h) (F.low_below i h);
    head< = λ i h. pick (λ x. x < m.nodes) (way i) (F.low_below i h) (F.high_below i h);
    loopless = λ i h. differ (way i) (w.joins i h).apart;
    joined = λ u v hu hv. turn (arc_back m A.first.admissible.assigns) (A.first.admissible.strong v u hv hu);
  })
    where
      w : WellFormed m
      w = well_formed m sized (plan_checked m accepted)

      F : Fits (net_of m)
      F = well_formed_fits w

      way : ℕ → Bool
      way i = eqb (at (padded A.directions).directions i) 0

      pick : (P : ℕ → Type 0) (b : Bool) {x y : ℕ} → P x → P y → P (cond b x y)
      pick P b h g = branch P b (λ t. h) (λ t. g)

      differ : (b : Bool) {x y : ℕ} → x < y → cond b y x ≢ cond b x y
      differ true h e = omega arith
      differ false h e = omega arith
