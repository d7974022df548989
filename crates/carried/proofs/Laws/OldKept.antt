-- What every old call keeps: the session that a carry-over makes of the old one is as the calls of now keep it, with the deliveries of the old log on
-- wavelength 1. An old cut is the cut of now on that session, and old deliveries are deliveries on its wavelength 1. Assumes nothing.
use Rattle.std.specs.Prelude.{ℕ, ◌<◌, ◌≡◌, true, false, not, ltb, length, Err}
use Rattle.std.proofs.Math.Path.{refl, subst}
use Rattle.std.proofs.Common.{sym, ap, subst₂, ◌∙◌, ltb-true}
use mathlib.Core.List.{List, [], ◌∷◌, ◌++◌, map-append}
use Rattle.std.proofs.lemmas.List.{length-map}
use Rattle.std.proofs.lemmas.Bool.{not-true}
use Rattle.scan.specs.Entry.{at}
use Rattle.scan.specs.Test.{clash}
use Rattle.mesh.specs.declared.Mesh.{Mesh}
use Rattle.mesh.specs.declared.Plan.{Plan}
use Rattle.mesh.specs.Answer.{Answer, Accepted, Refused}
use Rattle.mesh.specs.Laws.Answer.{must-accepted, and_then-accepted}
use Rattle.flood.specs.Digraph.{Digraph, Failure}
use Rattle.flood.specs.Digraph as failures
use Rattle.flood.specs.Machine as machine
use Rattle.flood.specs.Laws.Order.{order-accepted}
use Rattle.wavelengths.specs.declared.Wavelength.{Wavelength}
use Rattle.wavelengths.specs.declared.Wavelength.TheVariants.{First, Second}
use Rattle.wavelengths.specs.Merge.{Turn, turn, turns_on, begin, play, accepted}
use Rattle.wavelengths.proofs.Laws.Project.{play-turns, accepted-turns}
use Rattle.formed.specs.Cut.{Link}
use Rattle.recovery.specs.declared.Session.{Session}
use Rattle.recovery.specs.Session.{floods}
use Rattle.recovery.specs.Calls.{digraph, failure, failure_of, with_floods, cut_on}
use Rattle.legacy.specs.declared.OldCut.{OldCut}
use Rattle.legacy.specs.declared.OldCut.TheVariants as oldCuts
use Rattle.legacy.specs.declared.OldSession.{OldSession}
use Rattle.legacy.specs.Record.{record_answer}
use Rattle.legacy.specs.Calls as old
use Rattle.legacy.specs.Calls.{Call, cut, deliver, mend, status, run}
use Rattle.legacy.specs.History as oldLists
use Rattle.upgrade.specs.Carried.{mesh_of, plan_of, cut_of, flood_of, second_of, kept}
use Rattle.upgrade.proofs.Laws.Carried.{digraph-kept, failure-kept, standing-kept}
use Rattle.history.specs.Log.{Log}
use Rattle.history.proofs.Laws.Kept.{Kept, more-kept, cut-kept, mend_kept}

-- with no cut wavelength 2 is fresh
second_fresh : (m : Mesh) (p : Plan) (c : OldCut) → old.standing c ≡ false → second_of m p (cut_of c) ≡ machine.fresh 256 64
second_fresh m p oldCuts.Nothing e = refl
second_fresh m p (oldCuts.Link k) e = clash refl e

module _ (s : OldSession) where
  -- ---- what is made, on the session carried over

  -- its arcs, and what the cut loses
  abbrev g : Wavelength → Digraph
  g = digraph (kept s)

  abbrev c : Wavelength → Failure
  c = failure (kept s)

  -- on wavelength 1 both are the old ones
  of_old : (P : Digraph → Failure → Type 0) → P (g First) (c First) → P (old.digraph s) (old.failure s)
  of_old P h = subst (P (old.digraph s)) (failure-kept (old.digraph s) s.cut) (subst (λ (d : Digraph). P d (failure_of d (cut_of s.cut))) (digraph-kept s) h)

  deliveries_are : (js : List ℕ) → with_floods (kept s) (play g c (turns_on First js) (floods (kept s)))
      ≡ kept (old.with_flood s (machine.play (old.digraph s) (old.failure s) js (old.flood s)))
  deliveries_are js =
      of_old (λ d x. with_floods (kept s) (play g c (turns_on First js) (floods (kept s))) ≡ kept (old.with_flood s (machine.play d x js (old.flood s))))
      (ap (with_floods (kept s)) (play-turns g c First js (floods (kept s))))

  accepted_are : (js : List ℕ) → accepted g c (turns_on First js) (floods (kept s)) ≡ machine.accepted (old.digraph s) (old.failure s) js (old.flood s)
  accepted_are js =
      of_old (λ d x. accepted g c (turns_on First js) (floods (kept s)) ≡ machine.accepted d x js (old.flood s)) (accepted-turns g c First js (floods (kept s)))

  cut_is : (k : ℕ) → old.standing s.cut ≡ false → cut_on (kept s) k ≡ kept (old.cut_on s k)
  unfolding begin
  cut_is k e =
      let f = second_fresh (mesh_of s.mesh) (plan_of s.plan) s.cut e in
      λ j. record {
        mesh = mesh_of s.mesh;
        plan = plan_of s.plan;
        cut = Link k;
        first = machine.begin (digraph-kept s j) (failures.cut (digraph-kept s j) k) (flood_of s.flood);
        second = machine.begin (g Second) (failures.cut (g Second) k) (f j);
      }

  -- ---- what an accepted call has passed

  cut-accepted : (k : ℕ) → old.answer (cut k) s ≡ Accepted → (k < s.mesh.count) × (old.standing s.cut ≡ false)
  cut-accepted k e =
      let (l, a) = must-accepted (ltb k s.mesh.count) 12 k _ (and_then-accepted (record_answer s) _ e).1 in
      (ltb-true k s.mesh.count l, not-true (old.standing s.cut) (must-accepted (not (old.standing s.cut)) 22 k Accepted a).0)

  deliver_accepted : (k : ℕ) → old.answer (deliver k) s ≡ Accepted
      → (old.standing s.cut ≡ true) × (machine.accepted (old.digraph s) (old.failure s) (k ∷ []) (old.flood s) ≡ 1)
  unfolding machine.accepted machine.accepts
  deliver_accepted k e =
      let (l, a) = must-accepted (ltb k s.mesh.count) 12 k _ (and_then-accepted (record_answer s) _ e).1 in
      let (stands, u) = must-accepted (old.standing s.cut) 23 k _ a in
      (stands, rw (l, (must-accepted (machine.under_way (at s.flood.states k)) 24 k Accepted u).0))

  run-accepted : (a : ℕ) → old.answer (run a) s ≡ Accepted → old.standing s.cut ≡ true
  run-accepted a e = (must-accepted (old.standing s.cut) 23 0 Accepted (and_then-accepted (record_answer s) _ e).1).0

-- ---- what the calls keep

-- the log of now: all deliveries were on wavelength 1
abbrev log_of : oldLists.Log → Log
log_of l = record { cut = cut_of l.cut; made = turns_on First l.made }

module _ (m : Mesh) (p : Plan) where
  abbrev OldKept : OldSession → oldLists.Log → Type 0
  OldKept s l = Kept m p (kept s) (log_of l)

  module _ (s : OldSession) (l : oldLists.Log) (K : OldKept s l) where
    -- deliveries under a cut, each accepted in its turn
    deliveries-kept : old.standing s.cut ≡ true → (js : List ℕ) → machine.accepted (old.digraph s) (old.failure s) js (old.flood s) ≡ length js
        → OldKept (old.with_flood s (machine.play (old.digraph s) (old.failure s) js (old.flood s))) (record { cut = l.cut; made = l.made ++ js })
    deliveries-kept e js a =
        let all = accepted_are s js ∙ a ∙ sym (length-map js (λ (j : ℕ). turn j First)) in
        subst₂ (λ (t : Session) (ts : List Turn). Kept m p t (record { cut = cut_of l.cut; made = ts }))
        (deliveries_are s js) (sym (map-append (λ (j : ℕ). turn j First) l.made js))
        (more-kept m p K (standing-kept s.cut ∙ e) (turns_on First js) all)

    -- a call that is accepted
    accepted-kept : (c : Call) → old.answer c s ≡ Accepted → OldKept (old.effect c s) (oldLists.noted c s l)
    unfolding machine.play machine.run
    accepted-kept (cut k) e =
        let (b, free) = cut-accepted s k e in
        subst (λ (t : Session). Kept m p t (record { cut = Link k; made = [] })) (cut_is s k free) (cut-kept m p K k b (standing-kept s.cut ∙ free))
    accepted-kept (deliver k) e = let (stands, a) = deliver_accepted s k e in deliveries-kept stands (k ∷ []) a
    accepted-kept (mend k) e = mend_kept m p K
    accepted-kept (status k) e = K
    accepted-kept (run a) e =
        deliveries-kept (run-accepted s a e) (machine.order (old.digraph s) (old.failure s) a (old.flood s)) (order-accepted (old.digraph s) (old.failure s) a (old.flood s))

    -- any call: a refused one changes nothing
    call_kept : (c : Call) → OldKept (old.next c s) (oldLists.note (old.answer c s) c s l)
    unfolding old.next
    call_kept c = by_answer (old.answer c s) refl
      where
        by_answer : (a : Answer) → old.answer c s ≡ a → OldKept (old.changed a s (old.effect c s)) (oldLists.note a c s l)
        by_answer Accepted e = accepted-kept c e
        by_answer (Err r) e = K

  -- any list of calls
  pub calls-kept : (cs : List Call) (s : OldSession) (l : oldLists.Log) → OldKept s l → OldKept (oldLists.after cs s) (oldLists.logged cs s l)
  unfolding oldLists.after oldLists.logged
  calls-kept [] s l K = K
  calls-kept (c ∷ cs) s l K = calls-kept cs (old.next c s) (oldLists.note (old.answer c s) c s l) (call_kept s l K c)
