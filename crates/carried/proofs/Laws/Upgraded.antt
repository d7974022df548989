-- After any old calls from a fresh old session on a planned mesh the carry-over is accepted, and its session is as the calls of now keep it. Assumes the
-- ranges of the old mesh's fields, which its types ensure.
use Rattle.std.specs.Prelude.{◌≡◌, refl, List, [], ◌∷◌, Err}
use Rattle.std.proofs.Common.{subst, sym, ◌∙◌}
use Rattle.mesh.specs.declared.Plan.{Plan}
use Rattle.mesh.specs.Answer.{Answer, Accepted, Refused}
use Rattle.planner.specs.Plan.{planned}
use Rattle.legacy.specs.declared.OldMesh.{OldMesh}
use Rattle.legacy.specs.declared.OldSession.{OldSession}
use Rattle.legacy.specs.Record.{mesh_answer}
use Rattle.legacy.specs.WellFormed.{InRange}
use Rattle.legacy.specs.Calls as old
use Rattle.legacy.specs.Calls.{cut, deliver, mend, status, run}
use Rattle.legacy.specs.History as oldLists
use Rattle.upgrade.specs.Carried.{mesh_of, kept, carried}
use Rattle.upgrade.proofs.Laws.Checks.{mesh_sized}
use Rattle.upgrade.proofs.Laws.Carried.{carried-accepted, kept-tested}
use Rattle.history.proofs.Laws.Kept.{Kept, free}
use Rattle.history.proofs.Laws.Started.{kept_record}
use Rattle.carried.specs.Demand.{Planned, old_start, old_ended, upgraded_log}
use Rattle.carried.proofs.Laws.OldKept.{calls-kept}

-- ---- old calls keep the mesh

effect-mesh : (c : old.Call) (s : OldSession) → (old.effect c s).mesh ≡ s.mesh
effect-mesh (cut k) s = refl
effect-mesh (deliver k) s = refl
effect-mesh (mend k) s = refl
effect-mesh (status k) s = refl
effect-mesh (run a) s = refl

next-mesh : (c : old.Call) (s : OldSession) → (old.next c s).mesh ≡ s.mesh
unfolding old.next
next-mesh c s = by_answer (old.answer c s)
  where
    by_answer : (a : Answer) → (old.changed a s (old.effect c s)).mesh ≡ s.mesh
    by_answer Accepted = effect-mesh c s
    by_answer (Err r) = refl

after-mesh : (cs : List old.Call) (s : OldSession) → (oldLists.after cs s).mesh ≡ s.mesh
unfolding oldLists.after
after-mesh [] s = refl
after-mesh (c ∷ cs) s = after-mesh cs (old.next c s) ∙ next-mesh c s

-- ---- the session carried over

module _ (m : OldMesh) (olds : List old.Call) where
  abbrev p : Plan
  p = (planned (mesh_of m)).plan

  -- it is as the calls of now keep it: a cut, and the deliveries since, made on wavelength 1, each accepted in its turn
  pub upgraded-kept : Kept (mesh_of m) p (kept (old_ended m olds)) (upgraded_log m olds)
  upgraded-kept = calls-kept (mesh_of m) p olds (old_start m) oldLists.empty_log free

  -- it passes its record test, so that the old one passed its own
  pub upgraded_is : InRange m → Planned m → carried (old_ended m olds) ≡ record { session = kept (old_ended m olds); answer = Accepted }
  upgraded_is ranges good =
      let checked = subst (λ (n : OldMesh). mesh_answer n ≡ Accepted) (sym (after-mesh olds (old_start m))) good.checked in
      carried-accepted (old_ended m olds) (kept-tested (old_ended m olds) checked (kept_record (mesh_of m) good.accepted (mesh_sized m ranges) upgraded-kept))
