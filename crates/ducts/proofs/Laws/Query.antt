-- The query by duct meets 02: each refusal on its own condition, acceptance else; the list at the front of the output, which is as it was past
-- the list, and all of it on a refusal. Assumes nothing.
use Rattle.std.specs.Prelude.{ℕ, ◌<◌, ◌≤◌, ◌≡◌, refl, ◌↔◌, List, ltb, leb, length, take, drop, Err}
use Rattle.std.proofs.Math.Path.{sym}
use Rattle.std.proofs.Common.{subst, ◌∙◌, ltb-true, ltb-false, leb-true, leb-false, lt-ltb, le-ltb, le-leb}
use Rattle.std.proofs.lemmas.Bool.{lt-leb}
use Rattle.scan.specs.Test.{branch}
use Rattle.mesh.specs.declared.Mesh.{Mesh}
use Rattle.mesh.specs.Answer.{Answer, Accepted, Refused}
use Rattle.mesh.specs.Mesh.{mesh_answer}
use Rattle.mesh.specs.Laws.Answer.{Tells, accepting, refusing, tells_itself, told-accepted, told-refused, tells_and_then, output_written, output_kept}
use Rattle.ducts.specs.Sharing.{sharing, sharing_answer, shared_as, shared, output_after}
use Rattle.ducts.specs.Meaning.{Lists, Refusal, mesh-refused, no_such_link, output_short}
use Rattle.ducts.proofs.Laws.Sharing.{sharing_lists}

-- ---- the answer

-- the mesh passes its checks, the link is one of it, and the list fits
abbrev Passed : Mesh → ℕ → ℕ → Type 0
Passed m k room = (mesh_answer m ≡ Accepted) × (k < m.count) × (length (sharing m k) ≤ room)

told : (m : Mesh) (k room : ℕ) → Tells (Passed m k room) (Refusal m k room) (sharing_answer m k room)
unfolding sharing_answer
told m k room =
    tells_and_then (tells_itself (mesh_answer m))
    (λ e. branch (Tells (Passed m k room) (Refusal m k room)) (ltb k m.count)
    (λ b. branch (Tells (Passed m k room) (Refusal m k room)) (leb (length (sharing m k)) room)
    (λ c. accepting (e, ltb-true _ _ b, leb-true _ _ c))
    (λ c. refusing (output_short e (ltb-true _ _ b) (leb-false _ _ c))))
    (λ b. refusing (no_such_link e (ltb-false _ _ b))))
    (λ number place e. mesh-refused e)

answered : (m : Mesh) (k room : ℕ) → (shared m k room).answer ≡ sharing_answer m k room
unfolding shared
answered m k room = go (sharing_answer m k room)
  where
    go : (a : Answer) → (shared_as a (length (sharing m k))).answer ≡ a
    go Accepted = refl
    go (Err r) = refl

-- each refusal on its own condition
refused_only : (m : Mesh) (k room number place : ℕ) → (shared m k room).answer ≡ Refused number place → Refusal m k room number place
refused_only m k room number place e = told-refused (subst (Tells (Passed m k room) (Refusal m k room)) (sym (answered m k room) ∙ e) (told m k room))

refused_so : (m : Mesh) (k room number place : ℕ) → Refusal m k room number place → (shared m k room).answer ≡ Refused number place
unfolding sharing_answer
refused_so m k room number place (mesh-refused e) = answered m k room ∙ rw e
refused_so m k room number place (no_such_link e l) = answered m k room ∙ rw (e, le-ltb k m.count l)
refused_so m k room number place (output_short e l s) = answered m k room ∙ rw (e, lt-ltb k m.count l, lt-leb _ room s)

pub refuses_exactly : (m : Mesh) (k room number place : ℕ) → ((shared m k room).answer ≡ Refused number place) ↔ Refusal m k room number place
refuses_exactly m k room number place = (refused_only m k room number place, refused_so m k room number place)

-- and it tells of no link
refused_none : (m : Mesh) (k room number place : ℕ) → (shared m k room).answer ≡ Refused number place → (shared m k room).count ≡ 0
unfolding shared
refused_none m k room number place e =
    let a : sharing_answer m k room ≡ Refused number place = sym (answered m k room) ∙ e in
    rw a

-- acceptance exactly where none of the conditions holds
accepted_only : (m : Mesh) (k room : ℕ) → (shared m k room).answer ≡ Accepted → (mesh_answer m ≡ Accepted) × (k < m.count) × (length (sharing m k) ≤ room)
accepted_only m k room e = told-accepted (subst (Tells (Passed m k room) (Refusal m k room)) (sym (answered m k room) ∙ e) (told m k room))

accepts : (m : Mesh) (k room : ℕ) → mesh_answer m ≡ Accepted → k < m.count → length (sharing m k) ≤ room → (shared m k room).answer ≡ Accepted
unfolding sharing_answer
accepts m k room h l r = answered m k room ∙ rw (h, lt-ltb k m.count l, le-leb _ room r)

pub accepts_exactly : (m : Mesh) (k room : ℕ)
    → ((shared m k room).answer ≡ Accepted) ↔ ((mesh_answer m ≡ Accepted) × (k < m.count) × (length (sharing m k) ≤ room))
accepts_exactly m k room = (accepted_only m k room, λ (h, l, r). accepts m k room h l r)

-- ---- the output

module _ (m : Mesh) (k : ℕ) (out : List ℕ) where
  -- the list is written, and past it the output is as it was
  pub accepted_writes : (shared m k (length out)).answer ≡ Accepted
      → ((shared m k (length out)).count ≡ length (sharing m k))
      × (take (length (sharing m k)) (output_after m k out) ≡ sharing m k)
      × (drop (length (sharing m k)) (output_after m k out) ≡ drop (length (sharing m k)) out)
  unfolding shared output_after
  accepted_writes e =
      let a : sharing_answer m k (length out) ≡ Accepted = sym (answered m k (length out)) ∙ e in
      let (written, kept) = output_written a (sharing m k) out in
      (rw a, written, kept)

  -- so what is told to be written lists exactly the links that share the duct
  pub accepted_lists : (shared m k (length out)).answer ≡ Accepted → Lists m k (take (shared m k (length out)).count (output_after m k out))
  accepted_lists e =
      let (n, written, kept) = accepted_writes e in
      rw (n, written) (sharing_lists m k (accepted_only m k (length out) e).1)

  -- a refusal leaves it as it was
  pub refused_keeps : (number place : ℕ) → (shared m k (length out)).answer ≡ Refused number place → output_after m k out ≡ out
  unfolding output_after
  refused_keeps number place e = output_kept (sym (answered m k (length out)) ∙ e) (sharing m k) out

  -- it counts none, and leaves the output as it was
  pub refusal-told : (number place : ℕ) → (shared m k (length out)).answer ≡ Refused number place
      → ((shared m k (length out)).count ≡ 0) × (output_after m k out ≡ out)
  refusal-told number place e = (refused_none m k (length out) number place e, refused_keeps number place e)
