-- The order test from before and that of now: what the first accepts the second does, and a mesh that the second accepts the first does exactly where no two
-- links have the same ends. Assumes 256 entries in the mesh's list of links for the latter.
use Rattle.std.specs.Prelude.{ℕ, zero, suc, ◌<◌, ◌≡◌, ◌⊎◌, ◌↔◌, true, List, length}
use Rattle.std.proofs.Common.{sym, ◌∙◌, ap, inl, inr, ⊎_elim, add-one, arith}
use Rattle.std.proofs.Math.Logic.{⊎_map}
use Rattle.std.proofs.Math.Decide.{dec_lt}
use Rattle.scan.specs.Test.{Says, lt_says, eq_says, and_says, or_says}
use Rattle.mesh.specs.declared.Mesh.{Mesh}
use Rattle.mesh.specs.Answer.{Accepted}
use Rattle.mesh.specs.Mesh.{follows, mesh_answer}
use Rattle.mesh.specs.WellFormed.{link, WellFormed, OnlyLink}
use Rattle.mesh.specs.Refusal.{previous}
use Rattle.mesh.specs.Laws.Ends.{follows_says}
use Rattle.mesh.specs.Laws.Checked.{well_formed}
use Rattle.nets.specs.Nets.{net_of}
use Rattle.nets.specs.Parallel.{Parallel}
use Rattle.nets.specs.Laws.Ordered.{well_formed_ordered}
use Rattle.codec.specs.Book.{mesh_of, decoded}
use Rattle.codec.specs.declared.Decoded.{Decoded}
use Rattle.codec.proofs.Laws.Accepted.{decoded-mesh}
use Rattle.codec.proofs.Laws.Read.{decoded-accepted}
use Rattle.planner.specs.Plan.{planned}
use Rattle.earlier.specs.Ordered.{strictly_follows, mesh_answer_by, decoded_by, planned_by}
use Rattle.earlier.proofs.Laws.Now.{mesh-now, decoded-now, planned-now}
use Rattle.earlier.proofs.Laws.Each.{mesh-parts, mesh-each, each-mesh}
use Rattle.earlier.proofs.Laws.Books.{book_links, links_book, decoded_by_lem}
use Rattle.earlier.proofs.Laws.Wider.{mesh_wider, decoded_wider, planned_wider}

module _ (plow phigh low high : ℕ) where
  -- the pair (low, high) stands after the pair (plow, phigh)
  abbrev Above : Type 0
  Above = (plow < low) ⊎ ((plow ≡ low) × (phigh < high))

  strict_says : Says (strictly_follows plow phigh low high) Above
  strict_says = or_says (lt_says plow low) (and_says (eq_says plow low) (lt_says phigh high))

  -- a pair that passed the test from before passes that of now
  follows_still : strictly_follows plow phigh low high ≡ true → follows plow phigh low high ≡ true
  follows_still e = (follows_says plow phigh low high).1 (⊎_map (λ h. h) (λ (q, h). (q, omega arith)) (strict_says.0 e))

pub mesh_still : (m : Mesh) → mesh_answer_by strictly_follows m ≡ Accepted → mesh_answer m ≡ Accepted
mesh_still m e = sym (mesh-now m) ∙ mesh_wider strictly_follows follows follows_still m e

-- exactly the meshes of now in which no two links have the same ends: such links would be neighbours
module _ (m : Mesh) (sized : length m.links ≡ 256) where
  -- a link after one with the same ends does not pass the test from before
  strict_only : mesh_answer_by strictly_follows m ≡ Accepted → (k : ℕ) → k < m.count → OnlyLink m k
  strict_only e k h i l (low, high) =
      elim (dec_lt i k) [
        | yes b ↦ absurd (apart i k b h (low, high))
        | no b ↦ elim (dec_lt k i) [ yes c ↦ absurd (apart k i c l (sym low, sym high)) | no c ↦ omega arith ]
      ]
    where
      apart : (i k : ℕ) → i < k → k < m.count → Parallel (net_of m) i k → ⊥
      apart i k b h q =
          let (s, t) = (well_formed_ordered (well_formed m sized (mesh_still m e))).gathered i (suc i) k (omega arith) (omega arith) h q in
          let above : Above (link m i).low (link m i).high (link m (suc i)).low (link m (suc i)).high
          = (strict_says _ _ _ _).0 (mesh-each strictly_follows m sized e (suc i) (omega arith)) in
          ⊎_elim (λ (l : (link m i).low < (link m (suc i)).low). omega arith) (λ (_, l). omega arith) above

  only_strict : mesh_answer m ≡ Accepted → ((k : ℕ) → k < m.count → OnlyLink m k) → mesh_answer_by strictly_follows m ≡ Accepted
  only_strict e u = each-mesh follows m strictly_follows (mesh-now m ∙ e) (λ i h. (strict_says _ _ _ _).1 (after i h))
    where
      W : WellFormed m
      W = well_formed m sized e

      after : (i : ℕ) → i < m.count → Above (previous m i).low (previous m i).high (link m i).low (link m i).high
      after zero h = elim (dec_lt 0 (link m 0).low) [ yes l ↦ inl l | no l ↦ inr (omega arith, omega (arith, (W.joins 0 h).apart)) ]
      after (suc i) h =
          ⊎_elim inl
          (λ (q, l). elim (dec_lt (link m i).high (link m (suc i)).high) [
            | yes b ↦ inr (q, b)
            | no b ↦ absurd (omega (arith, u (suc i) h i (omega arith) (q, omega arith)))
          ])
          (rw (add-one i) at (W.rises i (omega arith)))

  pub mesh_exactly : (mesh_answer_by strictly_follows m ≡ Accepted) ↔ ((mesh_answer m ≡ Accepted) × ((k : ℕ) → k < m.count → OnlyLink m k))
  mesh_exactly = (λ e. (mesh_still m e, strict_only e), λ (e, u). only_strict e u)

pub decoded_still : (s : List ℕ) → (decoded_by strictly_follows s).answer ≡ Accepted → decoded s ≡ decoded_by strictly_follows s
decoded_still s e = sym (decoded-now s) ∙ decoded_wider strictly_follows follows follows_still s e

pub planned_still : (m : Mesh) → mesh_answer_by strictly_follows m ≡ Accepted → planned m ≡ planned_by strictly_follows m
planned_still m e = sym (planned-now m) ∙ planned_wider strictly_follows follows follows_still m e

-- a book was accepted exactly where it is accepted now and its mesh passed the checks
pub decoded_exactly : (s : List ℕ) → ((decoded_by strictly_follows s).answer ≡ Accepted)
    ↔ (((decoded s).answer ≡ Accepted) × (mesh_answer_by strictly_follows (decoded s).mesh ≡ Accepted))
unfolding mesh_answer_by
decoded_exactly s = (
  λ e. let ok : (decoded s).answer ≡ Accepted = ap (λ (d : Decoded). d.answer) (decoded_still s e) ∙ e in
      let is = (decoded-mesh s ok).1 in
      let (nodes, count, links, zeros) = mesh-parts follows (mesh_of s) (mesh-now (mesh_of s) ∙ rw is at (decoded-accepted s ok)) in
      (ok, rw is (rw (nodes, count, book_links s strictly_follows (sym (decoded_by_lem strictly_follows s) ∙ e), zeros))),
  λ (ok, f). let is = (decoded-mesh s ok).1 in
      let (_, _, links, _) = mesh-parts strictly_follows (mesh_of s) (rw is at f) in
      decoded_by_lem strictly_follows s ∙ links_book s follows (sym (decoded_by_lem follows s) ∙ ap (λ (d : Decoded). d.answer) (decoded-now s) ∙ ok) strictly_follows links,
)

-- so a book that was accepted has the plan, or the refusal, that it had
pub book-plan : (s : List ℕ) → (decoded_by strictly_follows s).answer ≡ Accepted
    → planned (decoded s).mesh ≡ planned_by strictly_follows (decoded_by strictly_follows s).mesh
book-plan s e = rw (← decoded_still s e) (planned_still (decoded s).mesh ((decoded_exactly s).0 e).1)
