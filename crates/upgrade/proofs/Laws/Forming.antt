-- The record test from before a change accepts exactly the well-formed old records, and refuses each on its own condition. What the mesh checks say of the mesh
-- of now is carried over to the old mesh, whose links have the same ends and are zero at least where the old ones are. Assumes the ranges of the old mesh's
-- fields, which its types ensure.
use Rattle.std.specs.Prelude.{ℕ, zero, suc, ◌+◌, ◌<◌, ◌≤◌, ◌≡◌, refl, ◌↔◌, Bool, true, false, not, ◌||◌, Err}
use Rattle.std.proofs.Common.{sym, subst, ap, ◌∙◌}
use Rattle.scan.specs.Test.{fails, Says, not_says, nor_says}
use Rattle.scan.specs.Entry.{has}
use Rattle.faults.specs.Faults.{overflows, strays}
use Rattle.mesh.specs.Answer.{Answer, Accepted, Refused}
use Rattle.mesh.specs.Mesh.{must, and_then, mesh_answer}
use Rattle.mesh.specs.WellFormed as current
use Rattle.mesh.specs.WellFormed.{link}
use Rattle.mesh.specs.Refusal as refusals
use Rattle.mesh.specs.Laws.Answer.{must-accepted, and_then-accepted, Tells, accepting, refusing, told-refused}
use Rattle.mesh.specs.Laws.Checked.{well_formed, accepts, no_fault}
use Rattle.mesh.specs.Laws.Refused.{refused_only}
use Rattle.formed.specs.Cut as cuts
use Rattle.formed.specs.WellFormed.{Bounded}
use Rattle.formed.specs.Laws.Forming.{bounded_says, cut_says, strays_says}
use Rattle.legacy.specs.declared.OldMesh.{OldMesh}
use Rattle.legacy.specs.declared.OldCut.{OldCut}
use Rattle.legacy.specs.declared.OldCut.TheVariants as oldCuts
use Rattle.legacy.specs.declared.OldSession.{OldSession}
use Rattle.legacy.specs.Record as old
use Rattle.legacy.specs.Record.{rest_zero, misplaced, ill_formed}
use Rattle.legacy.specs.WellFormed.{InRange, WellFormed, Formed, previous, MeshRefusal, nodes_unfit, count_unfit, first_fault, entry-not-zero}
use Rattle.legacy.specs.WellFormed.{Refusal, of_mesh, ill_formed_lem}
use Rattle.upgrade.specs.Carried.{link_of, mesh_of, cut_of}
use Rattle.upgrade.proofs.Laws.Checks.{link-carried, no_duct, rest_says, rest_fails, mesh_sized, mesh-shares}

-- an answer and one more test after it: a refusal is the answer's own, or that of the test where the answer accepts
last_refused : (R : ℕ → ℕ → Type 0) (a : Answer) (t : Bool) (n p : ℕ) {number place : ℕ} → and_then a (must t n p Accepted) ≡ Refused number place
    → ((number place : ℕ) → a ≡ Refused number place → R number place) → (a ≡ Accepted → t ≡ false → R n p) → R number place
last_refused R a t n p e own last = told-refused (subst (Tells (Unit {0}) R) e (told a t own last))
  where
    told : (a : Answer) (t : Bool) → ((number place : ℕ) → a ≡ Refused number place → R number place) → (a ≡ Accepted → t ≡ false → R n p)
        → Tells (Unit {0}) R (and_then a (must t n p Accepted))
    told (Err r) t own last = refusing (own r.number r.place refl)
    told Accepted true own last = accepting tt
    told Accepted false own last = refusing (last refl refl)

-- ---- the mesh

module _ (m : OldMesh) where
  -- the link before each is carried over
  previous-carried : (i : ℕ) → refusals.previous (mesh_of m) i ≡ link_of (previous m i)
  previous-carried zero = refl
  previous-carried (suc i) = link-carried m i

  -- the condition of a refusal of the mesh of now is that of the old mesh
  refusal-carried : (number place : ℕ) → refusals.Refusal (mesh_of m) number place → MeshRefusal m number place
  refusal-carried number place (refusals.nodes_unfit f) = nodes_unfit f
  refusal-carried number place (refusals.count_unfit h) = count_unfit h
  refusal-carried number place (refusals.first_fault h f g) =
      first_fault h (rw (previous-carried place, link-carried m place) at f) (λ i n b fault.
      no_fault m.nodes (refusals.previous (mesh_of m) i) (link (mesh_of m) i) n (g i b) (rw (previous-carried i, link-carried m i) fault))
  refusal-carried number place (refusals.entry-not-zero i h f) = entry-not-zero i h (λ e. f (link-carried m i ∙ ap link_of e))
  refusal-carried number place (refusals.duct-not-zero i h f) = absurd (f (no_duct m i))

  -- a well-formed old mesh becomes a well-formed mesh of now
  formed_now : WellFormed m → current.WellFormed (mesh_of m)
  formed_now w = record {
    nodes_least = w.nodes_least;
    nodes_most = w.nodes_most;
    count_most = w.count_most;
    joins = λ i h. rw (link-carried m i) (record { apart = w.apart i h; inside = w.inside i h });
    rises = λ i h. rw (link-carried m i, link-carried m (i + 1)) (w.rises i h);
    zeros = λ i h. link-carried m i ∙ ap link_of (w.zeros i h);
    ductless = λ i h. no_duct m i;
  }

  module _ (ranges : InRange m) where
    -- an accepted mesh of now was a well-formed old mesh where the old entries past the last link are zero
    formed_old : mesh_answer (mesh_of m) ≡ Accepted → rest_zero m ≡ true → WellFormed m
    formed_old a z =
        let w : current.WellFormed (mesh_of m) = well_formed (mesh_of m) (mesh_sized m ranges) a in
        record {
          nodes_least = w.nodes_least;
          nodes_most = w.nodes_most;
          count_most = w.count_most;
          apart = λ i h. rw (link-carried m i) at (w.joins i h).apart;
          inside = λ i h. rw (link-carried m i) at (w.joins i h).inside;
          rises = λ i h. rw (link-carried m i, link-carried m (i + 1)) at (w.rises i h);
          zeros = (rest_says m ranges.entries).0 z;
        }

    -- the old mesh checks accept exactly the well-formed old meshes
    pub mesh_formed : (old.mesh_answer m ≡ Accepted) ↔ WellFormed m
    mesh_formed = (
      λ e. let (a, b) = and_then-accepted (mesh_answer (mesh_of m)) _ (sym (mesh-shares m ranges) ∙ e) in formed_old a (must-accepted (rest_zero m) 13 0 Accepted b).0,
      λ w. mesh-shares m ranges ∙ rw (accepts (mesh_of m) (mesh_sized m ranges) (formed_now w), (rest_says m ranges.entries).1 w.zeros),
    )

    -- and refuse each on its own condition
    refused-mesh : (number place : ℕ) → old.mesh_answer m ≡ Refused number place → MeshRefusal m number place
    refused-mesh number place e =
        last_refused (MeshRefusal m) (mesh_answer (mesh_of m)) (rest_zero m) 13 0 (sym (mesh-shares m ranges) ∙ e)
        (λ n p a. refusal-carried n p (refused_only (mesh_of m) n p a))
        (λ a f. let (i, h, z) = rest_fails m f in entry-not-zero i h z)

-- ---- the rest of the record

-- the cut is a link or none
placed_says : (m : OldMesh) (c : OldCut) → Says (not (misplaced m.count c)) ((k : ℕ) → c ≡ oldCuts.Link k → k < m.count)
placed_says m oldCuts.Nothing = (λ t k e. (cut_says (mesh_of m) cuts.Nothing).0 t k (ap cut_of e), λ h. refl)
placed_says m (oldCuts.Link k) = (
  λ t j e. (cut_says (mesh_of m) (cuts.Link k)).0 t j (ap cut_of e),
  λ h. (cut_says (mesh_of m) (cuts.Link k)).1 (λ j e. let q : k ≡ j = cc in subst (λ (j : ℕ). j < m.count) q (h k refl)),
)

module _ (s : OldSession) where
  -- what may be ill formed besides the mesh
  abbrev pub directions_fault : Bool
  directions_fault = overflows s.mesh.count 1 s.plan.directions

  abbrev pub states_fault : Bool
  states_fault = overflows s.mesh.count 4 s.flood.states

  abbrev pub cut_fault : Bool
  cut_fault = misplaced s.mesh.count s.cut

  abbrev pub reached_fault : Bool
  reached_fault = strays s.mesh.nodes s.flood.reached

  -- what a record asks for besides its mesh
  abbrev Rest : Type 0
  Rest = ((Bounded s.mesh.count 1 s.plan.directions × Bounded s.mesh.count 4 s.flood.states)
      × ((k : ℕ) → s.cut ≡ oldCuts.Link k → k < s.mesh.count))
      × ((v : ℕ) → v < 64 → has s.flood.reached v ≡ true → v < s.mesh.nodes)

  rest_formed : s.mesh.count ≤ 256 → Says (not (ill_formed s)) Rest
  unfolding ill_formed
  rest_formed few =
      nor_says ((directions_fault || states_fault) || cut_fault) reached_fault
      (nor_says (directions_fault || states_fault) cut_fault
      (nor_says directions_fault states_fault
      (bounded_says s.mesh.count 1 s.plan.directions few)
      (bounded_says s.mesh.count 4 s.flood.states few))
      (placed_says s.mesh s.cut))
      (strays_says s.mesh.nodes s.flood.reached)

  -- an accepted record has an accepted mesh, and is not ill formed
  pub record_passed : old.record_answer s ≡ Accepted → (old.mesh_answer s.mesh ≡ Accepted) × (ill_formed s ≡ false)
  unfolding old.record_answer
  record_passed e =
      let (a, b) = and_then-accepted (old.mesh_answer s.mesh) _ e in
      (a, (not_says _).0 (must-accepted (not (ill_formed s)) 13 0 Accepted b).0)

  module _ (ranges : InRange s.mesh) where
    mesh_few : old.mesh_answer s.mesh ≡ Accepted → s.mesh.count ≤ 256
    mesh_few a = ((mesh_formed s.mesh ranges).0 a).count_most

    -- the old record test accepts exactly the well-formed old records
    pub record_formed : (old.record_answer s ≡ Accepted) ↔ Formed s
    unfolding old.record_answer
    record_formed = (
      λ e. let (a, b) = record_passed e in
          let (((planned, states), placed), reached) = (rest_formed (mesh_few a)).0 ((not_says _).1 b) in
          record { mesh = (mesh_formed s.mesh ranges).0 a; plan = planned; cut = placed; states = states; reached = reached },
      λ F. rw ((mesh_formed s.mesh ranges).1 F.mesh, (rest_formed F.mesh.count_most).1 (((F.plan, F.states), F.cut), F.reached)),
    )

    -- and refuses each on its own condition: the mesh's, or 13 where the mesh is accepted and the rest is ill formed
    pub refused_record : {number place : ℕ} → old.record_answer s ≡ Refused number place → Refusal s number place
    unfolding old.record_answer
    refused_record e =
        last_refused (Refusal s) (old.mesh_answer s.mesh) (not (ill_formed s)) 13 0 e
        (λ n p a. of_mesh (refused-mesh s.mesh ranges n p a))
        (λ a f. ill_formed_lem a (λ F. fails (rest_formed (mesh_few a)) f (((F.plan, F.states), F.cut), F.reached)))
