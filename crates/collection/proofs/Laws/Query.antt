-- Asking for the collection route meets 02: each refusal on its own condition, acceptance else; the route at the front of the output, which is as it was past the
-- route, and all of it on a refusal. Assumes nothing.
use Rattle.std.specs.Prelude.{ℕ, ◌<◌, ◌≤◌, ◌≡◌, refl, ◌↔◌, not, List, ltb, leb, length, take, drop, Err}
use Rattle.std.proofs.Math.Path.{sym}
use Rattle.std.proofs.Common.{subst, ◌∙◌, ltb-true, ltb-false, leb-true, leb-false, lt-ltb, le-ltb, le-leb}
use Rattle.std.proofs.lemmas.Bool.{not-true, not-false, lt-leb}
use Rattle.scan.specs.Test.{branch}
use Rattle.scan.specs.Lowest.{any}
use Rattle.graph.specs.Plan.{unreached}
use Rattle.graph.specs.Laws.Refusal.{all-reached}
use Rattle.mesh.specs.declared.Mesh.{Mesh}
use Rattle.mesh.specs.Answer.{Answer, Accepted, Refused}
use Rattle.mesh.specs.Mesh.{mesh_answer}
use Rattle.mesh.specs.WellFormed.{InRange}
use Rattle.mesh.specs.Laws.Answer.{Tells, accepting, refusing, tells_itself, told-accepted, told-refused, tells_and_then, output_written, output_kept}
use Rattle.nets.specs.Nets.{net_of}
use Rattle.nets.specs.Laws.Fits.{fits}
use Rattle.nets.specs.Laws.NoPath.{any-unreached, no_path_any, no_path_lowest}
use Rattle.depth_first.specs.Folded.{Folded}
use Rattle.collection.specs.Collection.{no_labels, tree_of, route_of, labels_of, needed, collect_answer, collected_as, collected, output_after}
use Rattle.collection.specs.Meaning.{Connected, Refusal, mesh-refused, no_such_root, no_path, output_short}
use Rattle.collection.proofs.Laws.Folded.{collects, connected_all}

-- ---- the answer

-- the mesh passes its checks and is connected, the root is one of its nodes, and the route fits
abbrev pub Acceptable : Mesh → ℕ → ℕ → Type 0
Acceptable m root room = (mesh_answer m ≡ Accepted) × (root < m.nodes) × Connected m × (needed m ≤ room)

told : (m : Mesh) (root room : ℕ) → Tells (Acceptable m root room) (Refusal m root room) (collect_answer m root room)
unfolding collect_answer
told m root room =
    tells_and_then (tells_itself (mesh_answer m))
    (λ e. branch (Tells (Acceptable m root room) (Refusal m root room)) (ltb root m.nodes)
    (λ b. branch (Tells (Acceptable m root room) (Refusal m root room)) (not (any (unreached (net_of m)) m.nodes))
    (λ c. let strong = all-reached (fits m e) (not-true _ c) in
    branch (Tells (Acceptable m root room) (Refusal m root room)) (leb (needed m) room)
    (λ d. accepting (e, ltb-true _ _ b, strong, leb-true _ _ d))
    (λ d. refusing (output_short e (ltb-true _ _ b) strong (leb-false _ _ d))))
    (λ c. refusing (no_path e (ltb-true _ _ b) (any-unreached (fits m e) (not-false _ c)))))
    (λ b. refusing (no_such_root e (ltb-false _ _ b))))
    (λ number place e. mesh-refused e)

answered : (m : Mesh) (root room : ℕ) → (collected m root room).answer ≡ collect_answer m root room
unfolding collected
answered m root room = go (collect_answer m root room)
  where
    go : (a : Answer) → (collected_as a (labels_of m root) (length (route_of m root))).answer ≡ a
    go Accepted = refl
    go (Err r) = refl

-- each refusal on its own condition
refused_only : (m : Mesh) (root room number place : ℕ) → (collected m root room).answer ≡ Refused number place → Refusal m root room number place
refused_only m root room number place e =
    told-refused (subst (Tells (Acceptable m root room) (Refusal m root room)) (sym (answered m root room) ∙ e) (told m root room))

refused_so : (m : Mesh) (root room number place : ℕ) → Refusal m root room number place → (collected m root room).answer ≡ Refused number place
unfolding collect_answer
refused_so m root room number place (mesh-refused e) = answered m root room ∙ rw e
refused_so m root room number place (no_such_root e l) = answered m root room ∙ rw (e, le-ltb root m.nodes l)
refused_so m root room number place (no_path e l n) =
    answered m root room ∙ rw (e, lt-ltb root m.nodes l, no_path_any (fits m e) n, no_path_lowest (fits m e) n)
refused_so m root room number place (output_short e l c s) =
    answered m root room ∙ rw (e, lt-ltb root m.nodes l, connected_all m e c, lt-leb (needed m) room s)

pub refuses_exactly : (m : Mesh) (root room number place : ℕ) → ((collected m root room).answer ≡ Refused number place) ↔ Refusal m root room number place
refuses_exactly m root room number place = (refused_only m root room number place, refused_so m root room number place)

-- acceptance exactly where none of the conditions holds
accepted_only : (m : Mesh) (root room : ℕ) → (collected m root room).answer ≡ Accepted → Acceptable m root room
accepted_only m root room e = told-accepted (subst (Tells (Acceptable m root room) (Refusal m root room)) (sym (answered m root room) ∙ e) (told m root room))

accepts : (m : Mesh) (root room : ℕ) → Acceptable m root room → (collected m root room).answer ≡ Accepted
unfolding collect_answer
accepts m root room (e, l, c, s) = answered m root room ∙ rw (e, lt-ltb root m.nodes l, connected_all m e c, le-leb (needed m) room s)

pub accepts_exactly : (m : Mesh) (root room : ℕ) → ((collected m root room).answer ≡ Accepted) ↔ Acceptable m root room
accepts_exactly m root room = (accepted_only m root room, accepts m root room)

-- ---- the labels and the output

module _ (m : Mesh) (root : ℕ) (out : List ℕ) where
  -- the labels and the route's number are told, the route is written, and past it the output is as it was
  pub accepted_writes : InRange m → (collected m root (length out)).answer ≡ Accepted
      → ((collected m root (length out)).tree ≡ labels_of m root)
      × ((collected m root (length out)).count ≡ needed m)
      × (take (needed m) (output_after m root out) ≡ route_of m root)
      × (drop (needed m) (output_after m root out) ≡ drop (needed m) out)
  unfolding collected output_after
  accepted_writes r e =
      let a : collect_answer m root (length out) ≡ Accepted = sym (answered m root (length out)) ∙ e in
      let (ok, l, c, s) = accepted_only m root (length out) e in
      let n = (collects m ok root l r c).entries in
      let (written, kept) = output_written a (route_of m root) out in
      (rw a, rw a n, rw (← n) written, rw (← n) kept)

  -- so of what is told to be written, and of the labels, all holds that 02 says
  pub accepted_collects : InRange m → (collected m root (length out)).answer ≡ Accepted
      → Folded (net_of m) root (tree_of m root) (take (collected m root (length out)).count (output_after m root out)) (collected m root (length out)).tree
  accepted_collects r e =
      let (labels, n, written, kept) = accepted_writes r e in
      let (ok, l, c, s) = accepted_only m root (length out) e in
      rw (labels, n, written) (collects m ok root l r c)

  -- on a refusal no link is labelled, no entry counted, and the output as it was
  pub refusal-told : (number place : ℕ) → (collected m root (length out)).answer ≡ Refused number place
      → ((collected m root (length out)).tree ≡ no_labels) × ((collected m root (length out)).count ≡ 0) × (output_after m root out ≡ out)
  unfolding collected output_after
  refusal-told number place e =
      let a : collect_answer m root (length out) ≡ Refused number place = sym (answered m root (length out)) ∙ e in
      (rw a, rw a, output_kept a (route_of m root) out)
