-- What the mesh checks accept: exactly the well-formed meshes. Assumes nothing.
use Rattle.std.specs.Prelude.{ℕ, zero, suc, ◌<◌, ◌≤◌, ◌≡◌, ◌↔◌, length}
use Rattle.std.proofs.Common.{subst, inl, inr, arith, add-one}
use Rattle.std.proofs.Math.Decide.{dec_lt}
use Rattle.std.proofs.Math.ListN.{get_or-eq_default}
use Rattle.mesh.specs.declared.Link.{Link}
use Rattle.mesh.specs.declared.Mesh.{Mesh}
use Rattle.mesh.specs.Answer.{Accepted}
use Rattle.mesh.specs.Mesh.{zero_link, mesh_answer}
use Rattle.mesh.specs.WellFormed.{link, Rises, WellFormed}
use Rattle.mesh.specs.Refusal.{LinkFault, low_not_below_high, end-not_below_nodes, pair_below, Faultless, previous}
use Rattle.mesh.specs.Refusal.{Refusal, nodes_unfit, count_unfit, first_fault, entry-not-zero, duct-not-zero}
use Rattle.mesh.specs.Laws.Answer.{Tells, told-accepted, tells_accepted}
use Rattle.mesh.specs.Laws.Ends.{not_both}
use Rattle.mesh.specs.Laws.Refused.{Sound, mesh-told}

pub sound : (m : Mesh) → mesh_answer m ≡ Accepted → Sound m
sound m e = told-accepted (subst (Tells (Sound m) (Refusal m)) e (mesh-told m))

-- what holds of any accepted mesh, however many entries its list has
pub record Passes (m : Mesh) : Type 0 where
  pub nodes_least : 2 ≤ m.nodes
  pub nodes_most : m.nodes ≤ 64
  pub count_most : m.count ≤ 256
  pub low_below : (i : ℕ) → i < m.count → (link m i).low < m.nodes
  pub high_below : (i : ℕ) → i < m.count → (link m i).high < m.nodes

pub passes : (m : Mesh) → mesh_answer m ≡ Accepted → Passes m
passes m e = record {
  nodes_least = s.nodes.0;
  nodes_most = s.nodes.1;
  count_most = s.count;
  low_below = λ i h. (below i h).0;
  high_below = λ i h. (below i h).1;
}
  where
    s : Sound m
    s = sound m e

    below : (i : ℕ) → i < m.count → ((link m i).low < m.nodes) × ((link m i).high < m.nodes)
    below i h = elim (dec_lt i (length m.links)) [
      | yes l ↦ let j = (s.faultless i h l).0 in (omega arith, j.inside)
      | no l ↦ rw (get_or-eq_default m.links zero_link {n = i} (omega arith)) (omega (arith, s.nodes.0), omega (arith, s.nodes.0))
    ]

-- no pair is below (0, 0)
rises_zero : (l : Link) → Rises zero_link l
rises_zero l = elim (dec_lt 0 l.low) [ yes b ↦ inl b | no b ↦ inr (omega arith, omega arith) ]

-- no link both has a fault and has none
pub no_fault : (n : ℕ) (p l : Link) (number : ℕ) → Faultless n p l → LinkFault n p l number → ⊥
no_fault n p l number (j, r) (low_not_below_high a) = omega arith
no_fault n p l number (j, r) (end-not_below_nodes a f) = f (omega arith, j.inside)
no_fault n p l number (j, r) (pair_below a b f) = not_both p.low p.high l.low l.high r f

module _ (m : Mesh) (w : WellFormed m) where
  rises_previous : (i : ℕ) → i < m.count → Rises (previous m i) (link m i)
  rises_previous zero h = rises_zero (link m 0)
  rises_previous (suc i) h = rw (add-one i) at (w.rises i (omega arith))

  -- no refusal's condition holds of a well-formed mesh
  never_refused : (number place : ℕ) → Refusal m number place → ⊥
  never_refused number place (nodes_unfit f) = f (w.nodes_least, w.nodes_most)
  never_refused number place (count_unfit h) = omega (arith, w.count_most)
  never_refused number place (first_fault h f g) = no_fault m.nodes (previous m place) (link m place) number (w.joins place h, rises_previous place h) f
  never_refused number place (entry-not-zero i h f) = f (w.zeros i h)
  never_refused number place (duct-not-zero i h f) = f (w.ductless i h)

-- the checks accept a mesh just where it is well formed
module _ (m : Mesh) (sized : length m.links ≡ 256) where
  pub well_formed : mesh_answer m ≡ Accepted → WellFormed m
  well_formed e = record {
    nodes_least = s.nodes.0;
    nodes_most = s.nodes.1;
    count_most = s.count;
    joins = λ i h. (good i h).0;
    rises = λ i h. rw (add-one i) (good (suc i) (omega arith)).1;
    zeros = s.zeros;
    ductless = s.ductless;
  }
    where
      s : Sound m
      s = sound m e

      good : (i : ℕ) → i < m.count → Faultless m.nodes (previous m i) (link m i)
      good i h = s.faultless i h (omega (arith, s.count))

  pub accepts : WellFormed m → mesh_answer m ≡ Accepted
  accepts w = tells_accepted (mesh-told m) (never_refused m w)

  pub checks : (mesh_answer m ≡ Accepted) ↔ WellFormed m
  checks = (well_formed, accepts)
