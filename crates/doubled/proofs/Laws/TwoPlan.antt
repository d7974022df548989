-- Two nodes with two links are planned, with the directions 0 1, whatever their lengths, fibre pairs and ducts. Assumes 256 entries in the mesh's list of links.
use Rattle.std.specs.Prelude.{ℕ, zero, suc, ◌<◌, ◌≡◌, [], ◌∷◌, length}
use Rattle.std.proofs.Common.{ap, ◌∙◌, arith}
use Rattle.mesh.specs.declared.Mesh.{Mesh}
use Rattle.mesh.specs.Answer.{Accepted}
use Rattle.mesh.specs.Mesh.{mesh_answer}
use Rattle.mesh.specs.WellFormed.{link, WellFormed, SameEnds}
use Rattle.mesh.specs.Laws.Checked.{well_formed}
use Rattle.planner.specs.declared.Planned.{Planned}
use Rattle.planner.specs.Plan.{padded, planned}
use Rattle.planner.specs.Laws.ByEnds.{planned_by_ends}
use Rattle.doubled.proofs.Laws.TwoNodes.{two_nodes, accepted-two, planned-two}

module _ (m : Mesh) (sized : length m.links ≡ 256) (ok : mesh_answer m ≡ Accepted) (nodes : m.nodes ≡ 2) (links : m.count ≡ 2) where
  W : WellFormed m
  W = well_formed m sized ok

  -- the ends of both links are nodes 0 and 1
  same : SameEnds m two_nodes
  same = record { nodes = nodes; count = links; low = low; high = high }
    where
      low : (i : ℕ) → i < m.count → (link m i).low ≡ (link two_nodes i).low
      low zero h = omega (arith, (W.joins 0 h).apart, (W.joins 0 h).inside)
      low (suc zero) h = omega (arith, (W.joins 1 h).apart, (W.joins 1 h).inside)
      low (suc (suc i)) h = absurd (omega arith)

      high : (i : ℕ) → i < m.count → (link m i).high ≡ (link two_nodes i).high
      high zero h = omega (arith, (W.joins 0 h).apart, (W.joins 0 h).inside)
      high (suc zero) h = omega (arith, (W.joins 1 h).apart, (W.joins 1 h).inside)
      high (suc (suc i)) h = absurd (omega arith)

  pub two-planned : planned m ≡ record { plan = padded (0 ∷ 1 ∷ []); answer = Accepted }
  two-planned = planned_by_ends m two_nodes same ok accepted-two ∙ planned-two

  pub two-accepted : (planned m).answer ≡ Accepted
  two-accepted = ap (λ (r : Planned). r.answer) two-planned
