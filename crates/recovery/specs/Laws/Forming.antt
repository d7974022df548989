-- The record test of a session, by the laws of its pieces. Assumes nothing.
use Rattle.std.specs.Prelude.{ℕ, ◌≤◌, ◌≡◌, ◌↔◌, length}
use Rattle.mesh.specs.Answer.{Accepted, Refused}
use Rattle.mesh.specs.Mesh.{mesh_answer}
use Rattle.wavelengths.specs.declared.Wavelength.{Wavelength}
use Rattle.wavelengths.specs.Wavelength.{on}
use Rattle.formed.specs.WellFormed.{PlanFormed, CutFormed, FloodFormed, Refusal}
use Rattle.formed.specs.Laws.Forming as pieces
use Rattle.recovery.specs.declared.Session.{Session}
use Rattle.recovery.specs.Session.{floods}
use Rattle.recovery.specs.Formed.{Formed, record_answer}

module _ (s : Session) where
  -- the test accepts exactly the well-formed records
  pub record_formed : length s.mesh.links ≡ 256 → (record_answer s ≡ Accepted) ↔ Formed s
  record_formed = pieces.record_formed s.mesh s.plan s.cut (floods s)

  pub record_accepts : mesh_answer s.mesh ≡ Accepted → PlanFormed s.mesh s.plan → CutFormed s.mesh s.cut → ((w : Wavelength) → FloodFormed s.mesh (on w (floods s)))
      → record_answer s ≡ Accepted
  record_accepts = pieces.record_accepts s.mesh s.plan s.cut (floods s)

  -- it refuses with the mesh's own refusal, or with 13 at 0 where the mesh is accepted and the record is ill-formed
  pub refused_record : {number place : ℕ} → record_answer s ≡ Refused number place → Refusal s.mesh (Formed s) number place
  refused_record = pieces.refused_record s.mesh s.plan s.cut (floods s)

  -- what holds of any accepted record, however many entries its list of links has
  pub record_few : record_answer s ≡ Accepted → s.mesh.count ≤ 256
  record_few = pieces.record_few s.mesh s.plan s.cut (floods s)
