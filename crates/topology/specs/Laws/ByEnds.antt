-- The back-up digraph reads N, L and the ends of the links alone: two accepted meshes that have these in common have one, on each wavelength and under every
-- plan. Assumes nothing.
use Rattle.std.specs.Prelude.{ℕ, ◌≡◌, cond, eqb}
use Rattle.scan.specs.Entry.{at}
use Rattle.wavelengths.specs.declared.Wavelength.{Wavelength}
use Rattle.wavelengths.specs.Wavelength.{arcs_on}
use Rattle.mesh.specs.declared.Mesh.{Mesh}
use Rattle.mesh.specs.declared.Plan.{Plan}
use Rattle.mesh.specs.Answer.{Accepted}
use Rattle.mesh.specs.Mesh.{mesh_answer}
use Rattle.mesh.specs.WellFormed.{SameEnds}
use Rattle.mesh.specs.Arc.{back_tail, back_head}
use Rattle.mesh.specs.Laws.ByEnds.{same_low, same_high}
use Rattle.topology.specs.Backup.{backup_on}

module _ (m m' : Mesh) (same : SameEnds m m') (e : mesh_answer m ≡ Accepted) (e' : mesh_answer m' ≡ Accepted) (p : Plan) where
  tail : (i : ℕ) → back_tail m p i ≡ back_tail m' p i
  tail i = λ j. cond (eqb (at p.directions i) 0) (same_high m m' same e e' i j) (same_low m m' same e e' i j)

  head : (i : ℕ) → back_head m p i ≡ back_head m' p i
  head i = λ j. cond (eqb (at p.directions i) 0) (same_low m m' same e e' i j) (same_high m m' same e e' i j)

  pub backup_by_ends : (w : Wavelength) → backup_on w m p ≡ backup_on w m' p
  backup_by_ends w = λ j. arcs_on w (record { nodes = same.nodes j; links = same.count j; tail = λ i. tail i j; head = λ i. head i j })
