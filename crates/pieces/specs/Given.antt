-- What the functions on the back-up digraph are given of a mesh and a cut. Definitions only.
use Rattle.std.specs.Prelude.{ℕ, ◌<◌, ◌≡◌, List}
use Rattle.mesh.specs.declared.Mesh.{Mesh}
use Rattle.mesh.specs.Answer.{Accepted}
use Rattle.mesh.specs.Mesh.{mesh_answer}
use Rattle.mesh.specs.WellFormed.{InRange}
use Rattle.mesh.specs.Parts.{ends_in}

-- the number of links of an accepted mesh, their ends, and one of its links
pub record Given (m : Mesh) (count : ℕ) (ends : List ℕ) (k : ℕ) : Type 0 where
  pub accepted : mesh_answer m ≡ Accepted
  pub ranges : InRange m
  pub counted : count ≡ m.count
  pub stored : ends ≡ ends_in m
  pub link : k < m.count
