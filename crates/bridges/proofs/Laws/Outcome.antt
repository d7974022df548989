-- The ways out of a survey. Assumes nothing.
use Rattle.std.specs.Prelude.{ℕ, ◌≡◌, List}
use Rattle.std.proofs.Math.Path.{refl}
use Rattle.mesh.specs.declared.Mesh.{Mesh}
use Rattle.mesh.specs.Answer.{Answer, Accepted, Refused}
use Rattle.mesh.specs.Mesh.{mesh_answer}
use Rattle.nets.specs.Nets.{net_of}
use Rattle.bridges.specs.Survey.{parts_by, bridges_by, no_parts, no_bridges, surveyed}

module _ (m : Mesh) where
  -- the mesh checks refuse
  pub surveyed-refused : {number place : ℕ} {answer : Answer} → answer ≡ mesh_answer m → answer ≡ Refused number place
      → surveyed m ≡ record { parts = no_parts; bridges = no_bridges; answer = answer }
  unfolding surveyed
  surveyed-refused e f = rw (← e, f) refl

  -- they accept
  pub surveyed-made : {parts bridges : List ℕ} {answer : Answer} → answer ≡ mesh_answer m → answer ≡ Accepted → parts ≡ parts_by (net_of m)
      → bridges ≡ bridges_by (net_of m) → surveyed m ≡ record { parts = parts; bridges = bridges; answer = answer }
  unfolding surveyed
  surveyed-made e f p b = rw (p, b, ← e, f) refl
