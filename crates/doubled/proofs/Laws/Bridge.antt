-- Of two links with the same ends neither parts a net: a walk goes along the other. Assumes nothing.
use Rattle.std.specs.Prelude.{ℕ, ◌<◌, ◌≡◌, ◌≢◌}
use Rattle.std.proofs.Common.{⊎_elim, arith}
use Rattle.mesh.specs.declared.Mesh.{Mesh}
use Rattle.mesh.specs.Answer.{Accepted, Refused}
use Rattle.mesh.specs.Mesh.{mesh_answer}
use Rattle.mesh.specs.WellFormed.{link}
use Rattle.nets.specs.Nets.{net_of}
use Rattle.planner.specs.Plan.{planned}
use Rattle.planner.specs.Laws.Meaning.{plan-numbers}
use Rattle.doubled.proofs.Laws.Parallel.{joined-without}

-- so planning does not refuse a mesh for it
pub never_parts : (m : Mesh) → mesh_answer m ≡ Accepted → (i k : ℕ) → i < m.count → i ≢ k
    → (link m i).low ≡ (link m k).low → (link m i).high ≡ (link m k).high → (planned m).answer ≢ Refused 21 k
never_parts m ok i k h other low high e =
    ⊎_elim
    (λ (n, _). omega arith)
    (λ (_, p). let (u, v, a, b, f) = p.parted in f (joined-without (net_of m) h other low high p.joined u v a b))
    (plan-numbers m 21 k ok e)
