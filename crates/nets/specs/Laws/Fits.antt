-- The net of a mesh that passes the checks: its links join its nodes. Assumes nothing.
use Rattle.std.specs.Prelude.{ℕ, ◌%◌, ◌<◌, ◌≤◌, ◌≡◌}
use Rattle.std.proofs.Common.{arith}
use Rattle.mesh.specs.declared.Mesh.{Mesh}
use Rattle.mesh.specs.Answer.{Accepted}
use Rattle.mesh.specs.Mesh.{mesh_answer}
use Rattle.mesh.specs.WellFormed.{WellFormed}
use Rattle.mesh.specs.Laws.Checked.{passes}
use Rattle.graph.specs.Net.{Net, Fits}
use Rattle.nets.specs.Nets.{net_of}

pub fits : (m : Mesh) → mesh_answer m ≡ Accepted → Fits (net_of m)
fits m ok = let p = passes m ok in record { some-node = omega (arith, p.nodes_least); low_below = p.low_below; high_below = p.high_below }

pub well_formed_fits : {m : Mesh} → WellFormed m → Fits (net_of m)
well_formed_fits W = record {
  some-node = omega (arith, W.nodes_least);
  low_below = λ i h. omega (arith, (W.joins i h).apart, (W.joins i h).inside);
  high_below = λ i h. (W.joins i h).inside;
}

-- the ends are nodes below 64, which count modulo 64 as themselves
pub counted : {G : Net} → Fits G → G.nodes ≤ 64 → (k : ℕ) → k < G.links → (G.low k % 64 ≡ G.low k) × (G.high k % 64 ≡ G.high k)
counted F n k h = (omega (arith, F.low_below k h), omega (arith, F.high_below k h))
