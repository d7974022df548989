-- The collection route of every mesh that passes the checks and is connected is as 02 says, from every root; and a mesh whose walk has 2 N - 1 entries is
-- connected. Assumes nothing.
use Rattle.std.specs.Prelude.{ℕ, ◌≤◌, ◌<◌, ◌≡◌, Bool, false, length, replicate}
use Rattle.std.proofs.Common.{⊎_elim, arith}
use Rattle.std.proofs.lemmas.List.{length-replicate}
use Rattle.scan.specs.Entry.{replicate-at}
use Rattle.scan.specs.Test.{known}
use Rattle.scan.specs.Lowest.{any}
use Rattle.graph.specs.Plan.{unreached}
use Rattle.graph.specs.Laws.Refusal.{unreached_iff}
use Rattle.mesh.specs.declared.Mesh.{Mesh}
use Rattle.mesh.specs.Answer.{Accepted}
use Rattle.mesh.specs.Mesh.{mesh_answer}
use Rattle.mesh.specs.WellFormed.{InRange}
use Rattle.mesh.specs.Laws.Checked.{passes, well_formed}
use Rattle.nets.specs.Nets.{net_of}
use Rattle.nets.specs.Laws.Fits.{fits}
use Rattle.depth_first.proofs.Laws.Main.{folded, all_met, tour_most}
use Rattle.collection.specs.Collection.{route_of, needed}
use Rattle.collection.specs.Meaning.{Connected, Collects}

-- in a connected mesh the test for 20 does not pass
pub connected_all : (m : Mesh) → mesh_answer m ≡ Accepted → Connected m → any (unreached (net_of m)) m.nodes ≡ false
connected_all m ok strong = ⊎_elim (λ t. let (u, v, hu, hv, n) = (unreached_iff (fits m ok)).0 t in absurd (n (strong u v hu hv))) (λ f. f) (known (any (unreached (net_of m)) m.nodes))

module _ (m : Mesh) (ok : mesh_answer m ≡ Accepted) (root : ℕ) (inside : root < m.nodes) where
  -- none of the 64 nodes is visited
  enough : m.nodes ≤ length (replicate {A = Bool} 64 false)
  enough = omega (arith, (passes m ok).nodes_most, length-replicate {A = Bool} 64 false)

  pub collects : InRange m → Connected m → Collects m root
  collects r strong =
      let W = well_formed m r.entries ok in
      folded (net_of m) (fits m ok) root inside (replicate 64 false) (replicate-at 64 false) enough 256 (passes m ok).count_most strong
      (λ i l e. absurd (omega (arith, (W.joins i l).apart)))

  -- a walk with as many entries as a connected mesh needs
  pub connects : needed m ≤ length (route_of m root) → Connected m
  connects = all_met (net_of m) (fits m ok) root inside (replicate 64 false) (replicate-at 64 false) enough 256 (passes m ok).count_most

  -- none has more
  pub most : length (route_of m root) ≤ needed m
  most = tour_most (net_of m) (fits m ok) root inside (replicate 64 false) (replicate-at 64 false) enough
