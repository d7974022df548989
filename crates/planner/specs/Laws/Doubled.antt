-- In an accepted plan each but the last of links with the same ends runs from low to high (02, request 7). Assumes nothing.
use Rattle.std.specs.Prelude.{ℕ, ◌<◌, ◌≡◌}
use Rattle.std.proofs.Common.{◌∙◌, arith}
use Rattle.std.proofs.Math.ListN.{get_or-append}
use Rattle.scan.specs.Entry.{at}
use Rattle.graph.specs.Net.{Net}
use Rattle.graph.specs.Greedy.{greedy, direction}
use Rattle.graph.specs.Laws.Pass.{greedy-length, greedy-at}
use Rattle.mesh.specs.declared.Mesh.{Mesh}
use Rattle.mesh.specs.Answer.{Accepted}
use Rattle.mesh.specs.WellFormed.{link, WellFormed, InRange}
use Rattle.mesh.specs.Laws.Checked.{well_formed}
use Rattle.nets.specs.Nets.{net_of}
use Rattle.nets.specs.Laws.Fits.{well_formed_fits}
use Rattle.nets.specs.Laws.Ordered.{well_formed_ordered}
use Rattle.planner.specs.Plan.{padded, planned}
use Rattle.planner.specs.Laws.Parallel.{before-zero}
use Rattle.planner.specs.Laws.Meaning.{plan_checked, plan-greedy}

-- an entry of the plan is the direction that the pass gave
padded-at : (G : Net) (n i : ℕ) → i < n → at (padded (greedy G n)).directions i ≡ direction G i
padded-at G n i h = get_or-append (greedy G n) _ 0 i (omega (arith, greedy-length G n)) ∙ greedy-at G n i h

pub doubled_zero : (m : Mesh) → InRange m → (planned m).answer ≡ Accepted → (i k : ℕ) → i < k → k < m.count
    → (link m i).low ≡ (link m k).low → (link m i).high ≡ (link m k).high → at (planned m).plan.directions i ≡ 0
doubled_zero m R e i k l h low high =
    let W : WellFormed m = well_formed m R.entries (plan_checked m e) in
    rw (plan-greedy m e)
    (padded-at (net_of m) m.count i (omega arith) ∙ before-zero (well_formed_fits W) (well_formed_ordered W) i k l h (low, high))
