-- Of two links with the same ends a walk goes along the other, so a net that holds together does so without the one. Assumes nothing.
use Rattle.std.specs.Prelude.{ℕ, ◌<◌, ◌≡◌, refl, ◌≢◌}
use Rattle.std.proofs.Math.Decide.{ℕ_discrete}
use Rattle.graph.specs.Walk.{one, replace}
use Rattle.graph.specs.Net.{Net, Arc, Leads, Strong, both_ways, without}
use Rattle.graph.specs.Laws.Arcs.{reopen, without_free}
use Rattle.nets.specs.Laws.Parallel.{parallel_arc}

module _ (G : Net) {i k : ℕ} (i< : i < G.links) (other : i ≢ k) (low : G.low i ≡ G.low k) (high : G.high i ≡ G.high k) where
  -- an arc along link k is one along link i
  beside : (u v : ℕ) → Arc G both_ways u v → Leads G (without k both_ways) u v
  beside u v a = one (elim (ℕ_discrete a.link k) [
    | yes e ↦ parallel_arc (low, high) i< a e (without_free k both_ways i a.way other refl)
    | no n ↦ reopen a (without_free k both_ways a.link a.way n refl)
  ])

  pub joined-without : Strong G both_ways → Strong G (without k both_ways)
  joined-without s u v a b = replace beside (s u v a b)
