-- The links of a mesh that passes the checks stand in order: since the pairs of ends do not fall, equal ones are neighbours. Assumes nothing.
use Rattle.std.specs.Prelude.{ℕ, ◌+◌, ◌*◌, ◌<◌, ◌≤◌}
use Rattle.std.proofs.Common.{⊎_elim, arith}
use Rattle.scan.specs.Rising.{rising}
use Rattle.mesh.specs.declared.Mesh.{Mesh}
use Rattle.mesh.specs.WellFormed.{link, WellFormed}
use Rattle.nets.specs.Nets.{net_of}
use Rattle.nets.specs.Parallel.{Parallel, Ordered}

module _ {m : Mesh} (W : WellFormed m) where
  -- the pairs of ends as numbers
  abbrev pair : ℕ → ℕ
  pair i = (link m i).low * 64 + (link m i).high

  pair_rises : (i : ℕ) → i + 1 < m.count → pair i ≤ pair (i + 1)
  pair_rises i h =
      let below = (W.joins i (omega arith)).inside in
      ⊎_elim (λ l. omega (arith, W.nodes_most)) (λ (e, l). omega arith) (W.rises i h)

  between : (i j k : ℕ) → i ≤ j → j ≤ k → k < m.count → Parallel (net_of m) i k → Parallel (net_of m) i j
  between i j k a b l (s, t) =
      let lower = rising pair m.count pair_rises i j a (omega arith) in
      let upper = rising pair m.count pair_rises j k b l in
      let first = (W.joins i (omega arith)).inside in
      let middle = (W.joins j (omega arith)).inside in
      let most = W.nodes_most in
      (omega arith, omega arith)

  pub well_formed_ordered : Ordered (net_of m)
  well_formed_ordered = record { upward = λ i h. (W.joins i h).apart; gathered = between }
