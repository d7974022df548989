-- The test of one link on rows without it. Assumes nothing.
use Rattle.std.specs.Prelude.{ℕ, ◌%◌, ◌<◌, ◌≤◌, ◌≡◌, not, List}
use Rattle.std.proofs.Math.Path.{ap}
use Rattle.scan.specs.Bits.{has}
use Rattle.graph.specs.Net.{Net, Fits, both_ways, without}
use Rattle.graph.specs.Greedy.{bridge}
use Rattle.rows.specs.Rows.{Spread}
use Rattle.nets.specs.Nets.{Table}
use Rattle.bridges.proofs.Laws.Parts.{found_is}

module _ {G : Net} (F : Fits G) (most : G.nodes ≤ 64) {k : ℕ} (h : k < G.links) {rows : List ℕ} (T : Table G (without k both_ways) rows) {r : ℕ}
    (S : Spread rows (G.low k % 64) r) where
  pub bridge_is : not (has r (G.high k % 64)) ≡ bridge G k
  unfolding bridge
  bridge_is = ap not (found_is F most T S (F.low_below k h) (G.high k) (F.high_below k h))
