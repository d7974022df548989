-- The search for the lowest node of a part, on rows that have a net's links both ways, and the loop over the nodes. Assumes nothing.
use Rattle.std.specs.Prelude.{ℕ, ◌%◌, ◌<◌, ◌≤◌, ◌≡◌, List}
use Rattle.std.proofs.Common.{arith}
use Rattle.scan.specs.Lowest.{lowest, lowest-same}
use Rattle.scan.specs.Bits.{has}
use Rattle.graph.specs.Net.{Net, Fits, Ways, both_ways}
use Rattle.graph.specs.Reach.{reaches}
use Rattle.graph.specs.Laws.Reached.{reaches_by}
use Rattle.rows.specs.Rows.{Spread}
use Rattle.rows.specs.Laws.Spreading.{spread_says}
use Rattle.nets.specs.Nets.{Table}
use Rattle.nets.specs.Laws.Table.{to_leads, from_leads}
use Rattle.bridges.specs.Survey.{part_of}

-- the nodes that a search finds are those that are reached; a node counts modulo 64 as itself
module _ {G : Net} (F : Fits G) (most : G.nodes ≤ 64) {w : Ways} {rows : List ℕ} (T : Table G w rows) {a r : ℕ} (S : Spread rows (a % 64) r) where
  pub found_is : a < G.nodes → (v : ℕ) → v < G.nodes → has r (v % 64) ≡ reaches G w a v
  found_is ha v hv =
      let (to, from) = spread_says S (v % 64) in
      let a-is : a % 64 ≡ a = omega arith in
      let v-is : v % 64 ≡ v = omega arith in
      reaches_by F w a ha (has r (v % 64)) v (λ e. to_leads T (rw (a-is, v-is) at (to e)), λ p. from (rw (a-is, v-is) (from_leads T p)))

-- the lowest of them is the part's
pub part_found : {G : Net} (F : Fits G) (most : G.nodes ≤ 64) {rows : List ℕ} (T : Table G both_ways rows) {v r : ℕ} (h : v < G.nodes) (S : Spread rows (v % 64) r)
    → lowest (λ u. has r (u % 64)) G.nodes ≡ part_of G v
unfolding part_of
part_found {G} F most T h S = lowest-same _ _ G.nodes (found_is F most T S h)
