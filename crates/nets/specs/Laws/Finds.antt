-- On rows that have a net's links both ways the search finds the lowest node that node 0 does not reach. Assumes nothing.
use Rattle.std.specs.Prelude.{ℕ, ◌%◌, ◌<◌, ◌≤◌, min, ◌≡◌, refl, Bool, true, false, Option, Some, None, MatchOption, List}
use Rattle.std.proofs.Common.{sym, ◌∙◌, ap}
use Rattle.std.proofs.Math.Bool.{not}
use native.Mathlib.Omega.{arith}
use Rattle.scan.specs.Lowest.{lowest, lowest_found, lowest-same, any, any_found, any_none, any_same}
use Rattle.scan.specs.Bits.{has}
use Rattle.graph.specs.Net.{Net, Fits, both_ways}
use Rattle.graph.specs.Plan.{unreached}
use Rattle.graph.specs.Laws.Reached.{reaches_by}
use Rattle.rows.specs.Rows.{Spread}
use Rattle.rows.specs.Laws.Spreading.{spread_says}
use Rattle.mesh.specs.declared.Mesh.{Mesh}
use Rattle.mesh.specs.Answer.{Accepted}
use Rattle.mesh.specs.Mesh.{mesh_answer}
use Rattle.mesh.specs.Laws.Checked.{passes}
use Rattle.nets.specs.Nets.{net_of, rows_of, Table, lowest_of, Finds}
use Rattle.nets.specs.Laws.Fits.{fits}
use Rattle.nets.specs.Laws.Ways.{rows_ways}
use Rattle.nets.specs.Laws.Table.{to_leads, from_leads}

-- what a search through the indices below n finds
pub lowest_of-found : (p : ℕ → Bool) (n : ℕ) (r : Option ℕ)
    → MatchOption r ((k : ℕ) → 0 ≤ k → k < n → p k ≡ false) (λ i. (0 ≤ i) × (i < n) × (p i ≡ true) × ((k : ℕ) → 0 ≤ k → k < i → p k ≡ false)) → r ≡ lowest_of p n
lowest_of-found p n (Some i) (z, l, e, h) =
    let before : (k : ℕ) → k < i → p k ≡ false = λ k b. h k (omega arith) b in
    rw (any_found p n i l e, lowest_found p n i l before e)
lowest_of-found p n None h = rw (any_none p n n (λ k b. h k (omega arith) b) (omega arith))

-- whether it finds one, and which
module _ (p : ℕ → Bool) (n : ℕ) where
  by_any : (t : Bool) → any p n ≡ t → {r : Option ℕ} → r ≡ lowest_of p n → MatchOption r (any p n ≡ false) (λ i. (any p n ≡ true) × (i ≡ lowest p n))
  by_any true e q = rw (q, e) (refl, refl)
  by_any false e q = rw (q, e) refl

  pub lowest_of-says : {r : Option ℕ} → r ≡ lowest_of p n → MatchOption r (any p n ≡ false) (λ i. (any p n ≡ true) × (i ≡ lowest p n))
  lowest_of-says = by_any (any p n) refl

-- tests that agree below n
lowest_of-same : (p q : ℕ → Bool) (n : ℕ) → ((i : ℕ) → i < n → p i ≡ q i) → lowest_of p n ≡ lowest_of q n
lowest_of-same p q n h = rw (any_same p q n h, lowest-same p q n h)

module _ (G : Net) (F : Fits G) (n : G.nodes ≤ 64) {rows : List ℕ} (T : Table G both_ways rows) where
  -- a node counts modulo 64 as itself
  unreached_is : {reached : ℕ} → Spread rows 0 reached → (v : ℕ) → v < G.nodes → unreached G v ≡ not (has reached (v % 64))
  unfolding unreached
  unreached_is {reached} S v h =
      let (to, from) = spread_says S v in
      let counted : v % 64 ≡ v = omega arith in
      rw counted (ap not (sym (reaches_by F both_ways 0 F.some-node (has reached v) v (λ e. to_leads T (to e), λ p. from (from_leads T p)))))

  -- it finds the lowest that is not reached, or none
  pub finds_in : {v : Option ℕ} → Finds G.nodes rows v → v ≡ lowest_of (unreached G) G.nodes
  finds_in D = D.found ∙ sym (lowest_of-same (unreached G) (λ w. not (has D.reached (w % 64))) G.nodes (unreached_is D.spread))

-- on the rows of the links of a mesh that passes the checks
pub finds_unreached : (m : Mesh) → mesh_answer m ≡ Accepted → {rows : List ℕ} → rows ≡ rows_of m None (min m.count 256) → {v : Option ℕ} → Finds m.nodes rows v
    → v ≡ lowest_of (unreached (net_of m)) m.nodes
finds_unreached m ok e D = finds_in (net_of m) (fits m ok) (passes m ok).nodes_most (rows_ways m ok None e) D
