-- The tree of a search from a node does not depend on how many further nodes the net has. Assumes nothing.
use Prim.Native.Nat.{ℕ, zero, suc, ◌+◌, ◌-◌, ◌≤◌, ◌<◌}
use Rattle.std.specs.Prelude.{◌≡◌, Bool, false, not, List, length, ltb}
use Rattle.std.proofs.Math.Path.{refl, ap}
use Rattle.std.proofs.Common.{◌∙◌, mul-le-mul_right}
use Rattle.std.proofs.Math.Bool.{true, cond}
use native.Mathlib.Omega.{arith}
use Rattle.std.proofs.Math.ListN.{set}
use Rattle.scan.specs.Entry.{has}
use Rattle.scan.specs.Total.{bit, count, total-more}
use Rattle.graph.specs.Net.{Net, Fits, with_nodes}
use Rattle.depth_first.specs.Tree.{Tree, branch, leaf, visited}
use Rattle.depth_first.specs.Search.{far, opens, unvisited, visiting, visit_by, follow_by, visit}
use Rattle.depth_first.proofs.Laws.Unfold.{visit_by_lem}

module _ (G : Net) (n : ℕ) where
  record Same (b : ℕ) : Type 0 where
    visits : (u : ℕ) (s : List Bool) → visit_by G b u s ≡ visit_by (with_nodes n G) b u s
    follows : (k u : ℕ) (s : List Bool) → follow_by G b k u s ≡ follow_by (with_nodes n G) b k u s

  same : (b : ℕ) → Same b
  unfolding visit_by
  same zero = record { visits = λ u s. refl; follows = λ k u s. refl }
  same (suc b) = step (same b)
    where
      step : Same b → Same (suc b)
      step S = record {
        visits = λ u s. S.follows 0 u (set s u true);
        follows = λ k u s.
            let v = far G u k in
            let marked = set s v true in
            let below = S.visits v s in
            let rest = S.follows (k + 1) u (visited (visit_by G b v s) marked) ∙ ap (λ (T : Tree). follow_by (with_nodes n G) b (k + 1) u (visited T marked)) below in
            let next = S.follows (k + 1) u s in
            λ j. cond (ltb k G.links) (cond (opens G s u k) (branch k v (below j) (rest j)) (next j)) leaf;
      }

  more : G.nodes ≤ n → (s : List Bool) → unvisited G s ≤ unvisited (with_nodes n G) s
  unfolding unvisited count
  more h s = let e : G.nodes + (n - G.nodes) ≡ n = omega arith in rw e at (total-more (λ v. bit (not (has s v))) G.nodes (n - G.nodes))

  pub visit_nodes : Fits G → G.nodes ≤ n → (u : ℕ) (s : List Bool) → G.nodes ≤ length s → u < G.nodes → has s u ≡ false
      → visit G u s ≡ visit (with_nodes n G) u s
  unfolding visit visiting
  visit_nodes F h u s w l f =
      visit_by_lem G F u s w (visiting (with_nodes n G) s) l f (mul-le-mul_right (G.links + 1) (more h s)) ∙ (same (visiting (with_nodes n G) s)).visits u s
