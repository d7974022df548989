-- The plan of a net by its definition, and the tests of refusals 20 and 21 (01, "The plan"). Definitions only.
use Rattle.std.specs.Prelude.{ℕ, zero, suc, Bool, not, cond, List, [], ◌∷◌, ◌++◌, map}
use Rattle.std.proofs.Math.Option.{Option, none, some}
use Rattle.scan.specs.Lowest.{every}
use Rattle.graph.specs.Net.{Net, Ways, both_ways, without, along}
use Rattle.graph.specs.Reach.{reaches}

-- from every node a walk leads to every other
unfoldable pub connects : Net → Ways → Bool
connects G m = every (λ u. every (λ v. reaches G m u v) G.nodes) G.nodes

-- 20: node 0 does not reach v
unfoldable pub unreached : Net → ℕ → Bool
unreached G v = not (reaches G both_ways 0 v)

-- 21: the removal of link k parts the net
unfoldable pub parts : Net → ℕ → Bool
parts G k = not (connects G (without k both_ways))

-- all assignments of directions to n links, in order: compared from link 0 on, 0 before 1
unfoldable pub assignments : ℕ → List (List ℕ)
assignments zero = [] ∷ []
assignments (suc n) = map (λ p. 0 ∷ p) (assignments n) ++ map (λ p. 1 ∷ p) (assignments n)

-- the first of a list that passes
unfoldable pub first_that : (List ℕ → Bool) → List (List ℕ) → Option (List ℕ)
first_that f [] = none
first_that f (p ∷ ps) = cond (f p) (some p) (first_that f ps)

-- 01's plan: of all admissible assignments the first
unfoldable pub plan : Net → Option (List ℕ)
plan G = first_that (λ p. connects G (along p)) (assignments G.links)
