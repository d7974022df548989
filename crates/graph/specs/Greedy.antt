-- The plan link by link: each link in turn gets the direction 0 where that leaves every two nodes joined. Definitions only.
use Rattle.std.specs.Prelude.{ℕ, zero, suc, Bool, true, not, cond, List, [], ◌∷◌, ◌++◌, ltb}
use Rattle.graph.specs.Net.{Net, Ways, both_ways, without, along}
use Rattle.graph.specs.Reach.{reaches}

-- the links before k open as p directs them, the others both ways
abbrev pub directed : ℕ → List ℕ → Ways
directed k p i d = cond (ltb i k) (along p i d) true

-- link k's direction after those of p: 0 where its high end leads to its low end without it
unfoldable pub next : Net → ℕ → List ℕ → ℕ
next G k p = cond (reaches G (without k (directed k p)) (G.high k) (G.low k)) 0 1

-- the directions of the links before k
unfoldable pub greedy : Net → ℕ → List ℕ
greedy G zero = []
greedy G (suc k) = greedy G k ++ (next G k (greedy G k) ∷ [])

-- the direction of link k
abbrev pub direction : Net → ℕ → ℕ
direction G k = next G k (greedy G k)

-- the ways open once the links before k have their directions
abbrev pub begun : Net → ℕ → Ways
begun G k = directed k (greedy G k)

-- no walk leads from one end of link k to the other without it
unfoldable pub bridge : Net → ℕ → Bool
bridge G k = not (reaches G (without k both_ways) (G.low k) (G.high k))
