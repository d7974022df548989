-- The tree of a depth-first search, and what the walk along it leaves (02, request 5). Definitions only.
use Rattle.std.specs.Prelude.{ℕ, Bool, true, List, [], ◌∷◌, ◌++◌, set}

-- the tree below a node. A leaf: none of its links is followed. A branch: the first that is followed is `link`, to the new node `node`, `below` is the tree below that
-- node, and `rest` is what the later links give
pub data Tree : Type 0 where
  leaf : Tree
  branch : (link node : ℕ) (below rest : Tree) → Tree

-- the nodes that the walk along the tree below u meets after u: a node when it is new, and u again after each return to it (02: the route)
unfoldable pub tour : ℕ → Tree → List ℕ
tour u leaf = []
tour u (branch i v below rest) = v ∷ (tour v below ++ (u ∷ tour u rest))

-- flags after the walk, of which each branch sets one: `pick` says which by its link and its node
unfoldable pub marked : (ℕ → ℕ → ℕ) → Tree → List Bool → List Bool
marked pick leaf flags = flags
marked pick (branch i v below rest) flags = marked pick rest (marked pick below (set flags (pick i v) true))

-- which nodes are visited after it, and which links are labelled tree
abbrev pub visited : Tree → List Bool → List Bool
visited = marked (λ i v. v)

abbrev pub labelled : Tree → List Bool → List Bool
labelled = marked (λ i v. i)
