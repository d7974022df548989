-- Depth-first search (02, request 5): visiting a node tries its links by rising number, and following a link to a new node visits that node. Definitions only.
use Rattle.std.specs.Prelude.{ℕ, zero, suc, ◌+◌, ◌-◌, ◌*◌, ◌<◌, ◌≤◌, ◌≡◌, Bool, true, false, cond, not, ◌&&◌, ◌||◌, List, length, set, eqb, ltb}
use Rattle.scan.specs.Entry.{has}
use Rattle.scan.specs.Total.{count}
use Rattle.graph.specs.Net.{Net}
use Rattle.depth_first.specs.Tree.{Tree, leaf, branch, visited}

module _ (G : Net) where
  open G use {nodes, links, low, high}

  -- link i is at node u
  abbrev pub touches : ℕ → ℕ → Bool
  touches u i = eqb (low i) u || eqb (high i) u

  -- the other end of link i, which is at u
  abbrev pub far : ℕ → ℕ → ℕ
  far u i = cond (eqb (low i) u) (high i) (low i)

  -- link i leads from u to a new node
  abbrev pub opens : List Bool → ℕ → ℕ → Bool
  opens seen u i = touches u i && not (has seen (far u i))

  -- how many nodes have not been visited
  unfoldable pub unvisited : List Bool → ℕ
  unvisited seen = count (λ v. not (has seen v)) nodes

  -- the falling number of a visit counts unvisited nodes; that of following links from k on counts untried links besides
  unfoldable pub visiting : List Bool → ℕ
  visiting seen = unvisited seen * (links + 1)

  unfoldable pub following : List Bool → ℕ → ℕ
  following seen k = visiting seen + (links - k)

  -- the tree below u by a visit of it, and by its links from k on; the first number bounds the depth of the calls
  unfoldable mutual
    pub visit_by : ℕ → ℕ → List Bool → Tree
    visit_by zero u seen = leaf
    visit_by (suc n) u seen = follow_by n 0 u (set seen u true)

    pub follow_by : ℕ → ℕ → ℕ → List Bool → Tree
    follow_by zero k u seen = leaf
    follow_by (suc n) k u seen =
        let v : ℕ = far u k in
        let below : Tree = visit_by n v seen in
        let rest : Tree = follow_by n (k + 1) u (visited below (set seen v true)) in
        let next : Tree = follow_by n (k + 1) u seen in
        cond (ltb k links) (cond (opens seen u k) (branch k v below rest) next) leaf

  -- with the falling number as the bound, which is enough: `Searches` has the equations without it
  unfoldable pub visit : ℕ → List Bool → Tree
  visit u seen = visit_by (visiting seen) u seen

  unfoldable pub follow : ℕ → ℕ → List Bool → Tree
  follow k u seen = follow_by (following seen k) k u seen

  -- what the search is, without the bound: a visit of a new node tries its links from 0 on, and of these one past the last ends the search, one that does not lead to a
  -- new node is passed over, and one that does is followed, that node is visited, and then the later links are tried. There is a flag for each node
  pub record Searches : Type 0 where
    pub visits : (u : ℕ) (seen : List Bool) → nodes ≤ length seen → u < nodes → has seen u ≡ false → visit u seen ≡ follow 0 u (set seen u true)
    pub ends : (k u : ℕ) (seen : List Bool) → nodes ≤ length seen → links ≤ k → follow k u seen ≡ leaf
    pub passes : (k u : ℕ) (seen : List Bool) → nodes ≤ length seen → k < links → opens seen u k ≡ false → follow k u seen ≡ follow (k + 1) u seen
    pub follows : (k u : ℕ) (seen : List Bool) → nodes ≤ length seen → k < links → opens seen u k ≡ true
        → let v = far u k in
        let below = visit v seen in
        follow k u seen ≡ branch k v below (follow (k + 1) u (visited below (set seen v true)))
