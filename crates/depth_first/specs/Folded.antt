-- What 02, request 5, says of the collection route, over any net. Definitions only.
use Rattle.std.specs.Prelude.{ℕ, ◌-◌, ◌*◌, ◌<◌, ◌≤◌, ◌≡◌, ◌⊎◌, ◌≢◌, Bool, false, length}
use mathlib.Core.List.{List, [], ◌∷◌, ◌++◌, Memᴰ}
use Rattle.scan.specs.Entry.{at, has}
use Rattle.scan.specs.Total.{bit, count}
use Rattle.graph.specs.Net.{Net, Strong}
use Rattle.depth_first.specs.Tree.{Tree, branch}
use Rattle.depth_first.specs.Crossings.{Crossing, crossings, Goes, times}

-- when the walk along the tree below u meets the new node w, `path` has the nodes from u to the one that w is met from; w is not one of them
pub data Met (w : ℕ) : ℕ → Tree → List ℕ → Type 0 where
  now : {i u v : ℕ} {below rest : Tree} → w ≡ v → Met w u (branch i v below rest) (u ∷ [])
  deeper : {i u v : ℕ} {below rest : Tree} {path : List ℕ} → Met w v below path → Met w u (branch i v below rest) (u ∷ path)
  later : {i u v : ℕ} {below rest : Tree} {path : List ℕ} → Met w u rest path → Met w u (branch i v below rest) path

-- a is an ancestor of w in the tree below u: it is on the path from u when w is met
abbrev pub Ancestor : ℕ → ℕ → ℕ → Tree → Type 0
Ancestor a w u T = (path : List ℕ) × Met w u T path × Memᴰ a path

-- w is met by one path, which leads from u to it along tree links
pub record MetBy (G : Net) (labels : List Bool) (u : ℕ) (T : Tree) (w : ℕ) : Type 0 where
  pub path : List ℕ
  pub meets : Met w u T path
  pub only : (other : List ℕ) → Met w u T other → other ≡ path
  pub starts : at path 0 ≡ u
  pub crossed : List Crossing
  pub along : Goes G labels (path ++ (w ∷ [])) crossed

-- the walk along the tree T from the root lists these nodes, and these are the labels of the links
pub record Folded (G : Net) (root : ℕ) (T : Tree) (route : List ℕ) (labels : List Bool) : Type 0 where
  -- 2 × N - 1 entries, the root first and last
  pub entries : length route ≡ 2 * G.nodes - 1
  pub first : at route 0 ≡ root
  pub last : at route (2 * G.nodes - 2) ≡ root
  -- each entry and the next are the ends of a tree link, which the walk crosses from the one to the other
  pub along : Goes G labels route (crossings G root T)
  -- each tree link is crossed once each way, and no other link
  pub once : (i : ℕ) (d : Bool) → times i d (crossings G root T) ≡ bit (has labels i)
  -- the tree links are N - 1, and join all nodes
  pub number : count (has labels) G.links ≡ G.nodes - 1
  pub joined : Strong G (λ i d. has labels i)
  -- every node but the root is met, and by one path, which leads from the root along tree links
  pub met : (w : ℕ) → w < G.nodes → w ≢ root → MetBy G labels root T w
  -- every link, so every remaining one, joins a node to one of its ancestors
  pub ancestors : (i : ℕ) → i < G.links → Ancestor (G.low i) (G.high i) root T ⊎ Ancestor (G.high i) (G.low i) root T
  -- past the last link the labels say not
  pub past : (i : ℕ) → G.links ≤ i → has labels i ≡ false
