-- The links that the walk along a tree follows: its crossings, what it is to go along them, and how often a link is crossed. A row of nodes does not tell which
-- of two links between the same nodes is crossed; the crossings do. Definitions only.
use Rattle.std.specs.Prelude.{ℕ, suc, ◌+◌, ◌<◌, ◌≡◌, Bool, true, false, not, ◌&&◌, List, [], ◌∷◌, ◌++◌, eqb, length, get_or}
use Rattle.std.specs.Bool.{xor}
use Rattle.scan.specs.Entry.{at, has}
use Rattle.scan.specs.Total.{bit}
use Rattle.graph.specs.Net.{Net, end}
use Rattle.depth_first.specs.Tree.{Tree, leaf, branch}

-- a link crossed one way: false from its low to its high end
pub record Crossing : Type 0 where
  pub link : ℕ
  pub way : Bool

-- crossing j of a list
abbrev pub crossing : List Crossing → ℕ → Crossing
crossing cs j = get_or cs j (record { link = 0; way = false })

module _ (G : Net) where
  -- link i crossed from its end u, and back to it
  abbrev pub out : ℕ → ℕ → Crossing
  out u i = record { link = i; way = not (eqb (G.low i) u) }

  abbrev pub back : ℕ → ℕ → Crossing
  back u i = record { link = i; way = eqb (G.low i) u }

  -- the crossings of the walk along the tree below u
  unfoldable pub crossings : ℕ → Tree → List Crossing
  crossings u leaf = []
  crossings u (branch i v below rest) = out u i ∷ (crossings v below ++ (back u i ∷ crossings u rest))

  -- c leads from a to b along a link that is labelled tree
  pub record Crosses (labels : List Bool) (c : Crossing) (a b : ℕ) : Type 0 where
    pub below : c.link < G.links
    pub in_tree : has labels c.link ≡ true
    pub starts : a ≡ end G c.link c.way
    pub ends : b ≡ end G c.link (not c.way)

  -- the route goes along the crossings: one leads from each entry to the next
  pub record Goes (labels : List Bool) (route : List ℕ) (cs : List Crossing) : Type 0 where
    pub entries : length route ≡ suc (length cs)
    pub each : (j : ℕ) → j < length cs → Crosses labels (crossing cs j) (at route j) (at route (suc j))

-- how often link i is crossed in the way d
unfoldable pub times : ℕ → Bool → List Crossing → ℕ
times i d [] = 0
times i d (c ∷ cs) = bit (eqb c.link i && not (xor c.way d)) + times i d cs
