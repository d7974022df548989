-- Arcs between 64 nodes as rows of binary digits: row u has the digit v where an arc leads from u to v. Definitions only.
use Rattle.std.specs.Prelude.{ℕ, ◌^◌, ◌<◌, ◌≡◌, ◌↔◌, ◌⊎◌, Bool, true, false, cond, Option, Some, None, List, get_or, set}
use Rattle.std.specs.Int.Bits.{bit_or, bit_xor}
use Rattle.scan.specs.Bits.{has}
use Rattle.graph.specs.Walk.{Walk}

abbrev pub edge : List ℕ → ℕ → ℕ → Bool
edge rows u v = has (get_or rows u 0) v

abbrev pub Edge : List ℕ → ℕ → ℕ → Type 0
Edge rows u v = edge rows u v ≡ true

-- the arc from a to b put in; turned from in to out or back
unfoldable pub put : List ℕ → ℕ → ℕ → List ℕ
put rows a b = set rows a (bit_or (get_or rows a 0) (2 ^ b))

unfoldable pub flip : List ℕ → ℕ → ℕ → List ℕ
flip rows a b = set rows a (bit_xor (get_or rows a 0) (2 ^ b))

-- the second table has the same arcs by the node that they enter: its row v has the digit u where an arc leads from u to v
abbrev pub Mirror : List ℕ → List ℕ → Type 0
Mirror leaving entering = (u v : ℕ) → Edge leaving u v ↔ Edge entering v u

-- r holds just the nodes that a walk from u comes to
pub record Spread (rows : List ℕ) (u r : ℕ) : Type 0 where
  pub start : has r u ≡ true
  pub sound : (v : ℕ) → has r v ≡ true → Walk (Edge rows) u v
  pub closed : (v w : ℕ) → has r v ≡ true → Edge rows v w → has r w ≡ true

-- a search from u has seen nodes that a walk from u comes to, and has followed all arcs of those of them that are done
pub record Spreading (rows : List ℕ) (u seen done : ℕ) : Type 0 where
  pub seen_fits : seen < 2 ^ 64
  pub done_fits : done < 2 ^ 64
  pub start : has seen u ≡ true
  pub sound : (v : ℕ) → has seen v ≡ true → Walk (Edge rows) u v
  pub inside : (v : ℕ) → has done v ≡ true → has seen v ≡ true
  pub followed : (v w : ℕ) → has done v ≡ true → Edge rows v w → has seen w ≡ true

-- a walk ahead from u and a walk back from v, which the second table has, come to a common node
abbrev pub Meet : List ℕ → List ℕ → ℕ → ℕ → Type 0
Meet leaving entering u v = (w : ℕ) × (Walk (Edge leaving) u w × Walk (Edge entering) v w)

-- no walk ahead from u comes to v, or none back from v comes to u
abbrev pub Apart : List ℕ → List ℕ → ℕ → ℕ → Type 0
Apart leaving entering u v = ¬ Walk (Edge leaving) u v ⊎ ¬ Walk (Edge entering) v u

-- what the search from both sides says, of any two tables; where the second has the arcs of the first it is whether a walk leads from u to v
abbrev pub Searched : List ℕ → List ℕ → ℕ → ℕ → Bool → Type 0
Searched leaving entering u v true = Meet leaving entering u v
Searched leaving entering u v false = Apart leaving entering u v

-- the arcs between a and b of a link that is open both ways taken out, but for those that another link with the same ends has: both where such a link stands
-- after it, the one from a to b where one stands before it
unfoldable pub cut : List ℕ → ℕ → ℕ → Bool → Bool → List ℕ
cut rows a b before after = cond after rows (cond before (flip rows b a) (flip (flip rows b a) a b))

-- what a link gets by two tables without it, and the tables after it: 0 where the search finds a walk back from its high end to its low end, else 1 where it
-- finds one from its low end to its high end, else no direction
pub data Directed (leaving entering : List ℕ) (low high : ℕ) : Option ℕ → List ℕ → List ℕ → Type 0 where
  up : Meet leaving entering high low → Directed leaving entering low high (Some 0) (put leaving low high) (put entering high low)
  down : Apart leaving entering high low → Meet leaving entering low high
      → Directed leaving entering low high (Some 1) (put leaving high low) (put entering low high)
  stuck : Apart leaving entering high low → Apart leaving entering low high → Directed leaving entering low high None leaving entering

-- the same of a link that is open both ways: its arcs are taken out first
abbrev pub LinkDirected : List ℕ → List ℕ → ℕ → ℕ → Bool → Bool → Option ℕ → List ℕ → List ℕ → Type 0
LinkDirected leaving entering low high before after = Directed (cut leaving low high before after) (cut entering high low before after) low high
