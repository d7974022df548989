-- The refusals of a mesh, each with its condition (01, "Refusals from the input" and "Order"). Definitions only.
use Rattle.std.specs.Prelude.{ℕ, ◌<◌, ◌≤◌, ◌≡◌, ◌⊎◌, ◌≢◌, ◌∷◌, get_or}
use Rattle.mesh.specs.declared.Link.{Link}
use Rattle.mesh.specs.declared.Mesh.{Mesh}
use Rattle.mesh.specs.Mesh.{zero_link}
use Rattle.mesh.specs.WellFormed.{link, duct, Joins, Rises}

-- the pair (low, high) is below the pair (plow, phigh)
abbrev pub Below : ℕ → ℕ → ℕ → ℕ → Type 0
Below plow phigh low high = (low < plow) ⊎ ((low ≡ plow) × (high < phigh))

-- a link with the ends low and high after one with the ends plow and phigh, in a mesh of n nodes: its fault by number
pub data EndsFault (n plow phigh low high : ℕ) : ℕ → Type 0 where
  -- 7 low not below high
  low_not_below_high : high ≤ low → EndsFault n plow phigh low high 7
  -- 6 an end not below N
  end-not_below_nodes : low < high → ((low < n) × (high < n) → ⊥) → EndsFault n plow phigh low high 6
  -- 8 pair below the previous (02, request 7)
  pair_below : low < high → high < n → Below plow phigh low high → EndsFault n plow phigh low high 8

-- the fault of the link l after the link p
abbrev pub LinkFault : ℕ → Link → Link → ℕ → Type 0
LinkFault n p l number = EndsFault n p.low p.high l.low l.high number

-- the link l after the link p has no fault
abbrev pub Faultless : ℕ → Link → Link → Type 0
Faultless n p l = Joins n l × Rises p l

-- the link before link i; the zero link stands before link 0, and no pair is below its pair (0, 0)
abbrev pub previous : Mesh → ℕ → Link
previous m i = get_or (zero_link ∷ m.links) i zero_link

-- the condition of a refusal of the mesh, by number and place
pub data Refusal (m : Mesh) : ℕ → ℕ → Type 0 where
  -- 3 N, at 0
  nodes_unfit : ((2 ≤ m.nodes) × (m.nodes ≤ 64) → ⊥) → Refusal m 3 0
  -- 4 L, at 0
  count_unfit : 256 < m.count → Refusal m 4 0
  -- 7, 6, 8 at the link; no earlier link has a fault
  first_fault : {number place : ℕ} → place < m.count → LinkFault m.nodes (previous m place) (link m place) number
      → ((i : ℕ) → i < place → Faultless m.nodes (previous m i) (link m i)) → Refusal m number place
  -- 13 an entry past L not zero, at 0
  entry-not-zero : (i : ℕ) → m.count ≤ i → link m i ≢ zero_link → Refusal m 13 0
  -- or its duct number
  duct-not-zero : (i : ℕ) → m.count ≤ i → duct m i ≢ 0 → Refusal m 13 0
