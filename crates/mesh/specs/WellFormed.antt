-- What 01's section "The mesh" says of a mesh, in words of order and range. Definitions only.
use Rattle.std.specs.Prelude.{ℕ, ◌+◌, ◌<◌, ◌≤◌, ◌^◌, ◌≡◌, ◌⊎◌, length, get_or}
use Rattle.scan.specs.Entry.{at}
use Rattle.mesh.specs.declared.Link.{Link}
use Rattle.mesh.specs.declared.Mesh.{Mesh}
use Rattle.mesh.specs.Mesh.{zero_link}

-- link i of a mesh
abbrev pub link : Mesh → ℕ → Link
link m i = get_or m.links i zero_link

-- the length of link i in metres, 0 where it is not measured
abbrev pub lengths : Mesh → ℕ → ℕ
lengths m i = (link m i).length

-- the duct number of link i, 0 for none (02, request 4)
abbrev pub duct : Mesh → ℕ → ℕ
duct m i = at m.ducts i

-- the ends are two nodes, the low one first
pub record Joins (n : ℕ) (l : Link) : Type 0 where
  pub apart : l.low < l.high
  pub inside : l.high < n

-- the pair (low, high) is not below the pair (plow, phigh): it stands after it in the order of (low, high), or is the same
abbrev pub NotBelow : ℕ → ℕ → ℕ → ℕ → Type 0
NotBelow plow phigh low high = (plow < low) ⊎ ((plow ≡ low) × (phigh ≤ high))

-- the pair of l is not below the pair of p
abbrev pub Rises : Link → Link → Type 0
Rises p l = NotBelow p.low p.high l.low l.high

-- 2 to 64 nodes, 0 to 256 links in rising order of (low, high), where a pair may stand several times (02, request 7), entries past the last link all zero
pub record WellFormed (m : Mesh) : Type 0 where
  pub nodes_least : 2 ≤ m.nodes
  pub nodes_most : m.nodes ≤ 64
  pub count_most : m.count ≤ 256
  pub joins : (i : ℕ) → i < m.count → Joins m.nodes (link m i)
  pub rises : (i : ℕ) → i + 1 < m.count → Rises (link m i) (link m (i + 1))
  pub zeros : (i : ℕ) → m.count ≤ i → link m i ≡ zero_link
  pub ductless : (i : ℕ) → m.count ≤ i → duct m i ≡ 0

-- the ranges of a link's fields: ends of one byte, a length of 0 to 65,535, a pair number of 32 bits
pub record LinkInRange (l : Link) : Type 0 where
  pub low : l.low < 256
  pub high : l.high < 256
  pub length : l.length < 65536
  pub pair : l.pair < 2 ^ 32

-- the ranges of a mesh's fields, which the types of its record ensure: every mesh that a function is given has them
pub record InRange (m : Mesh) : Type 0 where
  pub entries : length m.links ≡ 256
  pub links : (i : ℕ) → LinkInRange (link m i)
  pub numbers : length m.ducts ≡ 256
  pub ducts : (i : ℕ) → duct m i < 65536

-- the same nodes, and links with the same ends: lengths, fibre pairs and ducts may differ
pub record SameEnds (m m' : Mesh) : Type 0 where
  pub nodes : m.nodes ≡ m'.nodes
  pub count : m.count ≡ m'.count
  pub low : (i : ℕ) → i < m.count → (link m i).low ≡ (link m' i).low
  pub high : (i : ℕ) → i < m.count → (link m i).high ≡ (link m' i).high

-- no other link of m joins the ends of link k (02, request 7)
abbrev pub OnlyLink : Mesh → ℕ → Type 0
OnlyLink m k = (i : ℕ) → i < m.count → ((link m i).low ≡ (link m k).low) × ((link m i).high ≡ (link m k).high) → i ≡ k
