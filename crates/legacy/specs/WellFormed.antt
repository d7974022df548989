-- What 01 says of the session record from before wavelength 2, in words of order and range, and its refusals, each with its condition. Definitions only.
use Rattle.std.specs.Prelude.{ℕ, zero, suc, ◌+◌, ◌<◌, ◌≤◌, ◌^◌, ◌≡◌, ◌≢◌, true, length}
use Rattle.scan.specs.Entry.{has}
use Rattle.mesh.specs.Answer.{Accepted}
use Rattle.mesh.specs.WellFormed.{NotBelow}
use Rattle.mesh.specs.Refusal.{EndsFault}
use Rattle.formed.specs.WellFormed.{Bounded}
use Rattle.legacy.specs.declared.OldLink.{OldLink}
use Rattle.legacy.specs.declared.OldMesh.{OldMesh}
use Rattle.legacy.specs.declared.OldCut.TheVariants as cuts
use Rattle.legacy.specs.declared.OldSession.{OldSession}
use Rattle.legacy.specs.Record.{zero_link, link, mesh_answer}

-- the ranges of a link's fields: ends of one byte, a length of 0 to 65,535, a pair number of 32 bits
pub record LinkInRange (l : OldLink) : Type 0 where
  pub low : l.low < 256
  pub high : l.high < 256
  pub length : l.length < 65536
  pub pair : l.pair < 2 ^ 32

-- the ranges of a mesh's fields, which the types of its record ensure: every mesh that a function is given has them
pub record InRange (m : OldMesh) : Type 0 where
  pub entries : length m.links ≡ 256
  pub links : (i : ℕ) → LinkInRange (link m i)

-- ---- what is accepted

-- 2 to 64 nodes, 0 to 256 links; the ends of each are two nodes, the low one first, and its pair is not below that of the link before; entries past the last
-- link are all zero
pub record WellFormed (m : OldMesh) : Type 0 where
  pub nodes_least : 2 ≤ m.nodes
  pub nodes_most : m.nodes ≤ 64
  pub count_most : m.count ≤ 256
  pub apart : (i : ℕ) → i < m.count → (link m i).low < (link m i).high
  pub inside : (i : ℕ) → i < m.count → (link m i).high < m.nodes
  pub rises : (i : ℕ) → i + 1 < m.count → NotBelow (link m i).low (link m i).high (link m (i + 1)).low (link m (i + 1)).high
  pub zeros : (i : ℕ) → m.count ≤ i → link m i ≡ zero_link

-- no direction is above 1 and no state above 4, entries past the last link are zero, the cut is a link or none, and each reached node is below N
pub record Formed (s : OldSession) : Type 0 where
  pub mesh : WellFormed s.mesh
  pub plan : Bounded s.mesh.count 1 s.plan.directions
  pub cut : (k : ℕ) → s.cut ≡ cuts.Link k → k < s.mesh.count
  pub states : Bounded s.mesh.count 4 s.flood.states
  pub reached : (v : ℕ) → v < 64 → has s.flood.reached v ≡ true → v < s.mesh.nodes

-- ---- what is refused

-- the link before link i; (0, 0) stands before link 0, and no pair is below it
abbrev pub previous : OldMesh → ℕ → OldLink
previous m zero = zero_link
previous m (suc i) = link m i

-- the fault of link i, by number
abbrev pub LinkFault : OldMesh → ℕ → ℕ → Type 0
LinkFault m i number = EndsFault m.nodes (previous m i).low (previous m i).high (link m i).low (link m i).high number

-- the condition of a refusal of the mesh, by number and place
pub data MeshRefusal (m : OldMesh) : ℕ → ℕ → Type 0 where
  -- 3 N, at 0
  nodes_unfit : ((2 ≤ m.nodes) × (m.nodes ≤ 64) → ⊥) → MeshRefusal m 3 0
  -- 4 L, at 0
  count_unfit : 256 < m.count → MeshRefusal m 4 0
  -- 7, 6, 8 at the link; no earlier link has a fault
  first_fault : {number place : ℕ} → place < m.count → LinkFault m place number
      → ((i n : ℕ) → i < place → LinkFault m i n → ⊥) → MeshRefusal m number place
  -- 13 an entry past L not zero, at 0
  entry-not-zero : (i : ℕ) → m.count ≤ i → link m i ≢ zero_link → MeshRefusal m 13 0

-- of the session: the mesh's own, or 13 at 0 where the mesh is accepted and the record is ill formed
pub data Refusal (s : OldSession) : ℕ → ℕ → Type 0 where
  of_mesh : {number place : ℕ} → MeshRefusal s.mesh number place → Refusal s number place
  ill_formed_lem : mesh_answer s.mesh ≡ Accepted → (Formed s → ⊥) → Refusal s 13 0
