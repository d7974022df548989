-- What 02, request 4, says of the query by duct. Definitions only.
use Rattle.std.specs.Prelude.{ℕ, ◌<◌, ◌≤◌, ◌≡◌, ◌≢◌, ◌⊎◌, ◌↔◌, length}
use mathlib.Core.List.{List, Memᴰ}
use Rattle.scan.specs.Distinct.{Distinct, Rising}
use Rattle.mesh.specs.declared.Mesh.{Mesh}
use Rattle.mesh.specs.Answer.{Accepted, Refused}
use Rattle.mesh.specs.Mesh.{mesh_answer}
use Rattle.mesh.specs.WellFormed.{duct}
use Rattle.ducts.specs.Sharing.{sharing}

-- link i shares the duct of link k: it is the named link, or it has the same duct number, and that is not 0
abbrev pub Shares : Mesh → ℕ → ℕ → Type 0
Shares m k i = (i ≡ k) ⊎ ((duct m k ≢ 0) × (duct m i ≡ duct m k))

-- the list holds exactly the links of m that share the duct of link k, each once, in rising order
pub record Lists (m : Mesh) (k : ℕ) (l : List ℕ) : Type 0 where
  pub rising : Rising l
  pub once : Distinct l
  pub exactly : (i : ℕ) → Memᴰ i l ↔ ((i < m.count) × Shares m k i)

-- the condition of a refusal of the query with an output of `room` entries, by number and place
pub data Refusal (m : Mesh) (k room : ℕ) : ℕ → ℕ → Type 0 where
  -- the mesh's own
  mesh-refused : {number place : ℕ} → mesh_answer m ≡ Refused number place → Refusal m k room number place
  -- 12 link number not below L, at the link
  no_such_link : mesh_answer m ≡ Accepted → m.count ≤ k → Refusal m k room 12 k
  -- 11 output shorter than the answer, with the entries needed
  output_short : mesh_answer m ≡ Accepted → k < m.count → room < length (sharing m k) → Refusal m k room 11 (length (sharing m k))
