-- What 01 says of a session's record (refusal 13). Definitions only.
use Rattle.std.specs.Prelude.{ℕ, ◌<◌, ◌≤◌, ◌≡◌, true, List}
use Rattle.scan.specs.Entry.{at, has}
use Rattle.mesh.specs.declared.Mesh.{Mesh}
use Rattle.mesh.specs.declared.Plan.{Plan}
use Rattle.mesh.specs.Answer.{Accepted, Refused}
use Rattle.mesh.specs.Mesh.{mesh_answer}
use Rattle.mesh.specs.WellFormed.{WellFormed}
use Rattle.flood.specs.declared.Flood.{Flood}
use Rattle.wavelengths.specs.declared.Floods.{Floods}
use Rattle.wavelengths.specs.declared.Wavelength.{Wavelength}
use Rattle.wavelengths.specs.Wavelength.{on}
use Rattle.formed.specs.Cut.{Cut}
use Rattle.formed.specs.Cut as cuts

-- the entry of each link is at most `top`, and each entry past the last link is zero
pub record Bounded (links top : ℕ) (entries : List ℕ) : Type 0 where
  pub most : (i : ℕ) → i < links → at entries i ≤ top
  pub zeros : (i : ℕ) → links ≤ i → i < 256 → at entries i ≡ 0

-- no direction is above 1
abbrev pub PlanFormed : Mesh → Plan → Type 0
PlanFormed m p = Bounded m.count 1 p.directions

-- the cut is a link or none
abbrev pub CutFormed : Mesh → Cut → Type 0
CutFormed m c = (k : ℕ) → c ≡ cuts.Link k → k < m.count

-- no state is above 4, and each reached node is below N
pub record FloodFormed (m : Mesh) (f : Flood) : Type 0 where
  pub states : Bounded m.count 4 f.states
  pub reached : (v : ℕ) → v < 64 → has f.reached v ≡ true → v < m.nodes

-- a well-formed record of a session with these pieces: link states and reached nodes are held per wavelength (02)
pub record Formed (m : Mesh) (p : Plan) (c : Cut) (f : Floods) : Type 0 where
  pub mesh : WellFormed m
  pub plan : PlanFormed m p
  pub cut : CutFormed m c
  pub flood : (w : Wavelength) → FloodFormed m (on w f)

-- a refusal of a mesh and of what stands on it, by number and place: the mesh's own, or 13 at 0 where the mesh is accepted and F does not hold
pub data Refusal (m : Mesh) (F : Type 0) : ℕ → ℕ → Type 0 where
  of_mesh : {number place : ℕ} → mesh_answer m ≡ Refused number place → Refusal m F number place
  ill_formed_lem : mesh_answer m ≡ Accepted → (F → ⊥) → Refusal m F 13 0
