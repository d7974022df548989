-- The test of a session's record: the mesh checks, then 13 (01, "Refusals from the input" and "Order"). Definitions only.
use Rattle.std.specs.Prelude.{ℕ, Bool, false, not, ◌||◌, leb}
use Rattle.faults.specs.Faults.{overflows, strays}
use Rattle.mesh.specs.declared.Mesh.{Mesh}
use Rattle.mesh.specs.declared.Plan.{Plan}
use Rattle.mesh.specs.Answer.{Answer, Accepted}
use Rattle.mesh.specs.Mesh.{must, and_then, mesh_answer}
use Rattle.flood.specs.declared.Flood.{Flood}
use Rattle.wavelengths.specs.declared.Floods.{Floods}
use Rattle.formed.specs.Cut.{Cut}
use Rattle.formed.specs.Cut as cut

-- the cut link; 0 where there is none
abbrev pub cut_link : Cut → ℕ
cut_link (cut.Link k) = k
cut_link cut.Nothing = 0

-- the cut is neither a link nor none
abbrev pub misplaced : ℕ → Cut → Bool
misplaced links cut.Nothing = false
misplaced links (cut.Link k) = leb links k

-- an ill-formed plan: a direction above 1, or an entry past the last link not zero
unfoldable pub plan_fault : Mesh → Plan → Bool
plan_fault m p = overflows m.count 1 p.directions

-- an ill-formed flood: a state above 4, or an entry past the last link not zero, or a reached node not below N
unfoldable pub flood_fault : Mesh → Flood → Bool
flood_fault m f = overflows m.count 4 f.states || strays m.nodes f.reached

-- an ill-formed flood on either wavelength
unfoldable pub floods_fault : Mesh → Floods → Bool
floods_fault m f = flood_fault m f.first || flood_fault m f.second

-- starting on a mesh and a plan: mesh, 13
unfoldable pub start_answer : Mesh → Plan → Answer
start_answer m p = and_then (mesh_answer m) (must (not (plan_fault m p)) 13 0 Accepted)

-- a session's record, by its pieces: mesh, 13
unfoldable pub record_answer : Mesh → Plan → Cut → Floods → Answer
record_answer m p c f = and_then (start_answer m p) (must (not (misplaced m.count c || floods_fault m f)) 13 0 Accepted)
