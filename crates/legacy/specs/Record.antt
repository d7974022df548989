-- The session record from before wavelength 2 and its test: the mesh checks, then 13 (01, "The mesh", "Refusals from the input" and "Order"). The mesh
-- checks are those of now, on the parts of a mesh: N, L, the ends of its links, and whether each entry past the last link is zero. Definitions only.
use Rattle.std.specs.Prelude.{ℕ, ◌+◌, ◌*◌, min, Bool, false, not, ◌&&◌, ◌||◌, List, eqb, ltb, leb, get_or}
use Rattle.scan.specs.Lowest.{every}
use Rattle.scan.specs.Fill.{filled, table_of}
use Rattle.mesh.specs.Answer.{Answer, Accepted}
use Rattle.mesh.specs.Mesh.{must, and_then}
use Rattle.mesh.specs.Parts.{parts_answer}
use Rattle.faults.specs.Faults.{overflows, strays}
use Rattle.legacy.specs.declared.OldLink.{OldLink}
use Rattle.legacy.specs.declared.OldMesh.{OldMesh}
use Rattle.legacy.specs.declared.OldCut.{OldCut}
use Rattle.legacy.specs.declared.OldCut.TheVariants as cuts
use Rattle.legacy.specs.declared.OldSession.{OldSession}

-- ---- the mesh

-- an entry past the last link
abbrev pub zero_link : OldLink
zero_link = record { low = 0; high = 0; length = 0; pair = 0 }

-- link i of a mesh
abbrev pub link : OldMesh → ℕ → OldLink
link m i = get_or m.links i zero_link

-- the ends of a link as one number, which rises as the pairs (low, high) do
abbrev pub ends_of : OldLink → ℕ
ends_of l = 256 * l.low + l.high

-- an array of 256 entries whose first become the ends of m's links
abbrev pub ends_into : OldMesh → List ℕ → List ℕ
ends_into m l = filled (λ i. ends_of (link m i)) (min m.count 256) l

-- the ends of m's links in an array of 256 entries, 0 past the last link
abbrev pub ends_in : OldMesh → List ℕ
ends_in m = table_of (λ i. ends_of (link m i)) m.count

-- the entry is all zero, its fibre pair too
abbrev pub is_zero : OldLink → Bool
is_zero l = eqb l.low 0 && eqb l.high 0 && eqb l.length 0 && eqb l.pair 0

-- each entry past the last link is zero
unfoldable pub rest_zero : OldMesh → Bool
rest_zero m = every (λ i. ltb i m.count || is_zero (link m i)) 256

-- the mesh checks: 3, 4; each link 7, 6, 8; then 13
unfoldable pub mesh_answer : OldMesh → Answer
mesh_answer m = parts_answer m.nodes m.count (rest_zero m) (ends_in m)

-- ---- the session

-- the cut is neither a link nor none
abbrev pub misplaced : ℕ → OldCut → Bool
misplaced links cuts.Nothing = false
misplaced links (cuts.Link k) = leb links k

-- a direction above 1, a state above 4, an entry of either past the last link not zero, a cut neither a link nor none, or a reached node not below N
unfoldable pub ill_formed : OldSession → Bool
ill_formed s =
    overflows s.mesh.count 1 s.plan.directions
    || overflows s.mesh.count 4 s.flood.states
    || misplaced s.mesh.count s.cut
    || strays s.mesh.nodes s.flood.reached

-- a session's record: mesh, 13
unfoldable pub record_answer : OldSession → Answer
record_answer s = and_then (mesh_answer s.mesh) (must (not (ill_formed s)) 13 0 Accepted)
