-- What a carry-over gives (02, request 3): a session of now for one from before wavelength 2. Definitions only.
use Rattle.std.specs.Prelude.{map, replicate}
use Rattle.mesh.specs.declared.Link.{Link}
use Rattle.mesh.specs.declared.Mesh.{Mesh}
use Rattle.mesh.specs.declared.Plan.{Plan}
use Rattle.flood.specs.declared.Flood.{Flood}
use Rattle.formed.specs.Cut.{Cut}
use Rattle.formed.specs.Cut as cuts
use Rattle.recovery.specs.declared.Session.{Session}
use Rattle.recovery.specs.declared.Change.{Change}
use Rattle.recovery.specs.Calls.{fresh_on, zero_session, cut_on, change, after_cut}
use Rattle.legacy.specs.declared.OldLink.{OldLink}
use Rattle.legacy.specs.declared.OldMesh.{OldMesh}
use Rattle.legacy.specs.declared.OldPlan.{OldPlan}
use Rattle.legacy.specs.declared.OldCut.{OldCut}
use Rattle.legacy.specs.declared.OldCut.TheVariants as oldCuts
use Rattle.legacy.specs.declared.OldFlood.{OldFlood}
use Rattle.legacy.specs.declared.OldSession.{OldSession}
use Rattle.legacy.specs.Record.{record_answer}

-- ---- the parts of an old record, in the types of now

abbrev pub link_of : OldLink → Link
link_of l = record { low = l.low; high = l.high; length = l.length; pair = l.pair }

-- no link has a duct
abbrev pub mesh_of : OldMesh → Mesh
mesh_of m = record { nodes = m.nodes; count = m.count; links = map link_of m.links; ducts = replicate 256 0 }

abbrev pub plan_of : OldPlan → Plan
plan_of p = record { directions = p.directions }

abbrev pub cut_of : OldCut → Cut
cut_of oldCuts.Nothing = cuts.Nothing
cut_of (oldCuts.Link k) = cuts.Link k

abbrev pub flood_of : OldFlood → Flood
flood_of f = record { states = f.states; reached = f.reached }

-- ---- the carry-over

-- wavelength 2: as in a fresh session if no cut stands, and otherwise as just after that cut
abbrev pub second_of : Mesh → Plan → Cut → Flood
second_of m p cuts.Nothing = (fresh_on m p).second
second_of m p (cuts.Link k) = (cut_on (fresh_on m p) k).second

-- mesh, plan and cut are kept, and wavelength 1 keeps its states and reached nodes
abbrev pub kept : OldSession → Session
kept s = record {
  mesh = mesh_of s.mesh;
  plan = plan_of s.plan;
  cut = cut_of s.cut;
  first = flood_of s.flood;
  second = second_of (mesh_of s.mesh) (plan_of s.plan) (cut_of s.cut);
}

-- an ill-formed old session meets the refusals and order that it met before, but that links may have the same ends (02, request 7), and gives what a refused start
-- gives
unfoldable pub carried : OldSession → Change
carried s = change (record_answer s) zero_session (kept s)

-- ---- the calls that make it

-- a session with another flood on wavelength 1
abbrev pub with_first : Session → Flood → Session
with_first s f = record { mesh = s.mesh; plan = s.plan; cut = s.cut; first = f; second = s.second }

-- a session after the cut of a link that stands in an old one
abbrev pub cut_again : Session → OldCut → Session
cut_again s oldCuts.Nothing = s
cut_again s (oldCuts.Link k) = (after_cut s k).session
