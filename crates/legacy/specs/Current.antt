-- The parts of an old record in the types of now: every field that both have. Definitions only.
use Rattle.std.specs.Prelude.{map, replicate}
use Rattle.mesh.specs.declared.Link.{Link}
use Rattle.mesh.specs.declared.Mesh.{Mesh}
use Rattle.mesh.specs.declared.Plan.{Plan}
use Rattle.flood.specs.declared.Flood.{Flood}
use Rattle.legacy.specs.declared.OldLink.{OldLink}
use Rattle.legacy.specs.declared.OldMesh.{OldMesh}
use Rattle.legacy.specs.declared.OldPlan.{OldPlan}
use Rattle.legacy.specs.declared.OldFlood.{OldFlood}

abbrev pub link_now : OldLink → Link
link_now l = record { low = l.low; high = l.high; length = l.length; pair = l.pair }

-- no link has a duct
abbrev pub mesh_now : OldMesh → Mesh
mesh_now m = record { nodes = m.nodes; count = m.count; links = map link_now m.links; ducts = replicate 256 0 }

abbrev pub plan_now : OldPlan → Plan
plan_now p = record { directions = p.directions }

abbrev pub flood_now : OldFlood → Flood
flood_now f = record { states = f.states; reached = f.reached }
