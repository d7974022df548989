-- Counts of a mesh's links, of which there are at most 256, over the states. Assumes nothing.
use Rattle.std.specs.Prelude.{◌≤◌, min, ◌≡◌, ◌&&◌}
use Rattle.std.proofs.Common.{arith}
use Rattle.scan.specs.Entry.{at}
use Rattle.scan.specs.Total.{count-any}
use Rattle.mesh.specs.declared.Mesh.{Mesh}
use Rattle.mesh.specs.declared.Plan.{Plan}
use Rattle.flood.specs.declared.Flood.{Flood}
use Rattle.flood.specs.Digraph.{Digraph}
use Rattle.flood.specs.Machine.{under_way, some, at_rest, activity}
use Rattle.flood.specs.Topology.{under_way_of}
use Rattle.wavelengths.specs.declared.Floods.{Floods}
use Rattle.wavelengths.specs.declared.Wavelength.TheVariants.{First, Second}
use Rattle.wavelengths.specs.Merge as both
use Rattle.topology.specs.Backup.{backup_on}
use Rattle.refusals.specs.Refusals.{resting}

module _ (g : Digraph) (f : Flood) (few : g.links ≤ 256) where
  all : min g.links 256 ≡ g.links
  all = omega arith

  pub under_way_counted : under_way_of g.links f.states ≡ activity g f
  unfolding under_way_of activity
  under_way_counted = rw (all)

  pub resting_counted : resting g.links f.states ≡ at_rest g f
  unfolding under_way_of at_rest some
  resting_counted = rw (all) (count-any (λ i. under_way (at f.states i)) g.links)

-- the floods on the two wavelengths of a mesh under a plan
module _ (m : Mesh) (p : Plan) (f : Floods) (few : m.count ≤ 256) where
  pub both_counted : (resting m.count f.first.states && resting m.count f.second.states) ≡ both.at_rest (λ w. backup_on w m p) f
  unfolding both.at_rest
  both_counted = rw (resting_counted (backup_on First m p) f.first few, resting_counted (backup_on Second m p) f.second few)
