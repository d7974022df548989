-- The route length by the numbers of links that are under way. Assumes nothing.
use Prim.Native.Nat.{ℕ, ◌≤◌, min}
use Rattle.std.specs.Prelude.{◌≡◌, true, false, cond, ◌&&◌}
use Rattle.std.proofs.Math.Bool.{Bool}
use Rattle.std.proofs.Common.{arith}
use Rattle.scan.specs.Entry.{at}
use Rattle.metres.specs.Known.{Metres}
use Rattle.metres.specs.Length.{length_of, route_length}
use Rattle.metres.specs.Laws.Length.{length_none}
use Rattle.taken.specs.Taken.{is_taken}
use Rattle.mesh.specs.declared.Mesh.{Mesh}
use Rattle.mesh.specs.declared.Plan.{Plan}
use Rattle.flood.specs.Topology.{under_way_of}
use Rattle.wavelengths.specs.declared.Floods.{Floods}
use Rattle.wavelengths.specs.declared.Wavelength.{Wavelength}
use Rattle.wavelengths.specs.Wavelength.{on}
use Rattle.wavelengths.specs.Merge as both
use Rattle.formed.specs.Cut.{Cut}
use Rattle.formed.specs.Cut as cuts
use Rattle.topology.specs.Backup.{backup_on}
use Rattle.refusals.specs.Refusals.{standing}
use Rattle.pieces.specs.Laws.Counts.{both_counted}
use Rattle.status.specs.Counts.{links_by}

-- the floods on the two wavelengths of a mesh under a plan
module _ (m : Mesh) (p : Plan) (f : Floods) (few : m.count ≤ 256) where
  -- the route length on a wavelength, by the numbers of links that are under way
  pub length_counted : (length : ℕ → ℕ) (c : Cut) (w : Wavelength)
      → length_of length (is_taken (on w f).states)
      (min (links_by m.count c (under_way_of m.count f.first.states) (under_way_of m.count f.second.states)) 256)
      ≡ route_length (standing c && both.at_rest (λ v. backup_on v m p) f) length (at (on w f).states) m.count
  unfolding route_length
  length_counted length cuts.Nothing w = length_none length (is_taken (on w f).states)
  length_counted length (cuts.Link k) w = rw (both_counted m p f few) (over (both.at_rest (λ v. backup_on v m p) f))
    where
      taken : ℕ → Bool
      taken = is_taken (on w f).states

      over : (t : Bool) → length_of length taken (min (cond t m.count 0) 256) ≡ cond t (length_of length taken m.count) (Metres 0)
      over true = let all : min m.count 256 ≡ m.count = omega arith in rw (all)
      over false = length_none length taken
