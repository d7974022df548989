-- What the status of a link gives on the pieces of a session. Definitions only.
use Rattle.std.specs.Prelude.{ℕ, ◌&&◌, List, Result}
use Rattle.scan.specs.Entry.{at}
use Rattle.metres.specs.Length.{route_length}
use Rattle.mesh.specs.declared.Mesh.{Mesh}
use Rattle.mesh.specs.declared.Reason.{Reason}
use Rattle.mesh.specs.WellFormed.{lengths}
use Rattle.flood.specs.Topology.{under_way_of}
use Rattle.wavelengths.specs.declared.Floods.{Floods}
use Rattle.wavelengths.specs.Wavelength.{wavelength_of, on}
use Rattle.wavelengths.specs.Merge.{at_rest}
use Rattle.formed.specs.Cut.{Cut}
use Rattle.refusals.specs.Refusals.{standing, status_answer}
use Rattle.pieces.specs.Pieces.{giving, digraph, tested}
use Rattle.status.specs.declared.LinkStatus.{LinkStatus}

module _ (m : Mesh) (directions : List ℕ) (c : Cut) (f : Floods) where
  -- the status of link k on the wavelength with the number n, or why it is refused
  abbrev pub of_link : ℕ → ℕ → Result LinkStatus Reason
  of_link k n = giving (status_answer (tested m directions c f) m.count k n) (record {
    state = at (on (wavelength_of n) f).states k;
    under_way = under_way_of m.count (on (wavelength_of n) f).states;
    route = route_length (standing c && at_rest (digraph m directions) f) (lengths m) (at (on (wavelength_of n) f).states) m.count;
  })
