-- What the calls that leave the floods alone give on the pieces of a session. Definitions only.
use Rattle.std.specs.Prelude.{ℕ, Bool, cond, List, [], Result}
use Rattle.mesh.specs.declared.Mesh.{Mesh}
use Rattle.mesh.specs.declared.Reason.{Reason}
use Rattle.mesh.specs.Answer.{Answer}
use Rattle.flood.specs.declared.Route.{Route}
use Rattle.flood.specs.Machine as machine
use Rattle.flood.specs.Topology.{route_from, as_route}
use Rattle.wavelengths.specs.declared.Floods.{Floods}
use Rattle.wavelengths.specs.declared.Wavelength.{Wavelength}
use Rattle.wavelengths.specs.Wavelength.{wavelength_of, on}
use Rattle.wavelengths.specs.Merge.{at_rest}
use Rattle.formed.specs.Cut.{Cut}
use Rattle.refusals.specs.Refusals.{route_answer, mend_answer}
use Rattle.pieces.specs.Pieces.{giving, digraph, lost, tested}

module _ (m : Mesh) (directions : List ℕ) (c : Cut) (f : Floods) where
  -- the answer to a mend of link k
  abbrev pub mend_of : ℕ → Answer
  mend_of k = mend_answer (tested m directions c f) m.count c (at_rest (digraph m directions) f) k

  -- the taken links of wavelength w from the source on, where b says that no link is under way on it
  abbrev pub links_where : Wavelength → Bool → List ℕ
  links_where w b = cond b (route_from (digraph m directions w) m.count (lost m directions c w).source (on w f).states) []

  -- the route on the wavelength with the number n, or why it is refused
  abbrev pub route_of : ℕ → Result Route Reason
  route_of n =
      let w = wavelength_of n in
      giving (route_answer (tested m directions c f) c n) (as_route (links_where w (machine.at_rest (digraph m directions w) (on w f))))
