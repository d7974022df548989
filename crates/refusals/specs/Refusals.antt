-- The refusals of each call in order (01, "Order"; 02, request 2), on what they look at: the record's answer, of which a refusal comes first, the number
-- of links, the cut, the states on the wavelength that is named, and the link and the wavelength that are named. Definitions only.
use Rattle.std.specs.Prelude.{ℕ, Bool, true, false, not, List, eqb, ltb}
use Rattle.scan.specs.Entry.{at}
use Rattle.mesh.specs.Answer.{Answer, Accepted}
use Rattle.mesh.specs.Mesh.{must, and_then}
use Rattle.flood.specs.Machine.{under_way}
use Rattle.flood.specs.Topology.{under_way_of}
use Rattle.wavelengths.specs.Wavelength.{is_wavelength}
use Rattle.formed.specs.Cut.{Cut}
use Rattle.formed.specs.Cut as cut

-- a cut stands; link k is the cut one
abbrev pub standing : Cut → Bool
standing cut.Nothing = false
standing (cut.Link k) = true

abbrev pub is_cut : Cut → ℕ → Bool
is_cut cut.Nothing k = false
is_cut (cut.Link c) k = eqb c k

-- at rest: none of the first links, at most 256, is under way
abbrev pub resting : ℕ → List ℕ → Bool
resting links states = eqb (under_way_of links states) 0

-- every call that names a link: 12
unfoldable pub link_answer : Answer → ℕ → ℕ → Answer
link_answer tested links k = and_then tested (must (ltb k links) 12 k Accepted)

-- status, on wavelength w: 12, 14
unfoldable pub status_answer : Answer → ℕ → ℕ → ℕ → Answer
status_answer tested links k w = and_then tested (must (ltb k links) 12 k (must (is_wavelength w) 14 0 Accepted))

-- cut: 12, 22
unfoldable pub cut_answer : Answer → ℕ → Cut → ℕ → Answer
cut_answer tested links c k = and_then tested (must (ltb k links) 12 k (must (not (standing c)) 22 k Accepted))

-- delivery, on wavelength w, whose states are given: 12, 14, 23, 24
unfoldable pub deliver_answer : Answer → ℕ → Cut → List ℕ → ℕ → ℕ → Answer
deliver_answer tested links c states k w =
    and_then tested
    (must (ltb k links) 12 k
    (must (is_wavelength w) 14 0
    (must (standing c) 23 k
    (must (under_way (at states k)) 24 k
    Accepted))))

-- run: 23, with the place 0
unfoldable pub run_answer : Answer → Cut → Answer
run_answer tested c = and_then tested (must (standing c) 23 0 Accepted)

-- the route query, on wavelength w: 14, 23, with the place 0
unfoldable pub route_answer : Answer → Cut → ℕ → Answer
route_answer tested c w = and_then tested (must (is_wavelength w) 14 0 (must (standing c) 23 0 Accepted))

-- mend: 12, 23, 26, 25
unfoldable pub mend_answer : Answer → ℕ → Cut → Bool → ℕ → Answer
mend_answer tested links c rest k =
    and_then tested
    (must (ltb k links) 12 k
    (must (standing c) 23 k
    (must (is_cut c k) 26 k
    (must rest 25 k
    Accepted))))
