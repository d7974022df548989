-- The arcs of a mesh's back-up digraph under a cut, with the failure that the cut is, as arrays. Definitions only.
use Rattle.std.specs.Prelude.{List, ℕ, set, replicate}
use Rattle.scan.specs.Entry.{at}
use Rattle.flood.specs.declared.Arcs.{Arcs}
use Rattle.wavelengths.specs.declared.Wavelength.{Wavelength}
use Rattle.topology.specs.declared.CutMesh.{CutMesh}
use Rattle.topology.specs.Arrays.{tails_into, heads_into}

-- on wavelength w; the start of the cut link is no node
unfoldable pub arcs_under : Wavelength → CutMesh → Arcs
arcs_under w c =
    let tails : List ℕ = tails_into w c.count c.ends.now c.directions.now (replicate 256 0) in
    let heads : List ℕ = heads_into w c.count c.ends.now c.directions.now (replicate 256 0) in
    record { tails = tails; heads = heads; starts = set tails c.link 255; count = c.count; source = at heads c.link; target = at tails c.link }

-- every arc turned round, as for the other wavelength, where link k is cut
unfoldable pub turned_under : ℕ → Arcs → Arcs
turned_under k a = record { tails = a.heads; heads = a.tails; starts = set a.heads k 255; count = a.count; source = at a.tails k; target = at a.heads k }
