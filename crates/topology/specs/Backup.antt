-- The back-up digraph of a mesh under a plan (01, "The plan"; 02, request 2), and the arrays that hold it under a cut. Definitions only.
use Rattle.std.specs.Prelude.{ℕ, set}
use Rattle.scan.specs.Entry.{at}
use Rattle.scan.specs.Fill.{table_of}
use Rattle.mesh.specs.declared.Mesh.{Mesh}
use Rattle.mesh.specs.declared.Plan.{Plan}
use Rattle.mesh.specs.Arc.{back_tail, back_head}
use Rattle.flood.specs.Topology.{Topology}
use Rattle.flood.specs.Digraph.{Digraph}
use Rattle.wavelengths.specs.declared.Wavelength.{Wavelength}
use Rattle.wavelengths.specs.Wavelength.{arcs_on}

-- every arc of the plan turned round: wavelength 1's
abbrev pub backup : Mesh → Plan → Digraph
backup m p = record { nodes = m.nodes; links = m.count; tail = back_tail m p; head = back_head m p }

-- the back-up digraph of a wavelength
abbrev pub backup_on : Wavelength → Mesh → Plan → Digraph
backup_on w m p = arcs_on w (backup m p)

-- link k is cut: the stream from its head to its tail is lost. Its open tail is no node, so that it is not offered
unfoldable pub under_cut : Wavelength → Mesh → Plan → ℕ → Topology
under_cut w m p k =
    let tails = table_of (backup_on w m p).tail m.count in
    let heads = table_of (backup_on w m p).head m.count in
    record {
      nodes = m.nodes;
      count = m.count;
      source = at heads k;
      target = at tails k;
      tails = tails;
      heads = heads;
      «open» = set tails k 255;
    }
