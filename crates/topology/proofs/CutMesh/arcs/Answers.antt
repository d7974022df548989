-- `topology::CutMesh::arcs` meets its contract: what the calls ensure are the entries of the definition.
use Rattle.topology.specs.Arcs.{arcs_under}
use Rattle.topology.proofs.CutMesh.arcs.Goals as goal

pub returns : goal.returns
unfolding arcs_under
returns c = cc
