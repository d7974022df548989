-- `topology::CutMesh::turned` meets its contract: what the call ensures are the entries of the definition.
use Rattle.topology.specs.Arcs.{turned_under}
use Rattle.topology.proofs.CutMesh.turned.Goals as goal

pub returns : goal.returns
unfolding turned_under
returns c = cc
