-- `backup::begin` meets its contract: the arcs are the wavelength's back-up digraph with the cut's failure.
use mathlib.Core.Path.{◌∙◌}
use Rattle.flood.specs.Machine.{begin}
use Rattle.topology.specs.Arcs.{arcs_under}
use Rattle.backup.specs.Laws.Arcs.{graph_is, failure_is}
use Rattle.backup.proofs.begin.Goals as goal

pub returns : goal.returns
returns c =
    let a = c.args in
    λ m given.
    (rw c.arcs-arcs.ensures at c.begin.ensures m.nodes (arcs_under a.wavelength a.mesh.now).target (arcs_under a.wavelength a.mesh.now).heads)
    ∙ (λ i. begin (graph_is a.wavelength m a.mesh.now given i) (failure_is a.wavelength m a.mesh.now given i) a.flood.now)
