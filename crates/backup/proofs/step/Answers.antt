-- `backup::step` meets its contract: the arcs are the wavelength's back-up digraph with the cut's failure.
use Rattle.backup.specs.Laws.Arcs.{graph_is, failure_is, stepped-on}
use Rattle.backup.proofs.step.Goals as goal

pub returns : goal.returns
returns c =
    let a = c.args in
    λ m given.
    stepped-on (graph_is a.wavelength m a.mesh.now given) (failure_is a.wavelength m a.mesh.now given) (rw c.arcs-arcs.ensures at c.step_on.ensures m.nodes)
