-- `backup::route` meets its contract: the arcs are the wavelength's back-up digraph with the cut's failure.
use mathlib.Core.Path.{◌∙◌}
use Rattle.flooding.specs.Ended.{followed}
use Rattle.backup.specs.Laws.Arcs.{graph_is, failure_is}
use Rattle.backup.proofs.route.Goals as goal

pub returns : goal.returns
returns c =
    let a = c.args in
    λ m given.
    (rw c.arcs-arcs.ensures at c.follow.ensures m.nodes)
    ∙ (λ i. followed (graph_is a.wavelength m a.mesh.now given i) (failure_is a.wavelength m a.mesh.now given i).source a.flood.now.states)
