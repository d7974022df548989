-- `backup::run` meets its contract: the arcs are the back-up digraph with the cut's failure on each wavelength, those of wavelength 2 being those of
-- wavelength 1 turned round.
use mathlib.Core.Path.{◌≡◌, ◌∙◌}
use Rattle.flood.specs.Digraph.{Digraph, cut}
use Rattle.wavelengths.specs.declared.Wavelength.{Wavelength}
use Rattle.wavelengths.specs.declared.Wavelength.TheVariants.{First, Second}
use Rattle.wavelengths.proofs.Laws.Wavelength.{each_known}
use Rattle.topology.specs.Backup.{backup_on}
use Rattle.topology.specs.Arcs.{arcs_under, turned_under}
use Rattle.backup.specs.Laws.Arcs.{turned_is, graph_is, failure_is, ended-on}
use Rattle.backup.proofs.run.Goals as goal

pub returns : goal.returns
returns c =
    let a = c.args in
    let first = c.arcs-first_arcs.ensures in
    let second : c.turned-second_arcs.result ≡ arcs_under Second a.mesh.now =
    c.turned-second_arcs.ensures ∙ (λ i. turned_under a.mesh.now.link (first i)) ∙ turned_is a.mesh.now
    in
    λ m given.
    let g : Wavelength → Digraph = λ w. backup_on w m (record { directions = a.mesh.now.directions.now }) in
    ended-on
    (each_known g (graph_is First m a.mesh.now given) (graph_is Second m a.mesh.now given))
    (each_known (λ w. cut (g w) a.mesh.now.link) (failure_is First m a.mesh.now given) (failure_is Second m a.mesh.now given))
    (rw (second, first) at c.run.ensures m.nodes)
