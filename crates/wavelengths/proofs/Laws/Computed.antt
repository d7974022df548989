-- 01's P6 on both wavelengths, computed: the order of the run after the cut of link 4. Assumes nothing.
use Rattle.std.specs.Prelude.{◌≡◌, refl, [], ◌∷◌}
use Rattle.scan.specs.Entry.{at}
use Rattle.scan.specs.Lowest.{lowest, lowest_from, any}
use Rattle.scan.specs.Sweep.{sweep, sweep_from}
use Rattle.flood.specs.Digraph.{Digraph, Failure, cut}
use Rattle.flood.specs.Machine as machine
use Rattle.wavelengths.specs.declared.Wavelength.TheVariants.{First, Second}
use Rattle.wavelengths.specs.Wavelength.{Wavelength, arcs_on}
use Rattle.wavelengths.specs.Merge.{turn, fresh_on_each, begin, busy, accepts, at_rest, next, step, order}

-- P5's back-up digraph on each wavelength, and the cut
abbrev graphs : Wavelength → Digraph
graphs w = arcs_on w (record { nodes = 4; links = 5; tail = at (1 ∷ 2 ∷ 0 ∷ 2 ∷ 3 ∷ []); head = at (0 ∷ 0 ∷ 3 ∷ 1 ∷ 2 ∷ []) })

abbrev cuts : Wavelength → Failure
cuts w = cut (graphs w) 4

pub p6 : order graphs cuts 4294967295 (begin graphs cuts (fresh_on_each 5 4))
    ≡ turn 1 First ∷ turn 2 First ∷ turn 2 Second ∷ turn 0 Second ∷ turn 1 Second ∷ turn 3 First ∷ turn 0 First ∷ turn 0 First ∷ turn 3 First ∷ turn 3 Second ∷ turn 3 Second ∷ turn 0 Second ∷ []
unfolding order next begin step accepts busy at_rest machine.fresh machine.begin machine.step machine.arrive machine.withdraw machine.retreat machine.accepts machine.at_rest machine.some machine.first machine.holds machine.feeds machine.opens machine.leaves machine.offer machine.live machine.under_way lowest lowest_from any sweep sweep_from
p6 = refl
