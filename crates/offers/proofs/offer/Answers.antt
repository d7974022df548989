use mathlib.Core.Path.{refl, sym, ap, ◌∙◌}
use mathlib.Core.Bool.{Bool, ◌&&◌}
use Rattle.scan.specs.Lowest.{any-zero, any-turn}
use Rattle.scan.specs.Sweep.{sweep_none, sweep-reads, sweep-turn}
use Rattle.flood.specs.Lent.{leaving}
use Rattle.offers.proofs.offer.Invariants.{new}
use Rattle.offers.proofs.offer.Goals as goal

pub loop-i-init : goal.loop-i-init
loop-i-init g c =
    let a = c.args in
    (sym (sweep_none (new g.p a.tails.now a.starts.now a.a) a.states.now), any-zero _)

pub loop-i-preserved : goal.loop-i-preserved
loop-i-preserved g c =
    let l = c.loop-i in
    let a = c.args in
    let f = new g.p a.tails.now a.starts.now a.a in
    let leaves = leaving a.tails.now a.starts.now a.a in
    let says = c.requires.1.1 _ _ c.passes.ensures in
    let as_it_was = says ∙ ap g.p (sweep-reads f a.states.now l.states l.i l.invariant.0) in (
      sweep-turn f a.states.now l.states l.i l.invariant.0 _ (rw (← says) c.offered.ensures),
      any-turn _ l.i l.found _ _ l.invariant.1 (ap (λ (t : Bool). leaves l.i && t) as_it_was) refl,
    )
