use mathlib.Core.Path.{◌≡◌, refl, sym, ◌∙◌, ap}
use mathlib.Core.Bool.{Bool, true, false}
use Rattle.std.specs.Int.{from_bool}
use native.Mathlib.Omega.{arith}
use Rattle.scan.specs.Fill.{fill_all}
use Rattle.scan.specs.Total.{bit}
use Rattle.scan.specs.Sweep.{sweep_none, sweep-turn}
use Rattle.bridges.specs.Survey.{no_bridges}
use Rattle.bridges.proofs.all_bridges.Goals as goal

pub loop-k-init : goal.loop-k-init
loop-k-init c = λ ok. sym (sweep_none _ no_bridges)

byte_is : (b : Bool) → from_bool b ≡ bit b
byte_is true = refl
byte_is false = refl

pub loop-k-preserved : goal.loop-k-preserved
loop-k-preserved c =
    λ ok.
    let l = c.loop-k in
    let e = c.is_bridge.ensures ok (omega (arith, c.loop-k-test.true, c.min-links.ensures)) in
    sweep-turn _ no_bridges l.bridges l.k (l.invariant ok) _ (c.from.ensures ∙ byte_is c.is_bridge.result ∙ ap bit e)

pub returns : goal.returns
returns c =
    λ ok.
    let l = c.loop-k in
    l.invariant ok ∙ fill_all _ _ no_bridges l.k refl (omega (arith, c.min-links.ensures)) (omega (arith, c.min-links.ensures))
