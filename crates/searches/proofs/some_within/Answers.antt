use mathlib.Core.Path.{◌≡◌, refl}
use native.Mathlib.Omega.{arith}
use Rattle.scan.specs.Lowest.{any-zero, any-turn}
use Rattle.searches.proofs.some_within.Goals as goal

pub loop-j-init : goal.loop-j-init
loop-j-init g c = λ p t. any-zero _

pub loop-j-preserved : goal.loop-j-preserved
loop-j-preserved g c =
    let l = c.loop-j in
    λ p t. any-turn _ l.j l.found _ _ (l.invariant p t) (t _ _ (omega arith) c.passes-found.ensures) refl

pub returns : goal.returns
returns g c =
    let l = c.loop-j in
    let e : l.j ≡ g.row.N = omega arith in
    λ p t. rw (← e) (l.invariant p t)
