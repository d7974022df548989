use mathlib.Core.Path.{refl}
use native.Mathlib.Omega.{arith}
use Rattle.flooding.specs.Laws.Turns.{pair_is, running_first, running_second, ended-rest, ended-all}
use Rattle.flooding.proofs.running.run.Goals as goal
use Rattle.flooding.proofs.running.run.Goals.{then-j-links1, else-j-links1+then-k-links2}

pub returns-else-k-links2 : goal.returns-else-k-links2
returns-else-k-links2 c =
    λ n. ended-rest _ _ _ _ _ (c.loop-made.invariant n) (rw (← c.links_of-links1.ensures, ← c.links_of-links2.ensures) c.if-j-links1.false)
    (rw (← c.links_of-links2.ensures) c.if-k-links2.false)

pub loop-made-preserved : goal.loop-made-preserved
loop-made-preserved c =
    λ n. elim c.if-j-links1.branch [
      | then-j-links1 w ↦ running_first _ _ _ _ _ (c.loop-made.invariant n) c.loop-made-test.true
          (rw (← c.links_of-links1.ensures, ← c.links_of-links2.ensures) w.if-j-links1.true) _ _ (w.turn-j.ensures n) _ _ _ (pair_is w.flood1-is w.flood2-is) w.j-is w.k-is
      | else-j-links1+then-k-links2 w ↦ running_second _ _ _ _ _ (c.loop-made.invariant n) c.loop-made-test.true
          (rw (← c.links_of-links1.ensures, ← c.links_of-links2.ensures) w.if-j-links1.false) (rw (← c.links_of-links2.ensures) w.if-k-links2.true)
          _ _ (w.turn-k.ensures n) _ _ _ (pair_is w.flood1-is w.flood2-is) w.j-is w.k-is
    ]

pub returns : goal.returns
returns c = λ n. ended-all _ _ _ _ _ (c.loop-made.invariant n) (omega arith) _ (rw (← c.links_of-links1.ensures, ← c.links_of-links2.ensures) refl)
