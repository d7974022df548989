-- `mesh::in_turn::ends_in_turn` meets its contract: where both quick tests pass, each entry is accepted.
use mathlib.Core.Path.{sym}
use native.Mathlib.Omega.{arith}
use Rattle.mesh.specs.Laws.Parts.{quick_accepted}
use Rattle.mesh.proofs.in_turn.ends_in_turn.Goals as goal

pub returns-then-rise : goal.returns-then-rise
returns-then-rise c =
    let a = c.args in
    sym (quick_accepted a.nodes a.count a.ends.now
    (λ i h. c.fit.ensures c.if-fit.true i (omega arith)) (λ i p h. c.rise.ensures c.if-rise.true i p (omega arith)))
