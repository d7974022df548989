use mathlib.Core.Path.{ap, ◌∙◌}
use mathlib.Core.Bool.{true}
use native.Mathlib.Omega.{arith}
use Prim.Native.Nat.{min}
use mathlib.Core.Path.{◌≡◌, refl}
use Rattle.scan.specs.Entry.{at}
use Rattle.metres.specs.Length.{length_of}
use Rattle.metres.specs.Laws.Summing.{summed_none, summed_turn, summed_all}
use Rattle.mesh.specs.WellFormed.{lengths}
use Rattle.mesh.specs.Laws.Lengths.{lengths_most}
use Rattle.mesh.proofs.Ranges.{lent_in_range}
use Rattle.mesh.proofs.links.length_along.Goals as goal

pub loop-k-init : goal.loop-k-init
loop-k-init c = summed_none _

pub overflow_add-metres : goal.overflow_add-metres
overflow_add-metres c =
    let m = c.args.m.now in
    let ranges = lent_in_range m c.type_inv.m in
    let most = lengths_most m ranges c.args.row.now c.loop-k.k in
    let here = (ranges.links (at c.args.row.now c.loop-k.k)).length in
    omega arith

pub loop-k-preserved : goal.loop-k-preserved
loop-k-preserved c =
    let a = c.args in
    summed_turn (λ j. lengths a.m.now (at a.row.now j)) c.loop-k.k c.loop-k.metres _ c.loop-k.unmeasured c.loop-k.invariant refl

pub returns : goal.returns
returns c =
    let a = c.args in
    let every : c.loop-k.k ≡ min a.n 256 = omega arith in
    c.length_of.ensures
    ∙ summed_all (λ j. lengths a.m.now (at a.row.now j)) c.loop-k.k c.loop-k.metres c.loop-k.unmeasured c.loop-k.invariant
    ∙ ap (length_of (λ j. lengths a.m.now (at a.row.now j)) (λ j. true)) every
