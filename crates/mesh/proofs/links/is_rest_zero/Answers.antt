use mathlib.Core.Path.{ap, ◌∙◌}
use native.Mathlib.Omega.{arith}
use lib.Dec.{eqb}
use Rattle.scan.specs.Joining.{joined-turn, joined-all}
use Rattle.scan.specs.Part.{drop_min}
use Rattle.mesh.specs.Mesh.{zero_link, is_zero, all_zero}
use Rattle.mesh.specs.Laws.Links.{zero_even}
use Rattle.mesh.proofs.Ranges.{lent_in_range}
use Rattle.mesh.proofs.links.is_rest_zero.Goals as goal

pub loop-i-init : goal.loop-i-init
loop-i-init c =
    let m = c.args.m.now in
    let ranges = lent_in_range m c.type_inv.m in
    ap all_zero (drop_min m.links m.count c.min-from.result (omega (arith, ranges.entries)))
    ∙ zero_even m.links c.min-from.result c.min.result (eqb c.bits_where_odd-bits.result 0) ranges.entries (omega arith) c.min.ensures c.bits_where_odd-bits.ensures

pub loop-i-preserved : goal.loop-i-preserved
loop-i-preserved c =
    let m = c.args.m.now in
    let ranges = lent_in_range m c.type_inv.m in
    joined-turn is_zero m.links m.count zero_link c.loop-i.i c.loop-i.bits c.bits_of-bits.result c.loop-i.invariant (omega (arith, ranges.entries)) c.bits_of-bits.ensures

pub returns : goal.returns
returns c =
    let m = c.args.m.now in
    let ranges = lent_in_range m c.type_inv.m in record {
      rest = joined-all is_zero m.links m.count c.loop-i.i c.loop-i.bits c.loop-i.invariant (omega (arith, ranges.entries));
      ranges = ranges;
    }
