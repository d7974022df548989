use native.Mathlib.Omega.{arith}
use mathlib.Core.Path.{sym, ap}
use lib.ListN.{length}
use Rattle.writer.specs.Laws.Writing.{records_end, length_records_next}
use Rattle.writer.specs.Laws.Length.{length-book}
use Rattle.mesh.proofs.Ranges.{lent_in_range}
use Rattle.writer.proofs.room.book_length.Goals as goal

pub loop-i-init : goal.loop-i-init
loop-i-init c = (omega arith, rw c.zero_link-prev.ensures (sym (length-book c.args.m.now)))

pub loop-i-preserved : goal.loop-i-preserved
loop-i-preserved c =
    let m = c.args.m.now in
    let lo = c.loop-i in
    let next = length_records_next lo.prev m lo.i c.widened.result c.widened.ensures c.loop-i-test.true c.requires (lent_in_range m c.type_inv.m) in
    (omega arith, omega (arith, lo.invariant.1, c.length_of-n.ensures.value, next))

pub returns : goal.returns
returns c =
    let m = c.args.m.now in
    let lo = c.loop-i in
    omega (arith, lo.invariant.1, ap length (records_end lo.prev m lo.i c.loop-i-test.false))
