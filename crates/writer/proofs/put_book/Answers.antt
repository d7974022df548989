use mathlib.Core.Path.{ap}
use Prim.Native.Nat.{◌+◌, ◌≤◌}
use native.Mathlib.Omega.{arith}
use lib.ListN.{length, length-drop}
use Rattle.scan.specs.Part.{part_rest}
use Rattle.scan.specs.Storing.{storing_end}
use Rattle.fields.specs.Record.{record_of}
use Rattle.mesh.proofs.Ranges.{lent_in_range}
use Rattle.writer.specs.Laws.Writing.{records_end, record_room, record_next, header_stored}
use Rattle.writer.specs.Laws.Length.{length-book}
use Rattle.writer.proofs.put_book.Goals as goal
use Rattle.writer.proofs.put_book.Goals.{After-widened}

-- the record of link k fits
record-fits : (c : After-widened) → c.loop-k.at + length (record_of c.loop-k.prev c.widened.result) ≤ length c.loop-k.out
record-fits c =
    let m = c.args.m.now in
    record_room c.loop-k.prev m c.loop-k.k c.widened.result c.widened.ensures c.loop-k-test.true c.requires.few (lent_in_range m c.type_inv.m) c.loop-k.invariant

pub put_header-at-requires : goal.put_header-at-requires
put_header-at-requires c = omega (arith, length-book c.args.m.now, c.requires.room)

pub loop-k-init : goal.loop-k-init
loop-k-init c =
    rw c.zero_link-prev.ensures
    (header_stored c.args.m.now c.args.out.now c.requires.room c.put_header-at.ensures.stored c.put_header-at.ensures.next)

pub put_record-at-requires : goal.put_record-at-requires
put_record-at-requires c = simp (part_rest, length-drop) (omega (arith, record-fits (goal.at.put_record-at-requires c).After-widened))

pub overflow_add-at : goal.overflow_add-at
overflow_add-at c = omega (arith, record-fits (goal.at.overflow_add-at c).After-widened, c.put_record-at.ensures.next, c.well_formed)

pub loop-k-preserved : goal.loop-k-preserved
loop-k-preserved c =
    let lo = c.loop-k in
    let m = c.args.m.now in
    record_next lo.prev m lo.k c.widened.result c.widened.ensures c.loop-k-test.true c.requires.few (lent_in_range m c.type_inv.m) lo.invariant
    c.put_record-at.ensures.stored c.put_record-at.ensures.next

pub returns : goal.returns
returns c =
    let lo = c.loop-k in
    let none = records_end lo.prev c.args.m.now lo.k c.loop-k-test.false in record {
      next = omega (arith, lo.invariant.ends, ap length none);
      stored = storing_end lo.invariant none;
    }
