-- `codec::records::read_into` meets its contract. The loop keeps `Reading`: the answer and the fields of all records are those of the records read so far and
-- of those that are left.
use Rattle.codec.proofs.Laws.Reading.{Reading}
use Rattle.codec.proofs.records.read_into.Given as goal

abbrev pub invariant-loop-i : goal.invariant-loop-i
invariant-loop-i l = Reading l.book l.nodes l.k l.m l.prev l.at l.i
