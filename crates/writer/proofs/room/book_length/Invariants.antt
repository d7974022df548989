-- `writer::room::book_length` meets its contract. The loop keeps that n and the length of the records from link i on make the length of the book.
use mathlib.Core.Path.{◌≡◌}
use Prim.Native.Nat.{◌+◌, ◌*◌, ◌≤◌}
use lib.ListN.{length}
use Rattle.fields.specs.Record.{longest_record}
use Rattle.writer.specs.Written.{book_of}
use Rattle.writer.specs.Laws.Writing.{records_from}
use Rattle.writer.proofs.room.book_length.Given as goal

abbrev pub invariant-loop-i : goal.invariant-loop-i
invariant-loop-i l = (l.n ≤ 4 + longest_record * l.i) × (l.n + length (records_from l.prev l.m l.i) ≡ length (book_of l.m))
