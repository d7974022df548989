-- `writer::put_book` meets its contract. The loop keeps that the records from link k on, after prev, are left to store from `at` on.
use Rattle.scan.specs.Storing.{Storing}
use Rattle.writer.specs.Written.{book_of}
use Rattle.writer.specs.Laws.Writing.{records_from}
use Rattle.writer.proofs.put_book.Given as goal

abbrev pub invariant-loop-k : goal.invariant-loop-k
invariant-loop-k l = Storing l.fn.out 0 (book_of l.m) l.out l.at (records_from l.prev l.m l.k)
