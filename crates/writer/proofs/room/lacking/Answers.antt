-- `writer::room::lacking` meets its contract: an output of the length of the longest book has room for any.
use native.Mathlib.Omega.{arith}
use borrow.Author.Tests.{le-leb}
use lib.ListN.{length}
use Rattle.writer.specs.Written.{book_of}
use Rattle.writer.specs.Laws.Length.{book_within}
use Rattle.writer.proofs.room.lacking.Goals as goal

pub returns-then-room-ge-LONGEST_BOOK : goal.returns-then-room-ge-LONGEST_BOOK
returns-then-room-ge-LONGEST_BOOK c = let m = c.args.m.now in rw (le-leb (length (book_of m)) c.args.room (omega (arith, book_within m c.requires)))
