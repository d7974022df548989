-- `codec::record_bytes` meets its contract: it is the part of the book between the span's start and end, or the empty part.
use native.Mathlib.Omega.{arith}
use borrow.Author.Rules.{rules}
use mathlib.Core.Path.{sym}
use Rattle.codec.specs.Book.{record_part}
use Rattle.codec.proofs.Laws.Locate.{span_told, span_empty}
use Rattle.codec.proofs.record_bytes.Goals as goal

pub returns-in_default : goal.returns-in_default
unfolding record_part
returns-in_default c =
    let e = span_empty c.args.book.now c.args.link c.in_default.ensures.value in record {
      place = rw e;
      bytes = rw e;
    }

pub slice_bounds-result-count-2 : goal.slice_bounds-result-count-2
slice_bounds-result-count-2 c = let told = span_told c.args.book.now c.args.link c.in-Ok.ensures.value in omega (arith, told.1)

pub slice_bounds-result-start-2 : goal.slice_bounds-result-start-2
slice_bounds-result-start-2 c = let told = span_told c.args.book.now c.args.link c.in-Ok.ensures.value in search (rules, told.1)

pub slice_bounds-result-end-2 : goal.slice_bounds-result-end-2
slice_bounds-result-end-2 c = let told = span_told c.args.book.now c.args.link c.in-Ok.ensures.value in search (rules, told.2)

pub returns : goal.returns
unfolding record_part
returns c =
    let e = (span_told c.args.book.now c.args.link c.in-Ok.ensures.value).0 in record {
      place = rw (sym e);
      bytes = rw (sym e);
    }
