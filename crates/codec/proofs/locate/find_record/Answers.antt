-- `codec::locate::find_record` meets its contract: reading is refused, there is no such link, or its record is found.
use native.Mathlib.Omega.{arith}
use Rattle.std.proofs.Common.{rules}
use Rattle.std.specs.Prelude.{Err}
use mathlib.Core.Path.{◌≡◌, sym, ◌∙◌, ap}
use Rattle.scan.specs.Bytes.{number}
use Rattle.mesh.specs.declared.Mesh.{Mesh}
use Rattle.mesh.specs.Answer.{Accepted}
use Rattle.codec.specs.Book.{book_answer, span_answer}
use Rattle.codec.proofs.Laws.Locate.{mesh_of-count, span-unread, span_none, span-some, span-refused, span_found}
use Rattle.codec.proofs.locate.find_record.Goals as goal
use Rattle.codec.proofs.locate.find_record.Goals.{In_ok-read_into, Else-m-link}

-- the book is read, and its mesh says the links
module _ (c : In_ok-read_into) where
  read : book_answer c.args.book.now ≡ Accepted
  read = sym c.read_into.ensures.answer ∙ c.in_ok-read_into.was

  count-is : c.read_into.new.m.count ≡ number 2 c.args.book.now 2
  count-is = ap (λ (m : Mesh). m.count) (c.read_into.ensures.mesh c.in_ok-read_into.was) ∙ mesh_of-count c.args.book.now

-- the record is there
found : (c : Else-m-link) → span_answer c.args.book.now c.args.link ≡ Accepted
found c =
    let t = (goal.at.Else-m-link c).In_ok-read_into in
    let h = c.if-m-link.false in
    span-some c.args.book.now c.args.link (read t) (rw (count-is t) at h)

pub returns-in_err-read_into : goal.returns-in_err-read_into
returns-in_err-read_into c =
    let a = c.args in
    let same : c.from_residual.result ≡ Err c.in_err-read_into.field-0.0 = search rules in
    let e = span-unread a.book.now a.link (sym c.read_into.ensures.answer ∙ c.in_err-read_into.was) in record {
      value = same ∙ span-refused a.book.now a.link e;
      order = search (rules, same);
      within = search (rules, same);
    }

pub returns-then-m-link : goal.returns-then-m-link
returns-then-m-link c =
    let a = c.args in
    let t = (goal.at.returns-then-m-link c).In_ok-read_into in
    let h = c.if-m-link.true in
    let e = span_none a.book.now a.link (read t) (rw (count-is t) at h) in record {
      value = span-refused a.book.now a.link e;
      order = search rules;
      within = search rules;
    }

pub record_start-start-requires : goal.record_start-start-requires
record_start-start-requires c = found c

pub overflow_add-end : goal.overflow_add-end
overflow_add-end c = omega (arith, c.record_start-start.ensures.whole, c.record_length.ensures.value, c.well_formed)

pub returns : goal.returns
returns c =
    let r = c.record_start-start in
    let a = c.args in record {
      value = rw c.record_length.ensures.value (span_found a.book.now a.link r.result (found (goal.at.returns c).Else-m-link) r.ensures.value);
      order = omega arith;
      within = rw c.record_length.ensures.value r.ensures.whole;
    }
