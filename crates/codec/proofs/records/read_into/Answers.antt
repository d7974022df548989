use borrow.Author.Rules.{rules}
use borrow.Author.Tests.{leb-true, le-leb, lt-leb}
use native.Mathlib.Omega.{arith}
use mathlib.Core.Path.{◌≡◌, sym, ◌∙◌, ap}
use mathlib.Core.List.{List}
use Prim.Native.Nat.{ℕ, ◌-◌, ◌≤◌}
use lib.ListN.{length, get_or, take, drop}
use Rattle.std.specs.Prelude.{Result, Err}
use Rattle.scan.specs.Bytes.{number}
use Rattle.scan.specs.Part.{part_rest}
use Rattle.mesh.specs.declared.Link.{Link}
use Rattle.mesh.specs.declared.Reason.{Reason}
use Rattle.mesh.specs.Answer.{Accepted}
use Rattle.fields.specs.Record.{record_answer}
use Rattle.reader.specs.declared.Header.{Header}
use Rattle.reader.specs.declared.Record.{Record}
use Rattle.reader.specs.Read.{answer_of, header_answer, record_read}
use Rattle.reader.specs.Laws.Read.{there, read_answer_lem, record_given}
use Rattle.reader.specs.Laws.Header.{header_accepted, header_answer_lem, header_given}
use Rattle.codec.proofs.Laws.Reading.{reading_start, reading_refused, reading_within, reading_turn, reading_over, reading_mesh, all_records, book-refused, book_records}
use Rattle.codec.specs.Book.{book_answer}
use Rattle.codec.proofs.records.read_into.Goals as goal
use Rattle.codec.proofs.records.read_into.Goals.{In_ok-h, In-loop-i, In_ok-r}

-- past the header, which is accepted
module _ (c : In_ok-h) where
  abbrev book : List ℕ
  book = c.args.book.now

  abbrev h : Header
  h = c.in_ok-h.h

  said : (header_answer book ≡ Accepted) × (h.nodes ≡ get_or book 1 0) × (h.count ≡ number 2 book 2)
  said = header_given book (sym c.in_ok-h.ensures)

  few : h.count ≤ 256
  few = rw said.2 (leb-true _ _ (header_accepted book said.0).count)

  -- the records decide
  decide : book_answer book ≡ all_records book h.nodes h.count
  decide = book_records book said.0 said.1 said.2

-- what reading a record gives, of the rest of the book from `at` on
read : (s : List ℕ) (n : ℕ) (p : Link) (at : ℕ) {r : Result Record Reason} → r ≡ record_read n (length s) p at (take (length s - at) (drop at s))
    → record_read n (length s) p at (drop at s) ≡ r
read s n p at e = sym (e ∙ ap (record_read n (length s) p at) (part_rest s at))

-- past a record, which is accepted
module _ (c : In_ok-r) where
  is : record_answer c.in_ok-h.h.nodes (length c.args.book.now) c.loop-i.prev c.loop-i.at (drop c.loop-i.at c.args.book.now) ≡ Accepted
      × (c.in_ok-r.r ≡ there c.in_ok-h.h.nodes (length c.args.book.now) c.loop-i.prev c.loop-i.at (drop c.loop-i.at c.args.book.now))
  is =
      let l = c.loop-i in record_given c.in_ok-h.h.nodes (length c.args.book.now) l.prev l.at (drop l.at c.args.book.now) (read c.args.book.now c.in_ok-h.h.nodes l.prev l.at c.in_ok-r.ensures)

pub returns-in_err-h-clause-answer : goal.returns-in_err-h-clause-answer
returns-in_err-h-clause-answer c =
    let s = c.args.book.now in
    let same : c.from_residual.result ≡ Err c.in_err-h.field-0.0 = search rules in
    same ∙ sym (book-refused s (sym (header_answer_lem s) ∙ ap answer_of (sym c.in_err-h.ensures)))

pub loop-i-init : goal.loop-i-init
loop-i-init c =
    let t = (goal.at.loop-i-init c).In_ok-h in
    let a = c.args in
    reading_start a.book.now (h t).nodes (h t).count a.m.now c.zero_link-prev.result c.requires c.zero_link-prev.ensures (header_accepted a.book.now (said t).0).four

pub slice_bounds-read_record-count : goal.slice_bounds-read_record-count
slice_bounds-read_record-count c = omega (arith, c.loop-i.invariant.within)

pub slice_bounds-read_record-start : goal.slice_bounds-read_record-start
slice_bounds-read_record-start c = search (rules, c.loop-i.invariant.within)

pub returns-in_err-r-clause-answer : goal.returns-in_err-r-clause-answer
returns-in_err-r-clause-answer c =
    let t = (goal.at.returns-in_err-r-clause-answer c).In_ok-h in
    let s = c.args.book.now in
    let l = c.loop-i in
    let n = c.in_ok-h.h.nodes in
    let same : c.from_residual-in_err-r.result ≡ Err c.in_err-r.field-0.0 = search rules in
    let refused : record_answer n (length s) l.prev l.at (drop l.at s) ≡ Err c.in_err-r.field-0.0
    = sym (read_answer_lem n (length s) l.prev l.at (drop l.at s)) ∙ ap answer_of (read s n l.prev l.at c.in_err-r.ensures) in
    same ∙ sym (decide t ∙ reading_refused s n c.in_ok-h.h.count l.m l.prev l.at l.i l.invariant c.loop-i-test.true refused)

pub bounds-m-i : goal.bounds-m-i
bounds-m-i c = omega (arith, few (goal.at.bounds-m-i c).In_ok-h, c.loop-i-test.true)

pub bounds-m-i-in-loop-i : goal.bounds-m-i-in-loop-i
bounds-m-i-in-loop-i c = omega (arith, few (goal.at.bounds-m-i-in-loop-i c).In_ok-h, c.loop-i-test.true)

pub overflow_add-at : goal.overflow_add-at
overflow_add-at c =
    let g = goal.at.overflow_add-at c in
    let r = is g.In_ok-r in
    let s = c.args.book.now in
    let l = c.loop-i in
    rw r.1
    (let w = reading_within s c.in_ok-h.h.nodes c.in_ok-h.h.count l.m l.prev l.at l.i l.invariant c.loop-i-test.true (few g.In_ok-h) r.0 in
    omega (arith, c.well_formed))

pub loop-i-preserved : goal.loop-i-preserved
loop-i-preserved c =
    let g = goal.at.loop-i-preserved c in
    let r = is g.In_ok-r in
    let l = c.loop-i in
    reading_turn c.args.book.now c.in_ok-h.h.nodes c.in_ok-h.h.count l.m l.prev l.at l.i l.invariant c.loop-i-test.true (few g.In_ok-h) r.0 r.1

pub returns-then-at-end-clause-answer : goal.returns-then-at-end-clause-answer
returns-then-at-end-clause-answer c =
    let t = (goal.at.returns-then-at-end-clause-answer c).In_ok-h in
    let l = c.loop-i in
    let over = reading_over (book t) (h t).nodes (h t).count l.m l.prev l.at l.i l.invariant c.loop-i-test.false in
    (rw (lt-leb _ _ c.if-at-end.true) at over) ∙ sym (decide t)

pub returns-clause-answer : goal.returns-clause-answer
returns-clause-answer c =
    let t = (goal.at.returns-clause-answer c).In_ok-h in
    let l = c.loop-i in
    let over = reading_over (book t) (h t).nodes (h t).count l.m l.prev l.at l.i l.invariant c.loop-i-test.false in
    (rw (le-leb _ _ c.if-at-end.false) at over) ∙ sym (decide t)

pub returns-clause-mesh : goal.returns-clause-mesh
returns-clause-mesh c told =
    let t = (goal.at.returns-clause-mesh c).In_ok-h in
    let l = c.loop-i in
    reading_mesh (book t) (h t).nodes (h t).count l.m l.prev l.at l.i l.invariant c.loop-i-test.false (said t).1 (said t).2
