-- `reader::read_record` meets its contract: each return rewrites `record_answer` with the tests that led there. The test of
-- bit maps stands for refusal 9 by `record_needed`.
use Rattle.std.specs.Prelude.{Err}
use Rattle.std.proofs.Common.{rules}
use mathlib.Core.Path.{◌≡◌, sym, ap, ◌∙◌}
use native.Mathlib.Omega.{arith}
use lib.Dec.{eqb}
use lib.ListN.{length, get_or}
use borrow.Author.Tests.{lt-ltb, le-ltb, le-leb, lt-leb, eq-eqb, ne_eqb}
use Rattle.mesh.specs.Answer.{Accepted}
use Rattle.mesh.specs.Mesh.{must, link_answer}
use Rattle.mesh.specs.Laws.Ends.{ends-accepted}
use Rattle.fields.specs.Field.{bit_map}
use Rattle.fields.specs.declared.Fields.{Fields}
use Rattle.fields.specs.Record.{as_link, fields_of, fields_at, record_length, record_answer}
use Rattle.fields.specs.Laws.Needless.{record_needed}
use Rattle.reader.specs.Laws.Read.{read_refused, read_accepted}
use Rattle.reader.proofs.read_record.Goals as goal
use Rattle.reader.proofs.read_record.Goals.{Else-s-length, After-bit_map, After-ends_answer}

-- all bytes of the record are there: its bit map and its ends are left to test
whole : (c : Else-s-length)
    → let a = c.args in
    record_answer a.nodes a.end a.prev a.at a.s.now
    ≡ must (eqb (bit_map (fields_of a.prev (fields_at a.prev a.s.now))) (get_or a.s.now 0 0)) 9 a.at
    (link_answer a.nodes a.prev (as_link (fields_at a.prev a.s.now)) a.at)
unfolding record_answer
whole c =
    let a = c.args in
    let s = a.s.now in
    simp (
      lt-ltb 0 (length s) (omega arith),
      sym c.if-reserved.ensures,
      le-leb (record_length (get_or s 0 0)) (length s) (omega arith),
      record_needed a.prev s (sym c.if-reserved.ensures),
    )

-- the bit map that is compared is the one that the fields read would be written with
read-map : (c : After-bit_map) → c.bit_map.result ≡ bit_map (fields_of c.args.prev (fields_at c.args.prev c.args.s.now))
read-map c = c.bit_map.ensures ∙ ap (λ (f : Fields). bit_map (fields_of c.args.prev f)) c.fields_at-f.ensures

-- no field is needless, so the ends decide
ends-decide : (c : After-ends_answer) → let a = c.args in record_answer a.nodes a.end a.prev a.at a.s.now ≡ c.ends_answer.result
ends-decide c =
    let a = c.args in
    let g = goal.at.After-ends_answer c in
    whole g.Else-s-length
    ∙ rw (eq-eqb _ (get_or a.s.now 0 0) (sym (read-map g.After-bit_map) ∙ c.if-bit_map-b.false))
    (sym (c.ends_answer.ensures ∙ ap (λ (f : Fields). link_answer a.nodes a.prev (as_link f) a.at) c.fields_at-f.ensures))

pub returns-then-s-eq0 : goal.returns-then-s-eq0
unfolding record_answer
returns-then-s-eq0 c = c.refused.ensures ∙ read_refused _ _ _ _ _ (rw (le-ltb 0 (length c.args.s.now) (omega arith)))

pub returns-then-reserved : goal.returns-then-reserved
unfolding record_answer
returns-then-reserved c =
    let s = c.args.s.now in
    c.refused-then-reserved.ensures ∙ read_refused _ _ _ _ _ (simp (lt-ltb 0 (length s) (omega arith), sym c.if-reserved.ensures))

pub returns-then-s-length : goal.returns-then-s-length
unfolding record_answer
returns-then-s-length c =
    let s = c.args.s.now in
    c.refused-then-s-length.ensures
    ∙ read_refused _ _ _ _ _ (simp (lt-ltb 0 (length s) (omega arith), sym c.if-reserved.ensures, lt-leb (record_length (get_or s 0 0)) (length s) (omega arith)))

pub returns-then-bit_map-b : goal.returns-then-bit_map-b
returns-then-bit_map-b c =
    let s = c.args.s.now in
    let g = goal.at.returns-then-bit_map-b c in
    c.refused-then-bit_map-b.ensures
    ∙ read_refused _ _ _ _ _ (whole g.Else-s-length ∙ rw (ne_eqb _ (get_or s 0 0) (λ e. c.if-bit_map-b.true (read-map g.After-bit_map ∙ e))))

pub returns-in_err-ends_answer : goal.returns-in_err-ends_answer
returns-in_err-ends_answer c =
    let same : c.from_residual.result ≡ Err c.in_err-ends_answer.field-0.0 = search rules in
    same ∙ read_refused _ _ _ _ _ (ends-decide (goal.at.returns-in_err-ends_answer c).After-ends_answer ∙ c.in_err-ends_answer.was)

pub narrowed-requires : goal.narrowed-requires
narrowed-requires c =
    let f = c.fields_at-f.result in
    let (apart, inside, after) = (ends-accepted _ _ _ f.low f.high _).0 (sym c.ends_answer.ensures ∙ c.in_ok-ends_answer.was) in
    omega (arith, c.well_formed)

pub returns : goal.returns
returns c =
    let e : record_answer _ _ _ _ _ ≡ Accepted = ends-decide (goal.at.returns c).After-ends_answer ∙ c.in_ok-ends_answer.was in
    rw (c.narrowed.ensures, c.fields_at-f.ensures, c.record_length-length.ensures.value) (read_accepted _ _ _ _ _ e)
