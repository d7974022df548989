-- Where records start in an accepted book. Serves the proofs of `record_start` and `find_record`. Assumes nothing.
use Rattle.std.specs.Prelude.{ℕ, zero, suc, ◌+◌, ◌-◌, ◌≤◌, ◌<◌, ◌≡◌, List, ltb, length, get_or, drop, Ok, Err}
use Rattle.std.proofs.Math.Path.{refl}
use Rattle.std.proofs.Common.{sym, ap, ◌∙◌, add-one, arith, length-drop, drop-drop}
use borrow.Author.Tests.{ltb-true, lt-ltb, le-ltb}
use Rattle.scan.specs.Part.{front}
use Rattle.scan.specs.Bytes.{number}
use Rattle.mesh.specs.declared.Link.{Link}
use Rattle.mesh.specs.declared.Reason.{Reason}
use Rattle.mesh.specs.Answer.{Accepted, Refused}
use Rattle.mesh.specs.Mesh.{zero_link}
use Rattle.mesh.specs.Laws.Answer.{must-accepted, and_then-accepted}
use Rattle.codec.specs.declared.locate.Span.{Span}
use Rattle.reader.specs.Read.{answer_of}
use Rattle.fields.specs.Record.{as_link, fields_at, record_length}
use Rattle.codec.specs.Book.{given_as, records_answer, book_answer, mesh_of, decoded, record_start, span_answer, span_of, span_given}
use Rattle.codec.proofs.Laws.Accepted.{records_accepted, book-accepted, decoded-mesh}
use Rattle.fields.specs.Laws.Record.{GoodRecord}
use Rattle.codec.proofs.Laws.Reading.{left-next}

-- from the start of record i on, the other records of the book are accepted
pub record Starts (s : List ℕ) (i : ℕ) : Type 0 where
  pub prev : Link
  pub answer : records_answer (get_or s 1 0) (length s) prev (record_start s i) (number 2 s 2 - i) (drop (record_start s i) s) ≡ Accepted

start-next : (s : List ℕ) (i : ℕ) → record_start s (suc i) ≡ record_start s i + record_length (get_or s (record_start s i) 0)
unfolding record_start
start-next s i = refl

module _ (s : List ℕ) (i : ℕ) (S : Starts s i) (few : i < number 2 s 2) where
  abbrev at : ℕ
  at = record_start s i

  split : GoodRecord (get_or s 1 0) S.prev at (drop at s)
      × (records_answer (get_or s 1 0) (length s) (as_link (fields_at S.prev (drop at s))) (at + record_length (get_or (drop at s) 0 0)) (number 2 s 2 - (i + 1))
      (drop (record_length (get_or (drop at s) 0 0)) (drop at s)) ≡ Accepted)
  split = records_accepted (get_or s 1 0) (length s) S.prev at (number 2 s 2 - (i + 1)) (drop at s) (rw (left-next (number 2 s 2) i few) at S.answer)

  -- record i is there, whole
  starts_within : (at < length s) × (at + record_length (get_or s at 0) ≤ length s)
  starts_within =
      let g = split.0 in
      let w : record_length (get_or s at 0) ≤ length (drop at s) = rw (front s at) at g.whole in
      (omega (arith, rw length-drop at g.some), omega (arith, rw length-drop at w, rw length-drop at g.some))

  starts_next : Starts s (suc i)
  starts_next = record {
    prev = as_link (fields_at S.prev (drop at s));
    answer = rw (start-next s i, ← drop-drop (record_length (get_or s at 0)) at s, ← add-one i) (rw (front s at) at split.1);
  }

starts : (s : List ℕ) → book_answer s ≡ Accepted → (i : ℕ) → i ≤ number 2 s 2 → Starts s i
unfolding record_start
starts s e zero h = record { prev = zero_link; answer = let z : number 2 s 2 - 0 ≡ number 2 s 2 = omega arith in rw z (book-accepted s e).1 }
starts s e (suc i) h = starts_next s i (starts s e i (omega arith)) (omega arith)

-- the record of link k is found
pub record Found (s : List ℕ) (k : ℕ) : Type 0 where
  pub accepted : book_answer s ≡ Accepted
  pub few : k < number 2 s 2

pub span-accepted : (s : List ℕ) (k : ℕ) → span_answer s k ≡ Accepted → Found s k
unfolding span_answer
span-accepted s k e =
    let (accepted, e1) = and_then-accepted (book_answer s) _ e in
    let (few, e2) = must-accepted (ltb k (number 2 s 2)) _ _ _ e1 in
    record { accepted = accepted; few = ltb-true _ _ few }

-- each record up to link k's is there, whole
pub start_within : (s : List ℕ) (k : ℕ) → span_answer s k ≡ Accepted → (i : ℕ) → i ≤ k
    → (record_start s i < length s) × (record_start s i + record_length (get_or s (record_start s i) 0) ≤ length s)
start_within s k e i h =
    let f = span-accepted s k e in
    let few : i < number 2 s 2 = omega (arith, f.few) in
    starts_within s i (starts s f.accepted i (omega arith)) few

pub start-step : (s : List ℕ) (i : ℕ) → record_start s (i + 1) ≡ record_start s i + record_length (get_or s (record_start s i) 0)
start-step s i = rw (add-one i) (start-next s i)

pub start_first : (s : List ℕ) → record_start s 0 ≡ 4
unfolding record_start
start_first s = refl

-- ---- the answers

-- the links of a book that is read
pub decoded-count : (s : List ℕ) → (decoded s).answer ≡ Accepted → (decoded s).mesh.count ≡ number 2 s 2
unfolding mesh_of
decoded-count s e = rw (decoded-mesh s e).1

pub mesh_of-count : (s : List ℕ) → (mesh_of s).count ≡ number 2 s 2
unfolding mesh_of
mesh_of-count s = refl

module _ (s : List ℕ) (k : ℕ) where
  -- reading is refused, there is no such link, or there is
  pub span-unread : {r : Reason} → book_answer s ≡ Err r → span_answer s k ≡ Err r
  unfolding span_answer
  span-unread e = rw e

  pub span_none : book_answer s ≡ Accepted → number 2 s 2 ≤ k → span_answer s k ≡ Refused 12 k
  unfolding span_answer
  span_none e h = rw (e, le-ltb _ _ h)

  pub span-some : book_answer s ≡ Accepted → k < number 2 s 2 → span_answer s k ≡ Accepted
  unfolding span_answer
  span-some e h = rw (e, lt-ltb _ _ h)

  -- what finding gives of a refusal, and of a record
  pub span-refused : {r : Reason} → span_answer s k ≡ Err r → Err r ≡ span_given s k
  unfolding span_given
  span-refused e = rw e

  pub span_found : (start : ℕ) → span_answer s k ≡ Accepted → start ≡ record_start s k
      → Ok (record { start = start; end = start + record_length (get_or s start 0) }) ≡ span_given s k
  unfolding span_given span_of
  span_found start e q = rw (e, q)

  -- its answer
  pub span-answer : answer_of (span_given s k) ≡ span_answer s k
  unfolding span_given
  span-answer = elim (span_answer s k) as (λ a. answer_of (given_as a (span_of s k)) ≡ a) [ Accepted ↦ refl | Err _ ↦ refl ]

  -- a span that is given lies within the book
  pub span_told : {p : Span} → Ok p ≡ span_given s k → (p ≡ span_of s k) × (p.start ≤ p.end) × (p.end ≤ length s)
  unfolding span_of
  span_told {p} e =
      let ok : span_answer s k ≡ Accepted = sym span-answer ∙ ap answer_of (sym e) in
      let start = record_start s k in
      let there : Span = record { start = start; end = start + record_length (get_or s start 0) } in
      let both : Ok p ≡ Ok there = e ∙ sym (span_found start ok refl) in
      let same : p ≡ there = cc in
      let whole = (start_within s k ok k (omega arith)).1 in
      (same ∙ rw ok, rw same (omega arith), rw same whole)

  -- the empty span where none is given
  pub span_empty : {r : Reason} → Err r ≡ span_given s k → span_of s k ≡ record { start = 0; end = 0 }
  unfolding span_of
  span_empty {r} e = let refused : span_answer s k ≡ Err r = sym span-answer ∙ ap answer_of (sym e) in rw refused
