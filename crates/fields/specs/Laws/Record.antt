-- One record: its length, what an accepted one has, that what was written is read and what was read is written, and that bytes past it change
-- nothing. Assumes nothing.
use Rattle.std.specs.Prelude.{ℕ, zero, suc, ◌+◌, ◌^◌, ◌≤◌, ◌<◌, ◌≡◌, List, ◌++◌, false, not, ltb, leb, take, drop}
use Rattle.std.proofs.Math.Path.{refl, ap}
use Rattle.std.proofs.Common.{◌∙◌, arith}
use Rattle.std.proofs.Math.Nat.{one-le-pow}
use borrow.Author.Tests.{ltb-true, leb-true, leb-false, lt-ltb, le-leb, lt-leb, not-true}
use Rattle.std.proofs.Math.ListN.{length, get_or, length-append, get_or-append}
use Rattle.std.proofs.Math.Seq.{take-add, take-suc, take_at, drop_at}
use Rattle.scan.specs.Bytes.{AreBytes, number_below, number_append}
use Rattle.scan.specs.Test.{branch}
use Rattle.mesh.specs.declared.Link.{Link}
use Rattle.mesh.specs.Answer.{Accepted}
use Rattle.mesh.specs.Mesh.{link_answer}
use Rattle.mesh.specs.WellFormed.{LinkInRange}
use Rattle.mesh.specs.Laws.Answer.{must-accepted}
use Rattle.mesh.specs.Laws.GoodMesh.{ends_below}
use Rattle.fields.specs.Field.{bit_map, stands, extent, needless}
use Rattle.fields.specs.declared.Fields.{Fields}
use Rattle.fields.specs.Record.{as_link, widths, longest_record, fields_of, field_at, record_of, reserved, record_length, fields_at, record_answer}
use Rattle.fields.specs.Laws.Fields.{Fits, AsRead, extent_most, field_most, bit_map_below, length_fields, fields-written, none_needless, fields_read}

-- ---- its length

pub record_length_most : (b : ℕ) → record_length b ≤ longest_record
unfolding record_length
record_length_most b = branch (λ (v : ℕ). v ≤ longest_record) (reserved b) (λ e. omega arith) (λ e. omega (arith, extent_most widths b))

field_within : (i b : ℕ) → 1 + extent (take i widths) b + get_or widths i 0 ≤ longest_record
field_within i b = omega (arith, field_most widths i b)

-- no bit map that is written has a reserved bit
pub map_unreserved : (p : Link) (f : Fields) → reserved (bit_map (fields_of p f)) ≡ false
map_unreserved p f = lt-leb _ _ (bit_map_below (fields_of p f))

pub length_record : (p : Link) (f : Fields) → length (record_of p f) ≡ record_length (bit_map (fields_of p f))
unfolding record_of record_length
length_record p f = rw (map_unreserved p f, length_fields (fields_of p f)) (omega arith)

pub record_most : (p : Link) (f : Fields) → length (record_of p f) ≤ longest_record
record_most p f = rw (length_record p f) (record_length_most (bit_map (fields_of p f)))

-- ---- what was written is read

-- the ranges of the fields: those of a link, and a duct number of 16 bits
abbrev pub FieldsInRange : Fields → Type 0
FieldsInRange f = LinkInRange (as_link f) × (f.duct < 65536)

-- fields in range fit their bytes
fields_fit : (p : Link) (f : Fields) → FieldsInRange f → Fits (fields_of p f)
fields_fit p f r zero h = r.0.low
fields_fit p f r (suc zero) h = r.0.high
fields_fit p f r (suc (suc zero)) h = r.0.length
fields_fit p f r (suc (suc (suc zero))) h = r.0.pair
fields_fit p f r (suc (suc (suc (suc zero)))) h = r.1
fields_fit p f r (suc (suc (suc (suc (suc i))))) h = absurd (omega arith)

module _ (p : Link) (f : Fields) (rest : List ℕ) where
  written : FieldsInRange f → AsRead (record_of p f ++ rest) 1 (bit_map (fields_of p f)) (fields_of p f)
  unfolding record_of
  written r = fields-written (fields_of p f) (record_of p f ++ rest) 1 rest refl (fields_fit p f r)

  -- the fields are read
  pub fields_again : FieldsInRange f → fields_at p (record_of p f ++ rest) ≡ f
  unfolding record_of fields_at
  fields_again r =
      let s = record_of p f ++ rest in
      let low : field_at s 0 p.low ≡ f.low = written r 0 (omega arith) in
      λ j. record {
        low = low j;
        high = (ap (λ (x : ℕ). field_at s 1 (x + 1)) low ∙ written r 1 (omega arith)) j;
        length = written r 2 (omega arith) j;
        pair = written r 3 (omega arith) j;
        duct = written r 4 (omega arith) j;
      }

  -- the only refusals that such a record can meet are the link's own
  pub record_written : (n end at : ℕ) → FieldsInRange f → record_answer n end p at (record_of p f ++ rest) ≡ link_answer n p (as_link f) at
  unfolding record_of record_answer
  record_written n end at r =
      let s = record_of p f ++ rest in
      let b = record_length (bit_map (fields_of p f)) in
      let whole : length s ≡ b + length rest = length-append (record_of p f) rest ∙ ap (λ (k : ℕ). k + length rest) (length_record p f) in
      rw (lt-ltb 0 (length s) (omega arith), map_unreserved p f, le-leb b (length s) (omega arith), fields_again r, none_needless (fields_of p f))

  -- its bytes, and what follows
  pub record_taken : take (record_length (get_or (record_of p f ++ rest) 0 0)) (record_of p f ++ rest) ≡ record_of p f
  unfolding record_of
  record_taken = take_at (record_of p f) rest _ (length_record p f)

  pub record_dropped : drop (record_length (get_or (record_of p f ++ rest) 0 0)) (record_of p f ++ rest) ≡ rest
  unfolding record_of
  record_dropped = drop_at (record_of p f) rest _ (length_record p f)

-- ---- what was read is written

-- the record at the front of s, after the link p, meets no refusal
pub record GoodRecord (n : ℕ) (p : Link) (at : ℕ) (s : List ℕ) : Type 0 where
  pub some : 0 < length s
  pub unreserved : reserved (get_or s 0 0) ≡ false
  pub whole : record_length (get_or s 0 0) ≤ length s
  pub needed : needless (get_or s 0 0) (fields_of p (fields_at p s)) ≡ false
  pub fits : link_answer n p (as_link (fields_at p s)) at ≡ Accepted

pub record_accepted : (n end : ℕ) (p : Link) (at : ℕ) (s : List ℕ) → record_answer n end p at s ≡ Accepted → GoodRecord n p at s
unfolding record_answer
record_accepted n end p at s e =
    let (some, e1) = must-accepted (ltb 0 (length s)) _ _ _ e in
    let (open', e2) = must-accepted (not (reserved (get_or s 0 0))) _ _ _ e1 in
    let (whole, e3) = must-accepted (leb (record_length (get_or s 0 0)) (length s)) _ _ _ e2 in
    let (needed, e4) = must-accepted (not (needless (get_or s 0 0) (fields_of p (fields_at p s)))) _ _ _ e3 in
    record { some = ltb-true _ _ some; unreserved = not-true _ open'; whole = leb-true _ _ whole; needed = not-true _ needed; fits = e4 }

-- each of the fields that are read is what reading finds
pub as_read : (p : Link) (s : List ℕ) → AsRead s 1 (get_or s 0 0) (fields_of p (fields_at p s))
unfolding fields_at
as_read p s zero h = refl
as_read p s (suc zero) h = refl
as_read p s (suc (suc zero)) h = refl
as_read p s (suc (suc (suc zero))) h = refl
as_read p s (suc (suc (suc (suc zero)))) h = refl
as_read p s (suc (suc (suc (suc (suc i))))) h = absurd (omega arith)

-- a field that is 0 where it is absent fits its bytes
field_below : (s : List ℕ) → AreBytes s → (i : ℕ) → field_at s i 0 < 256 ^ get_or widths i 0
field_below s small i =
    let w = get_or widths i 0 in
    branch (λ (v : ℕ). v < 256 ^ w) (stands (get_or s 0 0) i)
    (λ e. number_below w s (1 + extent (take i widths) (get_or s 0 0)) small)
    (λ e. one-le-pow w 256 (omega arith))

module _ (n : ℕ) (p : Link) (at : ℕ) (s : List ℕ) (small : AreBytes s) (g : GoodRecord n p at s) where
  -- the record is that of the fields that are read
  pub record_read_lem : record_of p (fields_at p s) ≡ take (record_length (get_or s 0 0)) s
  unfolding record_of record_length
  record_read_lem =
      let b = get_or s 0 0 in
      let size : record_length b ≡ 1 + extent widths b = rw g.unreserved in
      let (x, y) = fields_read (fields_of p (fields_at p s)) s 1 b small (leb-false _ b g.unreserved) (omega (arith, g.whole)) g.needed (as_read p s) in
      rw (size, x, y, take-add 1 (extent widths b) s, take-suc s 0 0 g.some)

  -- the ends are nodes, and there are at most 64
  pub fields_in_range : n ≤ 64 → FieldsInRange (fields_at p s)
  unfolding fields_at
  fields_in_range h =
      let (low, high) = ends_below n p (as_link (fields_at p s)) at g.fits in
      (record { low = omega arith; high = omega arith; length = field_below s small 2; pair = field_below s small 3 }, field_below s small 4)

-- ---- bytes past it

module _ (s more : List ℕ) (h : longest_record ≤ length s) where
  pub map-append : get_or (s ++ more) 0 0 ≡ get_or s 0 0
  map-append = get_or-append s more 0 0 (omega arith)

  field-append : (i absent : ℕ) → field_at (s ++ more) i absent ≡ field_at s i absent
  field-append i absent =
      let b = get_or s 0 0 in
      rw (map-append, number_append (get_or widths i 0) s more (1 + extent (take i widths) b) (omega (arith, field_within i b)))

  pub fields-append : (p : Link) → fields_at p (s ++ more) ≡ fields_at p s
  unfolding fields_at
  fields-append p = rw (field-append 0 p.low, field-append 1 (field_at s 0 p.low + 1), field-append 2 0, field-append 3 0, field-append 4 0)

  -- the record is whole, so the length of the book does not count
  pub record_append : (n end end' : ℕ) (p : Link) (at : ℕ) → record_answer n end' p at (s ++ more) ≡ record_answer n end p at s
  unfolding record_answer
  record_append n end end' p at =
      let b = record_length (get_or s 0 0) in
      let most = record_length_most (get_or s 0 0) in
      rw (length-append s more, map-append, fields-append p)
      (rw (lt-ltb 0 (length s) (omega arith), le-leb b (length s) (omega arith))
      (rw (lt-ltb 0 (length s + length more) (omega arith), le-leb b (length s + length more) (omega arith))))
