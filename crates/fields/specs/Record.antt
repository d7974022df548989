-- One link's record in the book (01, "The book"; 02, request 4). Definitions only; a record's layout is said here alone.
use Rattle.std.specs.Prelude.{ℕ, ◌+◌, ◌^◌, List, [], ◌∷◌, Bool, cond, not, length, get_or, take, ltb, leb}
use Rattle.scan.specs.Bytes.{number}
use Rattle.mesh.specs.declared.Link.{Link}
use Rattle.mesh.specs.Answer.{Answer}
use Rattle.mesh.specs.Mesh.{must, zero_link, link_answer}
use Rattle.fields.specs.declared.Fields.{Fields}
use Rattle.fields.specs.Field.{Field, field, widths_of, sum, fields_bytes, bit_map, stands, extent, needless}

-- 01's and 02's table: the fields of a link after the link p, each with its bytes, its value and its value when absent
abbrev pub fields_of : Link → Fields → List Field
fields_of p f =
    field 1 f.low p.low
    ∷ field 1 f.high (f.low + 1)
    ∷ field 2 f.length 0
    ∷ field 4 f.pair 0
    ∷ field 2 f.duct 0
    ∷ []

-- the link with these fields; the high end need not fit a byte
abbrev pub as_link : Fields → Link
as_link f = record { low = f.low; high = f.high; length = f.length; pair = f.pair }

-- the fields of a link with this duct number
abbrev pub as_fields : Link → ℕ → Fields
as_fields l d = record { low = l.low; high = l.high; length = l.length; pair = l.pair; duct = d }

-- those of an entry past the last link
abbrev pub zero_fields : Fields
zero_fields = as_fields zero_link 0

-- the bytes of each field, in bit order
abbrev pub widths : List ℕ
widths = widths_of (fields_of zero_link zero_fields)

-- the bytes of a record with every field
abbrev pub longest_record : ℕ
longest_record = 1 + sum widths

-- the record of a link with these fields after p: a bit map byte, then only the fields whose bit stands
unfoldable pub record_of : Link → Fields → List ℕ
record_of p f = bit_map (fields_of p f) ∷ fields_bytes (fields_of p f)

-- a bit past that of the last field stands in the bit map
abbrev pub reserved : ℕ → Bool
reserved b = leb (2 ^ length widths) b

-- the length of a record with the bit map b: 1 plus the bytes of the fields whose bits stand; 0 where a reserved bit stands
unfoldable pub record_length : ℕ → ℕ
record_length b = cond (reserved b) 0 (1 + extent widths b)

-- field i of the record at the front of s: its bytes where its bit stands, else the absent value
abbrev pub field_at : List ℕ → ℕ → ℕ → ℕ
field_at s i absent =
    let b = get_or s 0 0 in
    cond (stands b i) (number (get_or widths i 0) s (1 + extent (take i widths) b)) absent

-- the fields of the record at the front of s, after the link p
unfoldable pub fields_at : Link → List ℕ → Fields
fields_at p s =
    let low = field_at s 0 p.low in
    record { low = low; high = field_at s 1 (low + 1); length = field_at s 2 0; pair = field_at s 3 0; duct = field_at s 4 0 }

-- reading the record at the front of s, which stands at `at` in a book of `end` bytes, after the link p: 1, 5, 1, 9, 7, 6, 8
unfoldable pub record_answer : ℕ → ℕ → Link → ℕ → List ℕ → Answer
record_answer n end p at s =
    must (ltb 0 (length s)) 1 end
    (must (not (reserved (get_or s 0 0))) 5 at
    (must (leb (record_length (get_or s 0 0)) (length s)) 1 end
    (must (not (needless (get_or s 0 0) (fields_of p (fields_at p s)))) 9 at
    (link_answer n p (as_link (fields_at p s)) at))))
