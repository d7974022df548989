-- The book: what a mesh is written as, what reading gives, and the bytes of one record (01, "The book" and "Order"). Definitions only.
use Rattle.std.specs.Prelude.{ℕ, zero, suc, ◌+◌, ◌-◌, List, [], ◌∷◌, ◌++◌, length, get_or, take, drop, replicate, ltb, eqb, Result, Ok, Err}
use Rattle.scan.specs.Bytes.{number}
use Rattle.mesh.specs.declared.Link.{Link}
use Rattle.mesh.specs.declared.Mesh.{Mesh}
use Rattle.mesh.specs.declared.Reason.{Reason}
use Rattle.mesh.specs.Answer.{Answer, Accepted, Refused}
use Rattle.mesh.specs.Mesh.{must, and_then, zero_link, zero_mesh}
use Rattle.codec.specs.declared.Decoded.{Decoded}
use Rattle.codec.specs.declared.Encoded.{Encoded}
use Rattle.codec.specs.declared.locate.Span.{Span}
use Rattle.fields.specs.declared.Fields.{Fields}
use Rattle.fields.specs.Record.{as_link, zero_fields, record_length, fields_at, record_answer}
use Rattle.fields.specs.Entries.{mesh_with}
-- what a mesh is written as, and the header, are defined in the crates that write and read them
pub use Rattle.writer.specs.Written.{version, longest_book}
unfoldable pub use Rattle.writer.specs.Written.{records_of, book_of, encode_answer, written, output_after}
unfoldable pub use Rattle.reader.specs.Read.{header_answer}

-- ---- writing

abbrev pub encoded_as : Result ℕ Reason → Encoded
encoded_as (Ok n) = record { length = n; answer = Accepted }
encoded_as (Err r) = record { length = 0; answer = Refused r.number r.place }

-- what writing m to an output of `room` bytes gives: the answer, with the length of the book where it was written and 0 on a refusal
unfoldable pub encoded : Mesh → ℕ → Encoded
encoded m room = encoded_as (written m room)

-- ---- reading

-- k records at the front of s, which stands at `at` in a book of `end` bytes, after the link p; then 10
unfoldable pub records_answer : ℕ → ℕ → Link → ℕ → ℕ → List ℕ → Answer
records_answer n end p at zero s = must (eqb (length s) 0) 10 at Accepted
records_answer n end p at (suc k) s =
    and_then (record_answer n end p at s)
    (records_answer n end (as_link (fields_at p s)) (at + record_length (get_or s 0 0)) k (drop (record_length (get_or s 0 0)) s))

-- the fields of these records
unfoldable pub fields_from : Link → ℕ → List ℕ → List Fields
fields_from p zero s = []
fields_from p (suc k) s = fields_at p s ∷ fields_from (as_link (fields_at p s)) k (drop (record_length (get_or s 0 0)) s)

-- reading the book s
unfoldable pub book_answer : List ℕ → Answer
book_answer s =
    and_then (header_answer s)
    (records_answer (get_or s 1 0) (length s) zero_link 4 (number 2 s 2) (drop 4 s))

-- the mesh that the book s says: the links of its records, then entries that are all zero
unfoldable pub mesh_of : List ℕ → Mesh
mesh_of s = mesh_with (get_or s 1 0) (number 2 s 2) (fields_from zero_link (number 2 s 2) (drop 4 s) ++ replicate (256 - number 2 s 2) zero_fields)

abbrev pub decoded_as : Answer → Mesh → Decoded
decoded_as Accepted m = record { mesh = m; answer = Accepted }
decoded_as (Err r) m = record { mesh = zero_mesh; answer = Refused r.number r.place }

-- what reading gives: the answer and the mesh, the all-zero mesh on a refusal
unfoldable pub decoded : List ℕ → Decoded
decoded s = decoded_as (book_answer s) (mesh_of s)

-- ---- one record

-- where the record of link k starts in the book s
unfoldable pub record_start : List ℕ → ℕ → ℕ
record_start s zero = 4
record_start s (suc k) = record_start s k + record_length (get_or s (record_start s k) 0)

-- showing the record of link k: reading, then 12
unfoldable pub span_answer : List ℕ → ℕ → Answer
span_answer s k =
    and_then (book_answer s)
    (must (ltb k (number 2 s 2)) 12 k
    Accepted)

abbrev pub span_as : Answer → ℕ → ℕ → Span
span_as Accepted start length = record { start = start; end = start + length }
span_as (Err r) start length = record { start = 0; end = 0 }

-- the record's start and end in the book, both 0 on a refusal
unfoldable pub span_of : List ℕ → ℕ → Span
span_of s k = span_as (span_answer s k) (record_start s k) (record_length (get_or s (record_start s k) 0))

abbrev pub given_as : Answer → Span → Result Span Reason
given_as Accepted p = Ok p
given_as (Err r) p = Err r

-- the record's start and end in the book, else the refusal
unfoldable pub span_given : List ℕ → ℕ → Result Span Reason
span_given s k = given_as (span_answer s k) (span_of s k)

-- the bytes of the record of link k as they stand in the book, the empty part on a refusal
unfoldable pub record_part : List ℕ → ℕ → List ℕ
record_part s k = take ((span_of s k).end - (span_of s k).start) (drop (span_of s k).start s)

-- the pointer n bytes past the pointer p: the same block of memory, n bytes further on
abbrev pub offset : ℕ → ℕ × ℕ → ℕ × ℕ
offset n p = (p.0, n + p.1)
