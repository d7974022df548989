-- What a mesh is written as, and what writing it gives (01, "The book" and "Order"). Definitions only.
use Rattle.std.specs.Prelude.{ℕ, ◌+◌, ◌*◌, List, [], ◌∷◌, ◌++◌, cond, length, take, leb, Option, Some, None, Result, Ok, Err}
use Rattle.scan.specs.Bytes.{bytes}
use Rattle.mesh.specs.declared.Link.{Link}
use Rattle.mesh.specs.declared.Mesh.{Mesh}
use Rattle.mesh.specs.declared.Reason.{Reason}
use Rattle.mesh.specs.Answer.{Answer, Accepted}
use Rattle.mesh.specs.Mesh.{must, and_then, output_as, zero_link, mesh_answer}
use Rattle.fields.specs.declared.Fields.{Fields}
use Rattle.fields.specs.Record.{as_link, longest_record, record_of}
use Rattle.fields.specs.Entries.{entries_of}

-- the version byte that is written
abbrev pub version : ℕ
version = 1

-- the records of links with these fields, in turn after the link p
unfoldable pub records_of : Link → List Fields → List ℕ
records_of p [] = []
records_of p (f ∷ fs) = record_of p f ++ records_of (as_link f) fs

-- the book of a mesh: version, N, L in two bytes, then L records
unfoldable pub book_of : Mesh → List ℕ
book_of m = version ∷ (m.nodes ∷ (bytes 2 m.count ++ records_of zero_link (take m.count (entries_of m))))

-- the bytes of a header and 256 records with every field
abbrev pub longest_book : ℕ
longest_book = 4 + 256 * longest_record

-- none where `room` bytes are enough for the book of m, else how many it has
abbrev pub lacking : Mesh → ℕ → Option ℕ
lacking m room = cond (leb (length (book_of m)) room) None (Some (length (book_of m)))

-- writing m to an output of `room` bytes: the mesh checks, then 11
unfoldable pub encode_answer : Mesh → ℕ → Answer
encode_answer m room =
    and_then (mesh_answer m)
    (must (leb (length (book_of m)) room) 11 (length (book_of m))
    Accepted)

abbrev pub written_as : Answer → ℕ → Result ℕ Reason
written_as Accepted n = Ok n
written_as (Err r) n = Err r

-- the length of the book where it was written, else the refusal
unfoldable pub written : Mesh → ℕ → Result ℕ Reason
written m room = written_as (encode_answer m room) (length (book_of m))

-- the output after writing m: the book, then the bytes past it as they were; on a refusal all as it was
unfoldable pub output_after : Mesh → List ℕ → List ℕ
output_after m out = output_as (encode_answer m (length out)) (book_of m) out
