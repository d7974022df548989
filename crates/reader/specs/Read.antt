-- What reading the header of a book and what reading one record give (01, "The book" and "Order"). Definitions only.
use Rattle.std.specs.Prelude.{ℕ, List, Bool, length, get_or, leb, eqb, Result, Ok, Err}
use Rattle.scan.specs.Bytes.{number}
use Rattle.mesh.specs.declared.Link.{Link}
use Rattle.mesh.specs.declared.Reason.{Reason}
use Rattle.mesh.specs.Answer.{Answer, Accepted}
use Rattle.mesh.specs.Mesh.{must, nodes_fit, count_fits}
use Rattle.fields.specs.declared.Fields.{Fields}
use Rattle.fields.specs.Record.{as_link, fields_at, record_length, record_answer}
use Rattle.reader.specs.declared.Header.{Header}
use Rattle.reader.specs.declared.Record.{Record}

-- the answer of what gives a value where it accepts
abbrev pub answer_of : {A : Type 0} → Result A Reason → Answer
answer_of (Ok x) = Accepted
answer_of (Err r) = Err r

-- ---- the header

-- the versions that are read
abbrev pub known_version : ℕ → Bool
known_version b = eqb b 1

-- the header of the book s: 1 (under 4 bytes), 2, 3, 4
unfoldable pub header_answer : List ℕ → Answer
header_answer s =
    must (leb 4 (length s)) 1 (length s)
    (must (known_version (get_or s 0 0)) 2 0
    (must (nodes_fit (get_or s 1 0)) 3 1
    (must (count_fits (number 2 s 2)) 4 2
    Accepted)))

abbrev pub header_as : Answer → ℕ → ℕ → Result Header Reason
header_as Accepted n k = Ok (record { nodes = n; count = k })
header_as (Err r) n k = Err r

-- N and L, else the refusal
unfoldable pub header_read : List ℕ → Result Header Reason
header_read s = header_as (header_answer s) (get_or s 1 0) (number 2 s 2)

-- ---- one record

abbrev pub record_as : Answer → Fields → ℕ → Result Record Reason
record_as Accepted f n = Ok (record { link = as_link f; duct = f.duct; length = n })
record_as (Err r) f n = Err r

-- the link, its duct number and the record's length, else the refusal
unfoldable pub record_read : ℕ → ℕ → Link → ℕ → List ℕ → Result Record Reason
record_read n end p at s = record_as (record_answer n end p at s) (fields_at p s) (record_length (get_or s 0 0))
