-- What an accepted book has. Assumes nothing.
use Rattle.std.specs.Prelude.{ℕ, suc, ◌+◌, ◌≡◌, refl, List, length, get_or, drop, Err}
use Rattle.std.proofs.Common.{sym, ◌∙◌}
use Rattle.scan.specs.Bytes.{number}
use Rattle.mesh.specs.declared.Link.{Link}
use Rattle.mesh.specs.Answer.{Accepted}
use Rattle.mesh.specs.Mesh.{zero_link}
use Rattle.mesh.specs.Laws.Answer.{and_then-accepted}
use Rattle.fields.specs.Record.{as_link, fields_at, record_length, record_answer}
use Rattle.codec.specs.Book.{decoded_as, header_answer, records_answer, book_answer, mesh_of, decoded}
use Rattle.fields.specs.Laws.Record.{GoodRecord, record_accepted}
use Rattle.reader.specs.Laws.Header.{GoodHeader, header_accepted}

-- at least one record is read, and then the others
pub records_accepted : (n end : ℕ) (p : Link) (at k : ℕ) (s : List ℕ) → records_answer n end p at (suc k) s ≡ Accepted
    → GoodRecord n p at s
    × (records_answer n end (as_link (fields_at p s)) (at + record_length (get_or s 0 0)) k (drop (record_length (get_or s 0 0)) s) ≡ Accepted)
unfolding records_answer
records_accepted n end p at k s e =
    let (first, rest) = and_then-accepted (record_answer n end p at s) _ e in
    (record_accepted n end p at s first, rest)

-- the whole book is read
pub book-accepted : (s : List ℕ) → book_answer s ≡ Accepted
    → GoodHeader s × (records_answer (get_or s 1 0) (length s) zero_link 4 (number 2 s 2) (drop 4 s) ≡ Accepted)
unfolding book_answer
book-accepted s e = let (header, rest) = and_then-accepted (header_answer s) _ e in (header_accepted s header, rest)

-- ---- what reading gives

pub decoded-answer : (s : List ℕ) → (decoded s).answer ≡ book_answer s
unfolding decoded
decoded-answer s = elim (book_answer s) as (λ a. (decoded_as a (mesh_of s)).answer ≡ a) [ Accepted ↦ refl | Err _ ↦ refl ]

-- an accepted book is read, and its mesh is given
pub decoded-mesh : (s : List ℕ) → (decoded s).answer ≡ Accepted
    → (book_answer s ≡ Accepted) × (decoded s ≡ record { mesh = mesh_of s; answer = Accepted })
unfolding decoded
decoded-mesh s e =
    let a = sym (decoded-answer s) ∙ e in
    (a, rw a)
