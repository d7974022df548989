-- The length of a book, and the ways out of writing it. Assumes nothing.
use Rattle.std.specs.Prelude.{ℕ, ◌+◌, ◌*◌, ◌≤◌, ◌<◌, ◌≡◌, List, [], ◌∷◌, leb, take, Option, Some, None, Result, Ok, Err}
use Rattle.std.proofs.Common.{◌∙◌, arith, length-append, length-take}
use borrow.Author.Tests.{leb-true, leb-false, le-leb, lt-leb}
use Rattle.std.proofs.Math.ListN.{length}
use Rattle.std.proofs.lemmas.List.Edits.{sets}
use Rattle.scan.specs.Test.{branch}
use Rattle.scan.specs.Store.{sets_front}
use Rattle.mesh.specs.declared.Link.{Link}
use Rattle.mesh.specs.declared.Mesh.{Mesh}
use Rattle.mesh.specs.declared.Reason.{Reason}
use Rattle.mesh.specs.Answer.{Accepted, Refused}
use Rattle.mesh.specs.Mesh.{zero_link, mesh_answer}
use Rattle.fields.specs.declared.Fields.{Fields}
use Rattle.fields.specs.Record.{as_link, longest_record, record_of}
use Rattle.fields.specs.Entries.{entries_of}
use Rattle.fields.specs.Laws.Record.{record_most}
use Rattle.writer.specs.Written.{records_of, book_of, longest_book, lacking, encode_answer, written, output_after}

-- the header takes four bytes
pub length-book : (m : Mesh) → length (book_of m) ≡ 4 + length (records_of zero_link (take m.count (entries_of m)))
unfolding book_of
length-book m = omega arith

records_most : (p : Link) (fs : List Fields) → length (records_of p fs) ≤ longest_record * length fs
unfolding records_of
records_most p [] = omega arith
records_most p (f ∷ fs) =
    rw (length-append (record_of p f) (records_of (as_link f) fs)) (omega (arith, record_most p f, records_most (as_link f) fs))

-- no book is longer than the longest
pub book_within : (m : Mesh) → m.count ≤ 256 → length (book_of m) ≤ longest_book
book_within m h =
    omega (arith, length-book m, records_most zero_link (take m.count (entries_of m)), length-take m.count (entries_of m))

-- ---- the ways out of `write_book`

-- the output is short, or long enough
pub lacks : (m : Mesh) (room n : ℕ) → Some n ≡ lacking m room → (room < length (book_of m)) × (n ≡ length (book_of m))
lacks m room n e =
    branch (λ (v : Option ℕ). Some n ≡ v → (room < length (book_of m)) × (n ≡ length (book_of m))) (leb (length (book_of m)) room)
    (λ t q. cc)
    (λ t q. (leb-false _ _ t, cc))
    e

pub fits : (m : Mesh) (room : ℕ) → None ≡ lacking m room → length (book_of m) ≤ room
fits m room e =
    branch (λ (v : Option ℕ). None ≡ v → length (book_of m) ≤ room) (leb (length (book_of m)) room)
    (λ t q. leb-true _ _ t)
    (λ t q. cc)
    e

-- the result r and the output `after` are what writing m to `out` gives
abbrev pub Writes : Mesh → List ℕ → Result ℕ Reason → List ℕ → Type 0
Writes m out r after = (r ≡ written m (length out)) × (after ≡ output_after m out)

module _ (m : Mesh) (out : List ℕ) where
  -- the mesh is refused
  pub write_refused : {r : Reason} → mesh_answer m ≡ Err r → Writes m out (Err r) out
  unfolding written output_after encode_answer
  write_refused h = (rw h, rw h)

  module _ (h : mesh_answer m ≡ Accepted) where
    -- the output is short
    pub write_short : (n : ℕ) → Some n ≡ lacking m (length out) → Writes m out (Refused 11 n) out
    unfolding written output_after encode_answer
    write_short n q =
        let (less, size) = lacks m (length out) n q in
        let short = lt-leb _ _ less in
        (rw (h, short, size), rw (h, short))

    -- the book is stored
    pub write_done : None ≡ lacking m (length out) → (at : ℕ) → at ≡ length (book_of m) → {after : List ℕ} → after ≡ sets out 0 (book_of m)
        → Writes m out (Ok at) after
    unfolding written output_after encode_answer
    write_done q at e s =
        let room = fits m (length out) q in
        let enough = le-leb _ _ room in
        (rw (h, enough, e), s ∙ (sets_front (book_of m) out room ∙ rw (h, enough)))
