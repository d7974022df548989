-- What was written is read: the records of links that pass the checks, and the book of a mesh that passes them. Assumes nothing.
use Rattle.std.specs.Prelude.{ℕ, suc, ◌+◌, ◌-◌, ◌≤◌, ◌≡◌, List, [], ◌∷◌, ◌++◌, map, length, get_or, take, drop, Err}
use Rattle.std.proofs.Math.Path.{refl}
use Rattle.std.proofs.Common.{sym, ap, ◌∙◌, arith, leb-true, le-leb, length-drop, take-append-drop, length-take-le}
use Rattle.std.proofs.Math.ListN.{replicate}
use Rattle.std.proofs.Math.Seq.{take-append_seam}
use Rattle.scan.specs.Part.{each-taken, map-take}
use Rattle.scan.specs.Bytes.{number, number-bytes}
use Rattle.mesh.specs.declared.Link.{Link}
use Rattle.mesh.specs.declared.Mesh.{Mesh}
use Rattle.mesh.specs.Answer.{Accepted}
use Rattle.mesh.specs.Mesh.{zero_link, link_answer, links_answer, mesh_answer}
use Rattle.mesh.specs.WellFormed.{InRange}
use Rattle.mesh.specs.Laws.Answer.{and_then-accepted}
use Rattle.mesh.specs.Laws.Checked.{passes}
use Rattle.fields.specs.declared.Fields.{Fields}
use Rattle.fields.specs.Record.{as_link, zero_fields, record_of, record_length}
use Rattle.fields.specs.Entries.{entries_of}
use Rattle.fields.specs.Laws.Entries.{Even, drop-joined, zero-joined, mesh-entries, length-entries, entry_is}
use Rattle.writer.specs.Written.{written_as}
use Rattle.codec.specs.Book.{longest_book, records_of, book_of, encode_answer, written, encoded_as, encoded, output_after}
use Rattle.codec.specs.Book.{records_answer, fields_from, header_answer, book_answer, mesh_of, decoded}
use Rattle.mesh.specs.Laws.Zeros.{zero_links, no_ducts}
use Rattle.mesh.specs.Laws.GoodMesh.{link_anywhere, GoodMesh, mesh-accepted}
use Rattle.writer.specs.Laws.Length.{book_within}
use Rattle.fields.specs.Laws.Record.{FieldsInRange, fields_again, record_written, record_dropped}

-- ---- the records of a list of fields

-- the fields of a list are in range
abbrev EachInRange : List Fields → Type 0
EachInRange fs = (i : ℕ) → FieldsInRange (get_or fs i zero_fields)

-- records of accepted links are accepted, and their fields are read
pub records_written : (n end : ℕ) (p : Link) (at i : ℕ) (fs : List Fields) → links_answer n p i (map as_link fs) ≡ Accepted → EachInRange fs
    → (records_answer n end p at (length fs) (records_of p fs) ≡ Accepted) × (fields_from p (length fs) (records_of p fs) ≡ fs)
unfolding links_answer records_answer records_of fields_from
records_written n end p at i [] e r = (refl, refl)
records_written n end p at i (f ∷ fs) e r =
    let l = as_link f in
    let (first, others) = and_then-accepted (link_answer n p l i) (links_answer n l (i + 1) (map as_link fs)) e in
    let rest = records_of l fs in
    let (x, y) = records_written n end l (at + record_length (get_or (record_of p f ++ rest) 0 0)) (i + 1) fs others (λ j. r (suc j)) in
    rw (record_written p f rest n end at (r 0), link_anywhere n p l i first at, fields_again p f rest (r 0), record_dropped p f rest, y) (x, refl)

-- ---- the book of a mesh

module _ (m : Mesh) (r : InRange m) (g : GoodMesh m) where
  -- as many duct numbers as links
  pub even : Even m
  even = r.entries ∙ sym r.numbers

  abbrev taken : List Fields
  taken = take m.count (entries_of m)

  pub count_most : m.count ≤ 256
  count_most = leb-true _ _ g.count

  pub count-written : number 2 (book_of m) 2 ≡ m.count
  unfolding book_of
  count-written = number-bytes 2 m.count (book_of m) 2 (records_of zero_link taken) refl (omega (arith, count_most))

  entries_in_range : EachInRange (entries_of m)
  entries_in_range i = rw (entry_is m even i) (r.links i, r.ducts i)

  taken_links_lem : map as_link taken ≡ take m.count m.links
  taken_links_lem = map-take as_link m.count (entries_of m) ∙ ap (λ (x : Mesh). take m.count x.links) (mesh-entries m even)

  taken-written : (records_answer m.nodes (length (book_of m)) zero_link 4 m.count (records_of zero_link taken) ≡ Accepted)
      × (fields_from zero_link m.count (records_of zero_link taken) ≡ taken)
  taken-written =
      let e : length taken ≡ m.count = length-take-le m.count (entries_of m) (omega (arith, count_most, length-entries m even, r.entries)) in
      rw e at
      (records_written m.nodes (length (book_of m)) zero_link 4 0 taken (rw taken_links_lem g.links)
      (each-taken FieldsInRange zero_fields (entries_of m) m.count entries_in_range))

  pub book-written : book_answer (book_of m) ≡ Accepted
  unfolding book_of header_answer book_answer
  book-written = rw (le-leb 4 (length (book_of m)) (omega arith), g.nodes, count-written, g.count) taken-written.0

  -- past the last link the entries are zero
  rest-zero : drop m.count (entries_of m) ≡ replicate (256 - m.count) zero_fields
  rest-zero =
      let k = m.count in
      let left : length (drop k m.links) ≡ 256 - k = length-drop k m.links ∙ rw r.entries in
      let left' : length (drop k m.ducts) ≡ 256 - k = length-drop k m.ducts ∙ rw r.numbers in
      let links : drop k m.links ≡ replicate (256 - k) zero_link = rw left at (zero_links (drop k m.links) g.zeros) in
      let ducts : drop k m.ducts ≡ replicate (256 - k) 0 = rw left' at (no_ducts (drop k m.ducts) g.ductless) in
      drop-joined k m.links m.ducts even ∙ rw (links, ducts) (zero-joined (256 - k))

  mesh-written : mesh_of (book_of m) ≡ m
  unfolding book_of mesh_of
  mesh-written =
      let all : taken ++ replicate (256 - m.count) zero_fields ≡ entries_of m = rw (← rest-zero) (take-append-drop m.count (entries_of m)) in
      rw (count-written, taken-written.1, all) (mesh-entries m even)

-- the book of a mesh that passes the checks is read as that mesh
pub decoded-book : (m : Mesh) → InRange m → mesh_answer m ≡ Accepted → decoded (book_of m) ≡ record { mesh = m; answer = Accepted }
unfolding decoded
decoded-book m r e = let g = mesh-accepted m e in rw (book-written m r g, mesh-written m r g)

pub encoded-answer : (m : Mesh) (room : ℕ) → (encoded m room).answer ≡ encode_answer m room
unfolding encoded written
encoded-answer m room = elim (encode_answer m room) as (λ a. (encoded_as (written_as a (length (book_of m)))).answer ≡ a) [ Accepted ↦ refl | Err _ ↦ refl ]

-- the bytes that writing leaves at the front of the output are read
pub decoded_output : (m : Mesh) (out : List ℕ) → InRange m → (encoded m (length out)).answer ≡ Accepted
    → decoded (take (encoded m (length out)).length (output_after m out)) ≡ record { mesh = m; answer = Accepted }
unfolding encode_answer written encoded output_after
decoded_output m out r e =
    let a : encode_answer m (length out) ≡ Accepted = sym (encoded-answer m (length out)) ∙ e in
    let (checked, fits) = and_then-accepted (mesh_answer m) _ a in
    rw (a, take-append_seam (book_of m) (drop (length (book_of m)) out)) (decoded-book m r checked)

-- ---- the length of a book

-- a book of a mesh that passes the checks is at most as long as the longest
pub book_most : (m : Mesh) → mesh_answer m ≡ Accepted → length (book_of m) ≤ longest_book
book_most m e = book_within m (passes m e).count_most
