-- What was read is written: the records of a book, and the whole book, which is therefore the only one of its mesh. What is read passes the
-- checks of a mesh and its fields are in range. Assumes nothing.
use Rattle.std.specs.Prelude.{ℕ, zero, suc, ◌+◌, ◌-◌, ◌≤◌, ◌≡◌, refl, ◌↔◌, List, ◌∷◌, ◌++◌, map, length, get_or, take, drop, replicate}
use Rattle.std.proofs.Common.{sym, ◌∙◌, ap, arith, leb-true, le-leb, eqb-true, lit<, length-append, take-append-drop, drop-drop, drop-cons, take_all, take_at, drop_at}
use Rattle.std.proofs.Math.Dec.{eqb}
use Rattle.std.proofs.lemmas.List.{length-replicate}
use Rattle.std.proofs.Math.ListN.{length-map, get_or-map}
use Rattle.scan.specs.Bytes.{bytes, number, AreBytes, bytes-number, bytes_drop}
use Rattle.scan.specs.All.{all_replicate}
use Rattle.scan.specs.Part.{map-take, map-drop, map-replicate}
use Rattle.scan.specs.Entry.{replicate-at}
use Rattle.mesh.specs.declared.Link.{Link}
use Rattle.mesh.specs.declared.Mesh.{Mesh}
use Rattle.mesh.specs.Answer.{Accepted}
use Rattle.mesh.specs.Mesh.{zero_link, is_zero, links_answer, mesh_answer}
use Rattle.mesh.specs.WellFormed.{InRange}
use Rattle.mesh.specs.Laws.Answer.{must-accepted}
use Rattle.mesh.specs.Laws.Refused.{nodes_says}
use Rattle.codec.specs.declared.Decoded.{Decoded}
use Rattle.fields.specs.declared.Fields.{Fields}
use Rattle.fields.specs.Record.{as_link, zero_fields, record_length, fields_at}
use Rattle.fields.specs.Laws.Entries.{entries-mesh}
use Rattle.codec.specs.Book.{longest_book, version, records_of, book_of, encode_answer, written, encoded, output_after, records_answer, fields_from, book_answer, mesh_of, decoded}
use Rattle.codec.proofs.Laws.Accepted.{records_accepted, book-accepted, decoded-mesh}
use Rattle.reader.specs.Laws.Header.{GoodHeader}
use Rattle.mesh.specs.Laws.Zeros.{zero_in_range}
use Rattle.mesh.specs.Laws.GoodMesh.{link_anywhere, GoodMesh, accepted-mesh}
use Rattle.fields.specs.Laws.Record.{FieldsInRange, record_read_lem, fields_in_range}
use Rattle.codec.proofs.Laws.Written.{decoded-book, book_most}

-- ---- the records of a book

pub length_fields : (p : Link) (k : ℕ) (s : List ℕ) → length (fields_from p k s) ≡ k
unfolding fields_from
length_fields p zero s = refl
length_fields p (suc k) s = ap suc (length_fields (as_link (fields_at p s)) k (drop (record_length (get_or s 0 0)) s))

-- records that are read are those of the fields that are read
pub fields_read : (n end : ℕ) (p : Link) (at k : ℕ) (s : List ℕ) → AreBytes s → records_answer n end p at k s ≡ Accepted → records_of p (fields_from p k s) ≡ s
unfolding records_of records_answer fields_from
fields_read n end p at zero s small e =
    let (t, f) = must-accepted (eqb (length s) 0) _ _ _ e in
    take_all 0 s (omega (arith, eqb-true (length s) 0 t))
fields_read n end p at (suc k) s small e =
    let (g, f) = records_accepted n end p at k s e in
    let b = record_length (get_or s 0 0) in
    rw (record_read_lem n p at s small g, fields_read n end (as_link (fields_at p s)) (at + b) k (drop b s) (bytes_drop s b small) f) (take-append-drop b s)

-- and their links are accepted
pub links_accepted : (n end : ℕ) (p : Link) (at i k : ℕ) (s : List ℕ) → records_answer n end p at k s ≡ Accepted
    → links_answer n p i (map as_link (fields_from p k s)) ≡ Accepted
unfolding links_answer fields_from
links_accepted n end p at i zero s e = refl
links_accepted n end p at i (suc k) s e =
    let (g, f) = records_accepted n end p at k s e in
    let b = record_length (get_or s 0 0) in
    let l = as_link (fields_at p s) in
    rw (link_anywhere n p l at g.fits i) (links_accepted n end l (at + b) (i + 1) k (drop b s) f)

-- every entry of the mesh that is read is in range
entries_in_range : (n end : ℕ) (p : Link) (at k : ℕ) (s : List ℕ) → AreBytes s → n ≤ 64 → records_answer n end p at k s ≡ Accepted
    → (rest i : ℕ) → FieldsInRange (get_or (fields_from p k s ++ replicate rest zero_fields) i zero_fields)
unfolding fields_from
entries_in_range n end p at zero s small h e rest i =
    rw (replicate-at rest zero_fields i) (zero_in_range, lit< tt)
entries_in_range n end p at (suc k) s small h e rest zero = fields_in_range n p at s small (records_accepted n end p at k s e).0 h
entries_in_range n end p at (suc k) s small h e rest (suc i) =
    let b = record_length (get_or s 0 0) in
    entries_in_range n end (as_link (fields_at p s)) (at + b) k (drop b s) (bytes_drop s b small) h (records_accepted n end p at k s e).1 rest i

-- ---- the whole book

-- the header and what follows it
header_read_lem : (s : List ℕ) → AreBytes s → GoodHeader s → version ∷ (get_or s 1 0 ∷ (bytes 2 (number 2 s 2) ++ drop 4 s)) ≡ s
header_read_lem s small g =
    let four = g.four in
    let v : get_or s 0 0 ≡ version = eqb-true (get_or s 0 0) version g.version in
    sym (drop-cons s 0 0 (omega arith)
    ∙ rw (v, drop-cons s 1 0 (omega arith), ← take-append-drop 2 (drop 2 s), drop-drop 2 2 s, ← bytes-number 2 s 2 small four))

module _ (s : List ℕ) (e : book_answer s ≡ Accepted) where
  abbrev k : ℕ
  k = number 2 s 2

  abbrev fields : List Fields
  fields = fields_from zero_link k (drop 4 s)

  abbrev entries : List Fields
  entries = fields ++ replicate (256 - k) zero_fields

  header : GoodHeader s
  header = (book-accepted s e).0

  records : records_answer (get_or s 1 0) (length s) zero_link 4 k (drop 4 s) ≡ Accepted
  records = (book-accepted s e).1

  count_most : k ≤ 256
  count_most = leb-true k 256 header.count

  nodes_most : get_or s 1 0 ≤ 64
  nodes_most = ((nodes_says (get_or s 1 0)).0 header.nodes).1

  first-fields : take k entries ≡ fields
  first-fields = take_at fields (replicate (256 - k) zero_fields) k (length_fields zero_link k (drop 4 s))

  other_fields : drop k entries ≡ replicate (256 - k) zero_fields
  other_fields = drop_at fields (replicate (256 - k) zero_fields) k (length_fields zero_link k (drop 4 s))

  length-all : length entries ≡ 256
  length-all =
      rw (length-append fields (replicate (256 - k) zero_fields), length_fields zero_link k (drop 4 s), length-replicate (256 - k) zero_fields)
      (omega (arith, count_most))

  mesh_good : GoodMesh (mesh_of s)
  unfolding mesh_of
  mesh_good = record {
    nodes = header.nodes;
    count = header.count;
    links = rw (← map-take as_link k entries, first-fields) (links_accepted (get_or s 1 0) (length s) zero_link 4 0 k (drop 4 s) records);
    zeros = rw (← map-drop as_link k entries, other_fields, map-replicate as_link (256 - k) zero_fields) (all_replicate is_zero (256 - k) zero_link refl);
    ductless = rw (← map-drop (λ (f : Fields). f.duct) k entries, other_fields, map-replicate (λ (f : Fields). f.duct) (256 - k) zero_fields) (all_replicate (λ d. eqb d 0) (256 - k) 0 refl);
  }

  book_again : AreBytes s → book_of (mesh_of s) ≡ s
  unfolding book_of mesh_of
  book_again small =
      rw (entries-mesh (get_or s 1 0) k entries, first-fields, fields_read (get_or s 1 0) (length s) zero_link 4 k (drop 4 s) (bytes_drop s 4 small) records)
      (header_read_lem s small header)

  mesh_in_range : AreBytes s → InRange (mesh_of s)
  unfolding mesh_of
  mesh_in_range small =
      let each = entries_in_range (get_or s 1 0) (length s) zero_link 4 k (drop 4 s) (bytes_drop s 4 small) nodes_most records (256 - k) in
      record {
        entries = length-map entries as_link ∙ length-all;
        links = λ i. rw (get_or-map as_link entries i zero_fields) (each i).0;
        numbers = length-map entries (λ (f : Fields). f.duct) ∙ length-all;
        ducts = λ i. rw (get_or-map (λ (f : Fields). f.duct) entries i zero_fields) (each i).1;
      }

-- ---- what `decoded` gives

-- what is read passes the checks
pub decoded-accepted : (s : List ℕ) → (decoded s).answer ≡ Accepted → mesh_answer (decoded s).mesh ≡ Accepted
decoded-accepted s e = rw (decoded-mesh s e).1 (accepted-mesh (mesh_of s) (mesh_good s (decoded-mesh s e).0))

pub decoded_in_range : (s : List ℕ) → AreBytes s → (decoded s).answer ≡ Accepted → InRange (decoded s).mesh
decoded_in_range s small e = rw (decoded-mesh s e).1 (mesh_in_range s (decoded-mesh s e).0 small)

-- a book that is read is the book of what it is read as
pub book-decoded : (s : List ℕ) → AreBytes s → (decoded s).answer ≡ Accepted → book_of (decoded s).mesh ≡ s
book-decoded s small e = rw (decoded-mesh s e).1 (book_again s (decoded-mesh s e).0 small)

-- each mesh has one book
pub one_book : (m : Mesh) → InRange m → mesh_answer m ≡ Accepted → (s : List ℕ) → AreBytes s
    → (decoded s ≡ record { mesh = m; answer = Accepted }) ↔ (s ≡ book_of m)
one_book m r e s small = (
  λ d. sym (book-decoded s small (ap (λ (x : Decoded). x.answer) d)) ∙ ap (λ (x : Decoded). book_of x.mesh) d,
  λ q. rw q (decoded-book m r e),
)

pub accepted_most : (s : List ℕ) → AreBytes s → (decoded s).answer ≡ Accepted → length s ≤ longest_book
accepted_most s small e = rw (book-decoded s small e) at (book_most (decoded s).mesh (decoded-accepted s e))

-- the book comes back at the front of the output
pub output_decoded : (s out : List ℕ) → AreBytes s → (decoded s).answer ≡ Accepted → length s ≤ length out
    → (encoded (decoded s).mesh (length out) ≡ record { length = length s; answer = Accepted })
    × (output_after (decoded s).mesh out ≡ s ++ drop (length s) out)
unfolding encoded written output_after encode_answer
output_decoded s out small e h =
    let checked = decoded-accepted s e in
    let book = book-decoded s small e in
    (rw (checked, book, le-leb (length s) (length out) h), rw (checked, book, le-leb (length s) (length out) h))
