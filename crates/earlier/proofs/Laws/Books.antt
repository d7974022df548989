-- A book that is read by one order test is read by another exactly where the links of its mesh pass that test. Assumes nothing.
use Prim.Native.Nat.{ℕ, zero, suc, ◌+◌, ◌-◌}
use Rattle.std.specs.Prelude.{◌≡◌, not, length, get_or, take, drop, ltb, leb, Err}
use Rattle.std.proofs.Math.Path.{refl}
use mathlib.Core.List.{List, ◌++◌, map}
use Rattle.std.proofs.Math.ListN.{replicate}
use Rattle.std.proofs.Math.Seq.{take_at}
use Rattle.scan.specs.Bytes.{number}
use Rattle.scan.specs.Part.{map-take}
use Rattle.mesh.specs.declared.Link.{Link}
use Rattle.mesh.specs.Answer.{Answer, Accepted, Refused}
use Rattle.mesh.specs.Mesh.{zero_link}
use Rattle.mesh.specs.Laws.Answer.{must-accepted, and_then-accepted}
use Rattle.fields.specs.declared.Fields.{Fields}
use Rattle.fields.specs.Field.{needless}
use Rattle.fields.specs.Record.{as_link, zero_fields, fields_of, fields_at, record_length, reserved}
use Rattle.codec.specs.Book.{header_answer, mesh_of, fields_from, decoded_as}
use Rattle.codec.proofs.Laws.Read.{length_fields}
use Rattle.earlier.proofs.Laws.Each.{link-parts}
use Rattle.earlier.specs.Ordered.{Order, link_answer_by, links_answer_by, record_answer_by, records_answer_by, book_answer_by, decoded_by}

-- the links of k records at the front of s
abbrev links_of : Link → ℕ → List ℕ → List Link
links_of p k s = map as_link (fields_from p k s)

module _ (o : Order) (n : ℕ) where
  link-there : (p l : Link) (here there : ℕ) → link_answer_by o n p l here ≡ Accepted → link_answer_by o n p l there ≡ Accepted
  link-there p l here there e = let (apart, inside, after) = link-parts o n p l here e in rw (apart, inside, after)

  record_link : (end : ℕ) (p : Link) (at : ℕ) (s : List ℕ) → record_answer_by o n end p at s ≡ Accepted → link_answer_by o n p (as_link (fields_at p s)) at ≡ Accepted
  unfolding record_answer_by
  record_link end p at s e =
      let (some, e1) = must-accepted (ltb 0 (length s)) _ _ _ e in
      let (known, e2) = must-accepted (not (reserved (get_or s 0 0))) _ _ _ e1 in
      let (whole, e3) = must-accepted (leb (record_length (get_or s 0 0)) (length s)) _ _ _ e2 in
      (must-accepted (not (needless (get_or s 0 0) (fields_of p (fields_at p s)))) _ _ _ e3).1

  records_links : (end : ℕ) (p : Link) (at i k : ℕ) (s : List ℕ) → records_answer_by o n end p at k s ≡ Accepted → links_answer_by o n p i (links_of p k s) ≡ Accepted
  unfolding records_answer_by links_answer_by fields_from
  records_links end p at i zero s e = refl
  records_links end p at i (suc k) s e =
      let (first, rest) = and_then-accepted (record_answer_by o n end p at s) _ e in
      let b = record_length (get_or s 0 0) in
      let l = as_link (fields_at p s) in
      rw (link-there p l at i (record_link end p at s first)) (records_links end l (at + b) (i + 1) k (drop b s) rest)

module _ (o o' : Order) (n : ℕ) where
  record_by : (end : ℕ) (p : Link) (at : ℕ) (s : List ℕ) → record_answer_by o n end p at s ≡ Accepted
      → link_answer_by o' n p (as_link (fields_at p s)) at ≡ Accepted → record_answer_by o' n end p at s ≡ Accepted
  unfolding record_answer_by
  record_by end p at s e l =
      let (some, e1) = must-accepted (ltb 0 (length s)) _ _ _ e in
      let (known, e2) = must-accepted (not (reserved (get_or s 0 0))) _ _ _ e1 in
      let (whole, e3) = must-accepted (leb (record_length (get_or s 0 0)) (length s)) _ _ _ e2 in
      let (needed, _) = must-accepted (not (needless (get_or s 0 0) (fields_of p (fields_at p s)))) _ _ _ e3 in
      let (apart, inside, after) = link-parts o' n p (as_link (fields_at p s)) at l in
      rw (some, known, whole, needed, apart, inside, after)

  links_records : (end : ℕ) (p : Link) (at i k : ℕ) (s : List ℕ) → records_answer_by o n end p at k s ≡ Accepted
      → links_answer_by o' n p i (links_of p k s) ≡ Accepted → records_answer_by o' n end p at k s ≡ Accepted
  unfolding records_answer_by links_answer_by fields_from
  links_records end p at i zero s e f = e
  links_records end p at i (suc k) s e f =
      let (first, rest) = and_then-accepted (record_answer_by o n end p at s) _ e in
      let b = record_length (get_or s 0 0) in
      let l = as_link (fields_at p s) in
      let (one, others) = and_then-accepted (link_answer_by o' n p l i) _ f in
      rw (record_by end p at s first (link-there o' n p l i at one)) (links_records end l (at + b) (i + 1) k (drop b s) rest others)

-- the links of the mesh that is read
module _ (s : List ℕ) where
  abbrev k : ℕ
  k = number 2 s 2

  mesh_links : take (mesh_of s).count (mesh_of s).links ≡ links_of zero_link k (drop 4 s)
  unfolding mesh_of
  mesh_links =
      let fields : List Fields = fields_from zero_link k (drop 4 s) in
      rw (← map-take as_link k (fields ++ replicate (256 - k) zero_fields), take_at fields (replicate (256 - k) zero_fields) k (length_fields zero_link k (drop 4 s)))

  module _ (o : Order) (e : book_answer_by o s ≡ Accepted) where
    pub book_links : links_answer_by o (mesh_of s).nodes zero_link 0 (take (mesh_of s).count (mesh_of s).links) ≡ Accepted
    unfolding book_answer_by mesh_of
    book_links = rw mesh_links (records_links o (get_or s 1 0) (length s) zero_link 4 0 k (drop 4 s) (and_then-accepted (header_answer s) _ e).1)

    pub links_book : (o' : Order) → links_answer_by o' (mesh_of s).nodes zero_link 0 (take (mesh_of s).count (mesh_of s).links) ≡ Accepted → book_answer_by o' s ≡ Accepted
    unfolding book_answer_by mesh_of
    links_book o' f =
        let (header, rest) = and_then-accepted (header_answer s) _ e in
        rw header (links_records o o' (get_or s 1 0) (length s) zero_link 4 0 k (drop 4 s) rest (rw mesh_links at f))

-- what reading answers
module _ (o : Order) (s : List ℕ) where
  pub decoded_by_lem : (decoded_by o s).answer ≡ book_answer_by o s
  unfolding decoded_by
  decoded_by_lem = by_answer (book_answer_by o s)
    where
      by_answer : (a : Answer) → (decoded_as a (mesh_of s)).answer ≡ a
      by_answer Accepted = refl
      by_answer (Err r) = refl
