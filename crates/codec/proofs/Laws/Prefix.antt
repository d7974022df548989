-- What stands after more bytes than any book has changes nothing that is read: at most 256 records are looked at, each no longer than the longest, and bytes
-- are left after the last one either way. Assumes nothing.
use Rattle.std.specs.Prelude.{ℕ, zero, suc, ◌+◌, ◌*◌, ◌≤◌, ◌<◌, ◌≡◌, List, ◌++◌, get_or, take, drop, Err}
use Rattle.std.proofs.Math.Path.{refl}
use Rattle.std.proofs.Common.{sym, arith, length-append, length-drop, take-append-drop, length-take-le, take_all}
use Rattle.std.proofs.Math.Decide.{dec_le}
use borrow.Author.Tests.{leb-true, le-leb, ne_eqb}
use Rattle.std.proofs.Math.ListN.{length, get_or-append}
use Rattle.std.proofs.Math.Seq.{drop-append-le}
use Rattle.scan.specs.Bytes.{number, number_append}
use Rattle.mesh.specs.declared.Link.{Link}
use Rattle.mesh.specs.Answer.{Answer, Accepted}
use Rattle.mesh.specs.Mesh.{zero_link}
use Rattle.fields.specs.Record.{as_link, longest_record, record_length, fields_at}
use Rattle.codec.specs.Book.{longest_book, header_answer, records_answer, fields_from, book_answer, mesh_of, decoded}
use Rattle.reader.specs.Laws.Header.{header_accepted}
use Rattle.fields.specs.Laws.Record.{record_length_most, map-append, fields-append, record_append}

-- ---- the records of a book

-- k records, and a byte past them
records_append : (n end end' : ℕ) (p : Link) (at k : ℕ) (s more : List ℕ) → longest_record * k < length s
    → (records_answer n end' p at k (s ++ more) ≡ records_answer n end p at k s) × (fields_from p k (s ++ more) ≡ fields_from p k s)
unfolding records_answer fields_from
records_append n end end' p at zero s more h =
    (rw (length-append s more, ne_eqb (length s) 0 (λ e. omega arith), ne_eqb (length s + length more) 0 (λ e. omega arith)), refl)
records_append n end end' p at (suc k) s more h =
    let b = record_length (get_or s 0 0) in
    let most = record_length_most (get_or s 0 0) in
    let long : longest_record ≤ length s = omega arith in
    let rest = records_append n end end' (as_link (fields_at p s)) (at + b) k (drop b s) more (rw (length-drop b s) (omega arith)) in
    rw (record_append s more long n end end' p at, map-append s more long, fields-append s more long p, drop-append-le b s more (omega arith))
    (rw (rest.0, rest.1) (refl, refl))

-- ---- the whole book

-- the longest book, and a byte past it
module _ (s more : List ℕ) (h : longest_book < length s) where
  nodes_append : get_or (s ++ more) 1 0 ≡ get_or s 1 0
  nodes_append = get_or-append s more 0 1 (omega arith)

  count-append : number 2 (s ++ more) 2 ≡ number 2 s 2
  count-append = number_append 2 s more 2 (omega arith)

  header_append : header_answer (s ++ more) ≡ header_answer s
  unfolding header_answer
  header_append =
      rw (length-append s more, map-append s more (omega arith), nodes_append, count-append)
      (rw (le-leb 4 (length s) (omega arith), le-leb 4 (length s + length more) (omega arith)))

  pub decoded-append : decoded (s ++ more) ≡ decoded s
  unfolding book_answer mesh_of decoded
  decoded-append = go (header_answer s) refl
    where
      go : (a : Answer) → header_answer s ≡ a → decoded (s ++ more) ≡ decoded s
      go (Err r) e = rw (header_append, e)
      go Accepted e =
          let k = number 2 s 2 in
          let few = leb-true k 256 (header_accepted s e).count in
          let rest = records_append (get_or s 1 0) (length s) (length (s ++ more)) zero_link 4 k (drop 4 s) more (rw (length-drop 4 s) (omega arith)) in
          rw (header_append, e, nodes_append, count-append, drop-append-le 4 s more (omega arith)) (rw (rest.0, rest.1))

-- so the first n bytes of an input are read as all of it is
pub decoded-take : (n : ℕ) (s : List ℕ) → longest_book < n → decoded (take n s) ≡ decoded s
decoded-take n s h = go (dec_le n (length s))
  where
    go : Dec (n ≤ length s) → decoded (take n s) ≡ decoded s
    go (yes b) = sym (rw (take-append-drop n s) at (decoded-append (take n s) (drop n s) (rw (length-take-le n s b) h)))
    go (no b) = rw (take_all n s (omega arith))
