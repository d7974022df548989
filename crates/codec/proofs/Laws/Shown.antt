-- A record that was written is shown: in the book of a mesh that passes the checks, the record of each link stands after those of the links before
-- it. Assumes nothing.
use Prim.Native.Nat.{ℕ, zero, suc, ◌+◌, ◌-◌, ◌≤◌, ◌<◌}
use Rattle.std.specs.Prelude.{◌≡◌, List, ◌++◌, get_or, take, drop}
use Rattle.std.proofs.Math.Path.{refl}
use Rattle.std.proofs.Common.{sym, ◌∙◌, drop-drop}
use Rattle.std.proofs.Math.Numerals.{add-one}
use native.Mathlib.Omega.{arith}
use Rattle.scan.specs.Part.{front, drop-take}
use Rattle.mesh.specs.declared.Link.{Link}
use Rattle.fields.specs.declared.Fields.{Fields}
use Rattle.mesh.specs.declared.Mesh.{Mesh}
use Rattle.mesh.specs.Answer.{Accepted}
use Rattle.mesh.specs.Mesh.{mesh_answer}
use Rattle.mesh.specs.WellFormed.{InRange}
use Rattle.mesh.specs.Refusal.{previous}
use Rattle.mesh.specs.Laws.GoodMesh.{GoodMesh, mesh-accepted}
use Rattle.fields.specs.Record.{zero_fields, record_of, record_length}
use Rattle.fields.specs.Entries.{entries_of, entry}
use Rattle.fields.specs.Laws.Entries.{length-entries, entry_is}
use Rattle.codec.specs.Book.{records_of, book_of, record_start, span_answer, span_of, record_part}
use Rattle.fields.specs.Laws.Record.{record_taken, record_dropped}
use Rattle.codec.proofs.Laws.Locate.{span-some}
use Rattle.codec.proofs.Laws.Written.{even, count_most, count-written, book-written}

-- the record of these fields after p, where it stands at `at` in s before other bytes: its bytes, and what follows
module _ (s : List ℕ) (at : ℕ) (p : Link) (f : Fields) (rest : List ℕ) (e : drop at s ≡ record_of p f ++ rest) where
  size : record_length (get_or s at 0) ≡ record_length (get_or (record_of p f ++ rest) 0 0)
  size = rw (← front s at, e)

  record_here : take (record_length (get_or s at 0)) (drop at s) ≡ record_of p f
  record_here = rw (size, e) (record_taken p f rest)

  record_past : drop (at + record_length (get_or s at 0)) s ≡ rest
  record_past = sym (drop-drop (record_length (get_or s at 0)) at s) ∙ rw (size, e) (record_dropped p f rest)

module _ (m : Mesh) (r : InRange m) (g : GoodMesh m) where
  -- the records from link k on
  abbrev from : ℕ → List ℕ
  from k = records_of (previous m k) (drop k (take m.count (entries_of m)))

  from_next : (k : ℕ) → k < m.count → from k ≡ record_of (previous m k) (entry m k) ++ from (suc k)
  unfolding records_of
  from_next k h =
      rw (drop-take zero_fields (entries_of m) m.count k h (omega (arith, count_most m r g, length-entries m (even m r g), r.entries)), add-one k, entry_is m (even m r g) k)

  -- they are what stands in the book where the record of link k starts
  stands : (k : ℕ) → k ≤ m.count → drop (record_start (book_of m) k) (book_of m) ≡ from k
  unfolding record_start book_of
  stands zero h = refl
  stands (suc k) h =
      record_past (book_of m) (record_start (book_of m) k) (previous m k) (entry m k) (from (suc k))
      (stands k (omega arith) ∙ from_next k (omega arith))

  shown : (k : ℕ) → k < m.count → span_answer (book_of m) k ≡ Accepted
  shown k h = span-some (book_of m) k (book-written m r g) (rw (count-written m r g) h)

  part : (k : ℕ) → k < m.count → record_part (book_of m) k ≡ record_of (previous m k) (entry m k)
  unfolding record_part span_of
  part k h =
      let s = book_of m in
      let start = record_start s k in
      let size = record_length (get_or s start 0) in
      let whole : start + size - start ≡ size = omega arith in
      rw (shown k h, whole) (record_here s start (previous m k) (entry m k) (from (suc k)) (stands k (omega arith) ∙ from_next k h))

-- showing the record of a link in the book of a mesh is accepted, and gives that link's record after the link before
pub record_shown : (m : Mesh) → InRange m → mesh_answer m ≡ Accepted → (k : ℕ) → k < m.count
    → (span_answer (book_of m) k ≡ Accepted) × (record_part (book_of m) k ≡ record_of (previous m k) (entry m k))
record_shown m r e k h = let g = mesh-accepted m e in (shown m r g k h, part m r g k h)
