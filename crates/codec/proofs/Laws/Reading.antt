-- What the reader's loop keeps, and what each of its turns and ways out makes of it. Serves the proof of `read_into`. Assumes nothing.
use Rattle.std.specs.Prelude.{ℕ, suc, ◌+◌, ◌-◌, ◌≤◌, ◌<◌, ◌≡◌, List, [], ◌∷◌, ◌++◌, Bool, true, length, get_or, drop, set, Err}
use Rattle.std.proofs.Math.Path.{refl, sym}
use Rattle.std.proofs.Common.{◌∙◌, ap, append_assoc, append-nil, add-one, arith, take-append-drop, length-set, take-suc-set, drop-set-lt}
use borrow.Author.Tests.{leb-true, le-leb}
use Rattle.std.proofs.Math.Dec.{eqb, leb}
use Rattle.std.proofs.Math.ListN.{take, replicate, length-drop}
use Rattle.std.proofs.Math.Seq.{drop-drop}
use Rattle.scan.specs.Bytes.{number}
use Rattle.scan.specs.Test.{eq_says, says_same}
use Rattle.mesh.specs.declared.Link.{Link}
use Rattle.mesh.specs.declared.Mesh.{Mesh}
use Rattle.mesh.specs.declared.Reason.{Reason}
use Rattle.mesh.specs.Answer.{Answer, Accepted}
use Rattle.mesh.specs.Mesh.{must, refuses, zero_link, zero_mesh}
use Rattle.fields.specs.declared.Fields.{Fields}
use Rattle.fields.specs.Record.{as_link, zero_fields, record_length, fields_at, record_answer}
use Rattle.fields.specs.Entries.{entries_of}
use Rattle.fields.specs.Laws.Entries.{Even, zero-joined, set_joined, mesh-entries, length-entries}
use Rattle.codec.specs.Book.{header_answer, records_answer, fields_from, book_answer, mesh_of, decoded}
use Rattle.fields.specs.Laws.Record.{record_accepted}
use Rattle.reader.specs.declared.Record.{Record}
use Rattle.reader.specs.Laws.Read.{there}

-- a turn's record is left, or none
pub left-next : (k i : ℕ) → i < k → k - i ≡ suc (k - (i + 1))
left-next k i h = omega arith

left_none : (k i : ℕ) → k ≤ i → k - i ≡ 0
left_none k i h = omega arith

left-all : (k : ℕ) → k - 0 ≡ k
left-all k = omega arith

-- the records from the header on of the book s, which says n nodes and k links
abbrev pub all_records : List ℕ → ℕ → ℕ → Answer
all_records s n k = records_answer n (length s) zero_link 4 k (drop 4 s)

-- i of k records are read into m, the last link is prev, and the next record stands at `at`
pub record Reading (s : List ℕ) (n k : ℕ) (m : Mesh) (prev : Link) (at i : ℕ) : Type 0 where
  pub some : i ≤ k
  pub within : at ≤ length s
  pub nodes : m.nodes ≡ n
  pub count : m.count ≡ k
  pub links : length m.links ≡ 256
  pub ducts : length m.ducts ≡ 256
  pub rest : drop i (entries_of m) ≡ replicate (256 - i) zero_fields
  pub answer : all_records s n k ≡ records_answer n (length s) prev at (k - i) (drop at s)
  pub fields : fields_from zero_link k (drop 4 s) ≡ take i (entries_of m) ++ fields_from prev (k - i) (drop at s)

pub reading_start : (s : List ℕ) (n k : ℕ) (m : Mesh) (p : Link) → m ≡ zero_mesh → p ≡ zero_link → 4 ≤ length s
    → Reading s n k (record { nodes = n; count = k; links = m.links; ducts = m.ducts }) p 4 0
reading_start s n k m p e q h =
    record {
      some = omega arith;
      within = h;
      nodes = refl;
      count = refl;
      links = ap (λ (x : Mesh). length x.links) e;
      ducts = ap (λ (x : Mesh). length x.ducts) e;
      rest = ap entries_of e ∙ zero-joined 256;
      answer = rw (q, left-all k);
      fields = rw (q, left-all k);
    }

module _ (s : List ℕ) (n k : ℕ) (m : Mesh) (prev : Link) (at i : ℕ) (R : Reading s n k m prev at i) where
  even : Even m
  even = R.links ∙ sym R.ducts

  entries : length (entries_of m) ≡ 256
  entries = length-entries m even ∙ R.links

  -- a refused record
  pub reading_refused : i < k → {r : Reason} → record_answer n (length s) prev at (drop at s) ≡ Err r → all_records s n k ≡ Err r
  unfolding records_answer
  reading_refused h e = R.answer ∙ rw (left-next k i h, e)

  -- an accepted one
  module _ (h : i < k) (hk : k ≤ 256) (e : record_answer n (length s) prev at (drop at s) ≡ Accepted) where
    abbrev next : Fields
    next = fields_at prev (drop at s)

    abbrev size : ℕ
    size = record_length (get_or (drop at s) 0 0)

    -- the mesh with the fields of this record at entry i
    abbrev stored : Mesh
    stored = record { nodes = m.nodes; count = m.count; links = set m.links i (as_link next); ducts = set m.ducts i next.duct }

    entries-stored : entries_of stored ≡ set (entries_of m) i next
    entries-stored = set_joined m.links m.ducts i (as_link next) next.duct

    pub reading_within : at + size ≤ length s
    reading_within =
        let g = record_accepted n (length s) prev at (drop at s) e in
        omega (arith, rw length-drop at g.whole, R.within)

    answer-next : all_records s n k ≡ records_answer n (length s) (as_link next) (at + size) (k - (i + 1)) (drop (at + size) s)
    unfolding records_answer
    answer-next = R.answer ∙ rw (left-next k i h, e, drop-drop size at s)

    fields-next : fields_from zero_link k (drop 4 s) ≡ take (i + 1) (set (entries_of m) i next) ++ fields_from (as_link next) (k - (i + 1)) (drop (at + size) s)
    unfolding fields_from
    fields-next =
        let front : take (i + 1) (set (entries_of m) i next) ≡ take i (entries_of m) ++ (next ∷ [])
        = rw (add-one i) (take-suc-set (entries_of m) i next (omega (arith, entries))) in
        R.fields ∙ rw (left-next k i h, drop-drop size at s, front)
        (sym (append_assoc (take i (entries_of m)) (next ∷ []) (fields_from (as_link next) (k - (i + 1)) (drop (at + size) s))))

    reading_next : Reading s n k stored (as_link next) (at + size) (i + 1)
    reading_next = record {
      some = omega arith;
      within = reading_within;
      nodes = R.nodes;
      count = R.count;
      links = length-set m.links i (as_link next) ∙ R.links;
      ducts = length-set m.ducts i next.duct ∙ R.ducts;
      rest = ap (drop (i + 1)) entries-stored
          ∙ drop-set-lt (i + 1) (entries_of m) i next (omega arith)
          ∙ (sym (drop-drop 1 i (entries_of m)) ∙ (ap (drop 1) R.rest ∙ rw (left-next 256 i (omega arith))));
      answer = answer-next;
      fields = fields-next ∙ rw entries-stored;
    }

    pub reading_turn : {r : Record} → r ≡ there n (length s) prev at (drop at s)
        → Reading s n k (record { nodes = m.nodes; count = m.count; links = set m.links i r.link; ducts = set m.ducts i r.duct }) r.link (at + r.length) (i + 1)
    reading_turn e = rw e reading_next

  -- after the last record: 10 where bytes are left
  pub reading_over : k ≤ i → must (leb (length s) at) 10 at Accepted ≡ all_records s n k
  unfolding records_answer
  reading_over h = sym (R.answer ∙ rw (left_none k i h, length-drop at s) (ap (λ (t : Bool). must t 10 at Accepted) left))
    where
      left : eqb (length s - at) 0 ≡ leb (length s) at
      left = says_same (eq_says (length s - at) 0) (λ t. omega (arith, leb-true (length s) at t), λ q. le-leb (length s) at (omega arith))

  -- the mesh is then the book's
  pub reading_mesh : k ≤ i → n ≡ get_or s 1 0 → k ≡ number 2 s 2 → m ≡ mesh_of s
  unfolding mesh_of fields_from
  reading_mesh h en ek =
      let e : i ≡ k = omega (arith, R.some) in
      let front : fields_from zero_link k (drop 4 s) ≡ take i (entries_of m) = R.fields ∙ rw (left_none k i h, append-nil) in
      let all : entries_of m ≡ fields_from zero_link k (drop 4 s) ++ replicate (256 - k) zero_fields
      = sym (take-append-drop i (entries_of m)) ∙ rw (front, R.rest, e) in
      sym (mesh-entries m even) ∙ rw (all, R.nodes ∙ en, R.count, ek)

-- ---- what reading gives, from the answers of the header and of the records

module _ (s : List ℕ) where
  -- a refused header decides
  pub book-refused : {r : Reason} → header_answer s ≡ Err r → book_answer s ≡ Err r
  unfolding book_answer
  book-refused e = rw e

  -- after a good header, which says n nodes and k links, the records do
  pub book_records : header_answer s ≡ Accepted → {n k : ℕ} → n ≡ get_or s 1 0 → k ≡ number 2 s 2 → book_answer s ≡ all_records s n k
  unfolding book_answer
  book_records e en ek = rw (e, en, ek)

  -- the answer, with the mesh where it accepts and the all-zero mesh where it refuses
  pub decoded_is : (m : Mesh) (a : Answer) → a ≡ book_answer s → (a ≡ Accepted → m ≡ mesh_of s) → (refuses a ≡ true → m ≡ zero_mesh)
      → decoded s ≡ record { mesh = m; answer = a }
  unfolding decoded
  decoded_is m Accepted e f g = rw (← e) (λ j. record { mesh = sym (f refl) j; answer = Accepted })
  decoded_is m (Err r) e f g = rw (← e) (λ j. record { mesh = sym (g refl) j; answer = Err r })
