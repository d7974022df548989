-- One turn and the end of each of the writer's runs of stores: the fields of a record, the records of a mesh, and its header. Assumes nothing.
use Rattle.std.specs.Prelude.{ℕ, suc, ◌+◌, ◌-◌, ◌≤◌, ◌<◌, ◌≡◌, List, [], ◌∷◌, ◌++◌, length, take, drop, set}
use Rattle.std.proofs.Math.Path.{refl, sym}
use Rattle.std.proofs.Common.{◌∙◌, ap, arith, length-append}
use Rattle.std.proofs.lemmas.List.Edits.{sets}
use Rattle.std.proofs.lemmas.List.{set_comm}
use Rattle.scan.specs.Bytes.{bytes}
use Rattle.scan.specs.Part.{drop-take, drop-take-end}
use Rattle.scan.specs.Store.{sets_lent}
use Rattle.mesh.specs.declared.Link.{Link}
use Rattle.mesh.specs.declared.Mesh.{Mesh}
use Rattle.mesh.specs.Mesh.{zero_link}
use Rattle.mesh.specs.WellFormed.{link, InRange}
use Rattle.fields.specs.declared.Fields.{Fields}
use Rattle.fields.specs.Field.{Field, field_bytes, fields_bytes, bit_map}
use Rattle.fields.specs.Record.{zero_fields, fields_of, record_of}
use Rattle.fields.specs.Entries.{entries_of, entry}
use Rattle.fields.specs.Laws.Entries.{length-entries, entry_is}
use Rattle.writer.specs.Written.{version, records_of, book_of}
use Rattle.scan.specs.Storing.{Storing, storing_all, storing_room, storing_next, storing_end}

-- ---- the fields of a record

-- the fields are left to store, after the bit map's byte
pub fields-start : (out : List ℕ) (p : Link) (f : Fields) → length (record_of p f) ≤ length out
    → (0 < length out) × Storing out 1 (fields_bytes (fields_of p f)) out 1 (fields_bytes (fields_of p f))
unfolding record_of
fields-start out p f h = (omega arith, storing_all out 1 (fields_bytes (fields_of p f)) (omega arith))

-- one field is stored
module _ (f : Field) (fs : List Field) {out₀ all out : List ℕ} {start at : ℕ} (S : Storing out₀ start all out at (fields_bytes (f ∷ fs))) where
  pub field_room : at + length (field_bytes f) ≤ length out
  unfolding fields_bytes
  field_room = storing_room S (field_bytes f) (fields_bytes fs) refl

  pub field_next : {out' : List ℕ} {at' : ℕ} → out' ≡ sets out at (field_bytes f) → at' ≡ at + length (field_bytes f)
      → Storing out₀ start all out' at' (fields_bytes fs)
  unfolding fields_bytes
  field_next o a = storing_next S (field_bytes f) (fields_bytes fs) refl o a

-- a store before a run of stores
set_sets : (l : List ℕ) (i j v : ℕ) (vs : List ℕ) → j < i → set (sets l i vs) j v ≡ sets (set l j v) i vs
set_sets l i j v [] h = refl
set_sets l i j v (x ∷ vs) h =
    set_sets (set l i x) (suc i) j v vs (omega arith) ∙ ap (λ (r : List ℕ). sets r (suc i) vs) (set_comm l i j x v (λ e. omega arith))

-- the fields are stored, and then the bit map
module _ (p : Link) (f : Fields) {out₀ out : List ℕ} {at : ℕ} (S : Storing out₀ 1 (fields_bytes (fields_of p f)) out at (fields_bytes [])) where
  pub fields-end : at ≡ length (record_of p f)
  unfolding record_of fields_bytes
  fields-end = omega (arith, S.ends)

  pub record_stored : {b : ℕ} → b ≡ bit_map (fields_of p f) → set out 0 b ≡ sets out₀ 0 (record_of p f)
  unfolding record_of fields_bytes
  record_stored q = rw (q, storing_end S refl) (set_sets out₀ 1 0 (bit_map (fields_of p f)) (fields_bytes (fields_of p f)) (omega arith))

-- ---- the records of a mesh

-- the records of the links from i on, after p
abbrev pub records_from : Link → Mesh → ℕ → List ℕ
records_from p m i = records_of p (drop i (take m.count (entries_of m)))

module _ (p : Link) (m : Mesh) (i : ℕ) where
  pub records_end : m.count ≤ i → records_from p m i ≡ []
  unfolding records_of
  records_end h = rw (drop-take-end (entries_of m) m.count i h)

  -- f are the fields of link i
  module _ (f : Fields) (is : f ≡ entry m i) (h : i < m.count) (few : m.count ≤ 256) (ranges : InRange m) where
    pub records_next : records_from p m i ≡ record_of p f ++ records_from (link m i) m (i + 1)
    unfolding records_of
    records_next =
        let even = ranges.entries ∙ sym ranges.numbers in
        rw (is, drop-take zero_fields (entries_of m) m.count i h (omega (arith, length-entries m even, ranges.entries)), entry_is m even i)

    pub length_records_next : length (records_from p m i) ≡ length (record_of p f) + length (records_from (link m i) m (i + 1))
    length_records_next = ap length records_next ∙ length-append (record_of p f) _

    -- one record is stored, at the front of the lent tail &mut out[at..]
    module _ {out₀ all out : List ℕ} {start at : ℕ} (S : Storing out₀ start all out at (records_from p m i)) where
      pub record_room : at + length (record_of p f) ≤ length out
      record_room = storing_room S (record_of p f) _ records_next

      pub record_next : {tail : List ℕ} {n : ℕ} → tail ≡ sets (take (length out - at) (drop at out)) 0 (record_of p f) → n ≡ length (record_of p f)
          → Storing out₀ start all (take at out ++ (tail ++ drop (length out - at) (drop at out))) (at + n) (records_from (link m i) m (i + 1))
      record_next t n = storing_next S (record_of p f) _ records_next (rw t (sets_lent out at (record_of p f) record_room)) (rw n)

-- ---- the header

-- the header is stored, and the records are left to store
pub header_stored : (m : Mesh) (out : List ℕ) → length (book_of m) ≤ length out → {out' : List ℕ} {at : ℕ}
    → out' ≡ sets out 0 (version ∷ (m.nodes ∷ bytes 2 m.count)) → at ≡ 4 → Storing out 0 (book_of m) out' at (records_from zero_link m 0)
unfolding book_of
header_stored m out h o e = storing_next (storing_all out 0 (book_of m) (omega arith)) (version ∷ (m.nodes ∷ bytes 2 m.count)) _ refl o e
