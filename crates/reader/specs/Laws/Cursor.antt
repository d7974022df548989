-- Reading the fields of a record in turn, by a cursor that carries along the bits of the next field on and where its bytes would start. Assumes nothing.
use Rattle.std.specs.Prelude.{ℕ, suc, ◌+◌, ◌/◌, ◌≤◌, ◌≡◌, List, false, cond, length, get_or, take}
use Rattle.std.proofs.Math.Path.{refl}
use Rattle.std.proofs.Common.{◌∙◌, ap, arith}
use Rattle.scan.specs.Bytes.{number}
use Rattle.fields.specs.Field.{odd, bits_from, extent}
use Rattle.fields.specs.Record.{widths, reserved, record_length, field_at}
use Rattle.fields.specs.Laws.Fields.{bits_next, extent-next, extent_part}
use Rattle.reader.specs.declared.cursor.Cursor.{Cursor}

-- field i of the record at the front of s is next: its bit is the lowest of the cursor's, and its bytes would start at the cursor's place
pub record Next (s : List ℕ) (i : ℕ) (c : Cursor) : Type 0 where
  pub bytes : c.s.now ≡ s
  pub from : c.bits ≡ bits_from (get_or s 0 0) i
  pub starts : c.at ≡ 1 + extent (take i widths) (get_or s 0 0)

pub next-first : {c : Cursor} → c.bits ≡ get_or c.s.now 0 0 → c.at ≡ 1 → Next c.s.now 0 c
next-first b a = record { bytes = refl; from = b; starts = a }

module _ {s : List ℕ} {i : ℕ} {c : Cursor} (N : Next s i c) where
  -- its value
  pub next_value : {v : ℕ} (absent : ℕ) → v ≡ cond (odd c.bits) (number (get_or widths i 0) c.s.now c.at) absent → v ≡ field_at s i absent
  next_value {v} absent e = e ∙ rw (N.bytes, N.from, N.starts)

  -- the place after it
  after : {at' : ℕ} → at' ≡ c.at + cond (odd c.bits) (get_or widths i 0) 0 → at' ≡ 1 + extent (take (suc i) widths) (get_or s 0 0)
  after e = e ∙ rw (N.from, N.starts) (omega (arith, extent-next widths i (get_or s 0 0)))

  pub next-after : {d : Cursor} → d.s ≡ c.s → d.bits ≡ c.bits / 2 → d.at ≡ c.at + cond (odd c.bits) (get_or widths i 0) 0 → Next s (suc i) d
  next-after p b e = record { bytes = ap (λ r. r.now) p ∙ N.bytes; from = b ∙ rw (N.from, bits_next (get_or s 0 0) i); starts = after e }

  -- it lies in a record all of whose bytes are there
  pub next_within : reserved (get_or s 0 0) ≡ false → record_length (get_or s 0 0) ≤ length s → c.at + cond (odd c.bits) (get_or widths i 0) 0 ≤ length c.s.now
  unfolding record_length
  next_within u h = rw N.bytes (omega (arith, after refl, extent_part widths (suc i) (get_or s 0 0), rw u at h))
