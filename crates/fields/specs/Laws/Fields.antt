-- Any list of fields: what was written is read, and what was read is written, by induction over the list. Assumes nothing.
use Rattle.std.specs.Prelude.{ℕ, zero, suc, ◌+◌, ◌*◌, ◌/◌, ◌^◌, ◌≤◌, ◌<◌, ◌≡◌, refl, List, [], ◌∷◌, ◌++◌, Bool, true, false, cond, not, ◌&&◌, ◌||◌, eqb, length, get_or, take, drop}
use Rattle.std.proofs.Common.{sym, ◌∙◌, ap, append_assoc, add-zero, add_assoc, pow-suc, arith, eqb-true, eq-eqb, length-append, drop-drop, take-add}
use Rattle.std.proofs.lemmas.Bool.{not-false}
use Rattle.std.proofs.Math.Seq.{drop-append_seam}
use Rattle.scan.specs.Bytes.{bytes, number, AreBytes, length-bytes, number-bytes, bytes-number}
use Rattle.scan.specs.Total.{bit}
use Rattle.scan.specs.Bits.{lowest_digit, by_lowest}
use Rattle.scan.specs.Test.{branch, or_false}
use Rattle.fields.specs.Field.{Field, field, widths_of, sum, differs, field_bytes, fields_bytes, bit_map, odd, bits_from, stands, extent, needless}

-- ---- bits

odd-bit : (t : Bool) (n : ℕ) → odd (bit t + 2 * n) ≡ t
odd-bit t n = (by_lowest (bit t + 2 * n) n t (omega arith)).0

half_bit : (t : Bool) (n : ℕ) → (bit t + 2 * n) / 2 ≡ n
half_bit t n = (by_lowest (bit t + 2 * n) n t (omega arith)).1

-- a number by its lowest bit and the others
bit_half : (b : ℕ) → bit (odd b) + 2 * (b / 2) ≡ b
bit_half b = omega (arith, lowest_digit b)

-- ---- lengths

length-field : (f : Field) → length (field_bytes f) ≡ cond (differs f) f.width 0
length-field f =
    branch (λ (l : List ℕ). length l ≡ cond (differs f) f.width 0) (differs f) (λ e. rw e (length-bytes f.width f.value)) (λ e. rw e)

pub length_fields : (fs : List Field) → length (fields_bytes fs) ≡ extent (widths_of fs) (bit_map fs)
unfolding fields_bytes bit_map
length_fields [] = refl
length_fields (f ∷ fs) =
    rw (length-append (field_bytes f) (fields_bytes fs), odd-bit (differs f) (bit_map fs), half_bit (differs f) (bit_map fs), length-field f, length_fields fs)

-- a number, or 0 in its place
chosen_most : (t : Bool) (w : ℕ) → cond t w 0 ≤ w
chosen_most t w = branch (λ (v : ℕ). v ≤ w) t (λ e. omega arith) (λ e. omega arith)

-- a bit map has a bit a field
pub bit_map_below : (fs : List Field) → bit_map fs < 2 ^ length fs
unfolding bit_map
bit_map_below [] = omega arith
bit_map_below (f ∷ fs) = omega (arith, pow-suc 2 (length fs), chosen_most (differs f) 1, bit_map_below fs)

-- the bytes of the fields that stand are at most those of all
pub extent_most : (ws : List ℕ) (b : ℕ) → extent ws b ≤ sum ws
extent_most [] b = omega arith
extent_most (w ∷ ws) b = omega (arith, chosen_most (odd b) w, extent_most ws (b / 2))

-- field i, after those before it whose bits stand, ends within the bytes of all
pub field_most : (ws : List ℕ) (i b : ℕ) → extent (take i ws) b + get_or ws i 0 ≤ sum ws
field_most [] zero b = omega arith
field_most [] (suc i) b = omega arith
field_most (w ∷ ws) zero b = omega arith
field_most (w ∷ ws) (suc i) b = omega (arith, chosen_most (odd b) w, field_most ws i (b / 2))

-- ---- field by field

pub bits_next : (b i : ℕ) → bits_from b (suc i) ≡ bits_from b i / 2
bits_next b zero = refl
bits_next b (suc i) = bits_next (b / 2) i

-- field i starts after those before it whose bits stand
pub extent-next : (ws : List ℕ) (i b : ℕ) → extent (take (suc i) ws) b ≡ extent (take i ws) b + cond (stands b i) (get_or ws i 0) 0
extent-next [] zero b = omega (arith, chosen_most (odd b) 0)
extent-next [] (suc i) b = omega (arith, chosen_most (stands b (suc i)) 0)
extent-next (w ∷ ws) zero b = omega arith
extent-next (w ∷ ws) (suc i) b = omega (arith, extent-next ws i (b / 2))

pub extent_part : (ws : List ℕ) (i b : ℕ) → extent (take i ws) b ≤ extent ws b
extent_part ws zero b = omega arith
extent_part [] (suc i) b = omega arith
extent_part (w ∷ ws) (suc i) b = omega (arith, extent_part ws i (b / 2))

-- ---- writing and reading

-- past the last field
abbrev pub no_field : Field
no_field = field 0 0 0

-- each field's value is what reading finds: its bytes in s, the first field's at `at`, where its bit stands in b, else its absent value
abbrev pub AsRead : List ℕ → ℕ → ℕ → List Field → Type 0
AsRead s at b fs = (i : ℕ) → i < length fs
    → cond (stands b i) (number (get_or (widths_of fs) i 0) s (at + extent (take i (widths_of fs)) b)) (get_or fs i no_field).absent ≡ (get_or fs i no_field).value

-- each value fits its bytes
abbrev pub Fits : List Field → Type 0
Fits fs = (i : ℕ) → i < length fs → (get_or fs i no_field).value < 256 ^ (get_or fs i no_field).width

-- one field that was written is read
field-written : (f : Field) (s : List ℕ) (at : ℕ) (rest : List ℕ) → drop at s ≡ field_bytes f ++ rest → f.value < 256 ^ f.width
    → cond (differs f) (number f.width s at) f.absent ≡ f.value
field-written f s at rest = go (eqb f.value f.absent) refl
  where
    go : (t : Bool) → eqb f.value f.absent ≡ t → drop at s ≡ cond (not t) (bytes f.width f.value) [] ++ rest → f.value < 256 ^ f.width
        → cond (not t) (number f.width s at) f.absent ≡ f.value
    go true e d h = sym (eqb-true f.value f.absent e)
    go false e d h = number-bytes f.width f.value s at rest d h

-- fields that were written are read
pub fields-written : (fs : List Field) (s : List ℕ) (at : ℕ) (rest : List ℕ) → drop at s ≡ fields_bytes fs ++ rest → Fits fs → AsRead s at (bit_map fs) fs
unfolding fields_bytes bit_map
fields-written [] s at rest d h i l = absurd (omega arith)
fields-written (f ∷ fs) s at rest d h zero l =
    rw (odd-bit (differs f) (bit_map fs), add-zero at)
    (field-written f s at (fields_bytes fs ++ rest) (d ∙ append_assoc (field_bytes f) (fields_bytes fs) rest) (h 0 l))
fields-written (f ∷ fs) s at rest d h (suc i) l =
    let next : drop (at + length (field_bytes f)) s ≡ fields_bytes fs ++ rest
    = sym (drop-drop (length (field_bytes f)) at s)
    ∙ (ap (drop (length (field_bytes f))) (d ∙ append_assoc (field_bytes f) (fields_bytes fs) rest) ∙ drop-append_seam (field_bytes f) (fields_bytes fs ++ rest)) in
    rw (odd-bit (differs f) (bit_map fs), half_bit (differs f) (bit_map fs), ← add_assoc, ← length-field f)
    (fields-written fs s (at + length (field_bytes f)) rest next (λ j m. h (suc j) (omega arith)) i (omega arith))

-- and none of them is needless
pub none_needless : (fs : List Field) → needless (bit_map fs) fs ≡ false
unfolding bit_map
none_needless [] = refl
none_needless (f ∷ fs) = rw (odd-bit (differs f) (bit_map fs), half_bit (differs f) (bit_map fs), none_needless fs) (off (differs f))
  where
    off : (t : Bool) → ((t && not t) || false) ≡ false
    off true = refl
    off false = refl

-- one field that was read is written
field_read : (f : Field) (s : List ℕ) (at : ℕ) (t : Bool) → AreBytes s → at + cond t f.width 0 ≤ length s → (t && not (differs f)) ≡ false
    → cond t (number f.width s at) f.absent ≡ f.value
    → (differs f ≡ t) × (field_bytes f ≡ take (cond t f.width 0) (drop at s))
field_read f s at true small h n e =
    let d : differs f ≡ true = not-false (differs f) n in
    (d, rw (d, ← e) (bytes-number f.width s at small h))
field_read f s at false small h n e =
    let d : differs f ≡ false = ap not (eq-eqb f.value f.absent (sym e)) in
    (d, rw d)

-- fields that were read are written
pub fields_read : (fs : List Field) (s : List ℕ) (at b : ℕ) → AreBytes s → b < 2 ^ length fs → at + extent (widths_of fs) b ≤ length s
    → needless b fs ≡ false → AsRead s at b fs → (bit_map fs ≡ b) × (fields_bytes fs ≡ take (extent (widths_of fs) b) (drop at s))
unfolding fields_bytes bit_map
fields_read [] s at b small m h n r = (omega arith, refl)
fields_read (f ∷ fs) s at b small m h n r =
    let w = cond (odd b) f.width 0 in
    let (n0, n1) = or_false (odd b && not (differs f)) (needless (b / 2) fs) n in
    let (d, x) = field_read f s at (odd b) small (omega arith) n0 (rw (add-zero at) at (r 0 (omega arith))) in
    let (e, y) = fields_read fs s (at + w) (b / 2) small (omega (arith, pow-suc 2 (length fs))) (omega arith) n1 (λ i l. rw add_assoc (r (suc i) (omega arith))) in
    (rw (d, e) (bit_half b), rw (x, y, take-add, drop-drop))
