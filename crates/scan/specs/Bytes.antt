-- Numbers as bytes, low byte first. A number that was written is read, and the bytes of a number that was read are written. Assumes nothing.
use Rattle.std.specs.Prelude.{ℕ, zero, suc, ◌+◌, ◌-◌, ◌*◌, ◌/◌, ◌%◌, ◌^◌, ◌≤◌, ◌<◌, ◌≡◌, refl, List, [], ◌∷◌, ◌++◌, length, get_or, take, drop}
use Rattle.std.proofs.Common.{sym, ◌∙◌, ap, pow-suc, add-one, arith, drop-drop, drop-cons, get_or-drop}
use Rattle.std.proofs.Math.ListN.{get_or-append}
use Rattle.scan.specs.Part.{front}

-- the w low bytes of x
abbrev pub bytes : ℕ → ℕ → List ℕ
bytes zero x = []
bytes (suc w) x = x % 256 ∷ bytes w (x / 256)

-- the number in the w bytes of s from `at` on
abbrev pub number : ℕ → List ℕ → ℕ → ℕ
number zero s at = 0
number (suc w) s at = get_or s at 0 + 256 * number w s (at + 1)

-- each element of the list is a byte, as the type of a slice of bytes ensures
abbrev pub AreBytes : List ℕ → Type 0
AreBytes s = (i : ℕ) → get_or s i 0 < 256

pub length-bytes : (w x : ℕ) → length (bytes w x) ≡ w
length-bytes zero x = refl
length-bytes (suc w) x = ap suc (length-bytes w (x / 256))

pub number_below : (w : ℕ) (s : List ℕ) (at : ℕ) → AreBytes s → number w s at < 256 ^ w
number_below zero s at small = omega arith
number_below (suc w) s at small =
    let k : 256 ^ suc w ≡ 256 ^ w * 256 = pow-suc 256 w in
    omega (arith, small at, number_below w s (at + 1) small)

pub number-bytes : (w x : ℕ) (s : List ℕ) (at : ℕ) (post : List ℕ) → drop at s ≡ bytes w x ++ post → x < 256 ^ w → number w s at ≡ x
number-bytes zero x s at post e h = omega arith
number-bytes (suc w) x s at post e h =
    let f : get_or s at 0 ≡ x % 256 = sym (front s at) ∙ ap (λ (l : List ℕ). get_or l 0 0) e in
    let t : drop (at + 1) s ≡ bytes w (x / 256) ++ post = sym (drop-drop 1 at s) ∙ ap (drop 1) e in
    let k : 256 ^ suc w ≡ 256 ^ w * 256 = pow-suc 256 w in
    let r : number w s (at + 1) ≡ x / 256 = number-bytes w (x / 256) s (at + 1) post t (omega arith) in
    rw (f, r) (omega arith)

pub bytes-number : (w : ℕ) (s : List ℕ) (at : ℕ) → AreBytes s → at + w ≤ length s → bytes w (number w s at) ≡ take w (drop at s)
bytes-number zero s at small h = refl
bytes-number (suc w) s at small h =
    let g = get_or s at 0 in
    let r = number w s (at + 1) in
    let lo : (g + 256 * r) % 256 ≡ g = omega (arith, small at) in
    let hi : (g + 256 * r) / 256 ≡ r = omega (arith, small at) in
    rw (lo, hi, drop-cons s at 0 (omega arith), ← add-one at) (ap (λ (l : List ℕ). g ∷ l) (bytes-number w s (at + 1) small (omega arith)))

pub bytes_drop : (s : List ℕ) (k : ℕ) → AreBytes s → AreBytes (drop k s)
bytes_drop s k small i = rw (get_or-drop k s i 0) (small (k + i))

-- a number is in its own bytes alone
pub number_append : (w : ℕ) (s more : List ℕ) (at : ℕ) → at + w ≤ length s → number w (s ++ more) at ≡ number w s at
number_append zero s more at h = refl
number_append (suc w) s more at h = rw (get_or-append s more 0 at (omega arith), number_append w s more (at + 1) (omega arith))

-- the bytes from byte i on, of which x is what is left of the number: one byte more, and the end
pub bytes_next : (w i x : ℕ) → i < w → bytes (w - i) x ≡ x % 256 ∷ bytes (w - (i + 1)) (x / 256)
bytes_next w i x h = let e : w - i ≡ suc (w - (i + 1)) = omega arith in ap (λ (k : ℕ). bytes k x) e

pub bytes-end : (w i x : ℕ) → w ≤ i → bytes (w - i) x ≡ []
bytes-end w i x h = let e : w - i ≡ 0 = omega arith in rw e
