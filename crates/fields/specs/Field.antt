-- Fields that are written only where they differ from their absent value, and the bit map that says which are. Definitions only.
use Rattle.std.specs.Prelude.{ℕ, zero, suc, ◌+◌, ◌*◌, ◌/◌, ◌%◌, List, [], ◌∷◌, ◌++◌, map, Bool, false, cond, not, ◌&&◌, ◌||◌, eqb}
use Rattle.scan.specs.Bytes.{bytes}
use Rattle.scan.specs.Total.{bit}

-- how many bytes a field takes, its value, and its value when absent
pub record Field : Type 0 where
  pub width : ℕ
  pub value : ℕ
  pub absent : ℕ

abbrev pub field : ℕ → ℕ → ℕ → Field
field w v a = record { width = w; value = v; absent = a }

-- the bytes of each field
abbrev pub widths_of : List Field → List ℕ
widths_of fs = map (λ (f : Field). f.width) fs

abbrev pub sum : List ℕ → ℕ
sum [] = 0
sum (w ∷ ws) = w + sum ws

-- ---- writing

-- a field equal to its absent value is not written
abbrev pub differs : Field → Bool
differs f = not (eqb f.value f.absent)

abbrev pub field_bytes : Field → List ℕ
field_bytes f = cond (differs f) (bytes f.width f.value) []

-- the fields that are written, in bit order
unfoldable pub fields_bytes : List Field → List ℕ
fields_bytes [] = []
fields_bytes (f ∷ fs) = field_bytes f ++ fields_bytes fs

-- bit i stands where field i is written
unfoldable pub bit_map : List Field → ℕ
bit_map [] = 0
bit_map (f ∷ fs) = bit (differs f) + 2 * bit_map fs

-- ---- reading

-- the lowest bit stands
abbrev pub odd : ℕ → Bool
odd b = eqb (b % 2) 1

-- the bits of b from bit i on
abbrev pub bits_from : ℕ → ℕ → ℕ
bits_from b zero = b
bits_from b (suc i) = bits_from (b / 2) i

-- bit i of b stands
abbrev pub stands : ℕ → ℕ → Bool
stands b i = odd (bits_from b i)

-- how many bytes the fields of these widths take whose bits stand in b
abbrev pub extent : List ℕ → ℕ → ℕ
extent [] b = 0
extent (w ∷ ws) b = cond (odd b) w 0 + extent ws (b / 2)

-- some field whose bit stands in b equals its absent value
abbrev pub needless : ℕ → List Field → Bool
needless b [] = false
needless b (f ∷ fs) = (odd b && not (differs f)) || needless (b / 2) fs
