-- The length of links, and 02's route length (request 1, "Fibre length of the route"). Definitions only.
use Rattle.std.specs.Prelude.{ℕ, ◌<◌, ◌≡◌, ◌↔◌, Bool, cond, ◌&&◌, eqb}
use mathlib.Core.List.{List, Memᴰ}
use Rattle.scan.specs.Lowest.{any}
use Rattle.scan.specs.Total.{total, sum_of}
use Rattle.metres.specs.Known.{Length, Metres, NotKnown}

-- of the links below n those that are on: the sum of their lengths in metres, or not known where one of these is not measured, which is length 0
unfoldable pub length_of : (ℕ → ℕ) → (ℕ → Bool) → ℕ → Length
length_of length on n = cond (any (λ i. on i && eqb (length i) 0) n) NotKnown (Metres (total (λ i. cond (on i) (length i) 0) n))

-- 02's route length, where `rest` says that a cut stands and no link is under way on either wavelength: then that of the links taken (state 2) on one
-- of them, otherwise 0 metres
unfoldable pub route_length : Bool → (ℕ → ℕ) → (ℕ → ℕ) → ℕ → Length
route_length rest length state n = cond rest (length_of length (λ i. eqb (state i) 2) n) (Metres 0)

-- r is the length of the links in a row: known exactly where each of them is measured, and then the sum of their lengths
pub record LengthAlong (length : ℕ → ℕ) (row : List ℕ) (r : Length) : Type 0 where
  pub known : ((n : ℕ) × (r ≡ Metres n)) ↔ ((i : ℕ) → Memᴰ i row → 0 < length i)
  pub sum : (n : ℕ) → r ≡ Metres n → n ≡ sum_of length row
