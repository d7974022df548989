-- Faults among the entries of a plan or a session (01's refusal 13): an entry that is too high, one past the last link that is not zero, a reached
-- node that is none. Definitions only.
use Rattle.std.specs.Prelude.{ℕ, Bool, cond, not, ◌&&◌, List, eqb, ltb, leb}
use Rattle.std.specs.Int.Bits.{bit_or}
use Rattle.scan.specs.Entry.{at, has}
use Rattle.scan.specs.Lowest.{any}
use Rattle.faults.specs.declared.Kind.{Kind}
use Rattle.faults.specs.declared.Kind.TheVariants as kinds

-- entry i, of value v, is above `top`, or past the last link and not zero
unfoldable pub is_over : ℕ → ℕ → ℕ → ℕ → Bool
is_over links top i v = ltb (cond (ltb i links) top 0) v

-- some of the 256 entries is
unfoldable pub overflows : ℕ → ℕ → List ℕ → Bool
overflows links top entries = any (λ i. is_over links top i (at entries i)) 256

-- node v is reached, as r says, and not below N
unfoldable pub is_stray : ℕ → ℕ → Bool → Bool
is_stray nodes v r = leb nodes v && r

-- some of the 64 nodes is
unfoldable pub strays : ℕ → List Bool → Bool
strays nodes reached = any (λ v. is_stray nodes v (has reached v)) 64

-- the highest number that an entry may be
abbrev pub highest : Kind → ℕ
highest kinds.Direction = 1
highest kinds.State = 4

-- the bits of three numbers
abbrev pub joined_bits : ℕ → ℕ → ℕ → ℕ
joined_bits a b c = bit_or (bit_or a b) c

-- entry i of one of three arrays is not zero
abbrev pub is_used : List ℕ → List ℕ → List ℕ → ℕ → Bool
is_used a b c i = not (eqb (joined_bits (at a i) (at b i) (at c i)) 0)

-- entry i is past the last link, and in use
abbrev pub is_leftover : ℕ → (ℕ → Bool) → ℕ → Bool
is_leftover links used i = leb links i && used i
