-- The ends of a mesh's links as numbers, 256 × low + high, and what the quick tests say of an entry. Definitions only.
use Rattle.std.specs.Prelude.{ℕ, ◌-◌, ◌/◌, ◌%◌, ◌<◌, ◌≤◌, List}
use Rattle.scan.specs.Entry.{at}

-- the low and the high end of such a number
abbrev pub low_of : ℕ → ℕ
low_of e = e / 256

abbrev pub high_of : ℕ → ℕ
high_of e = e % 256

-- the low end of entry i is below its high end, and that is one of n nodes
abbrev pub Fits : ℕ → List ℕ → ℕ → Type 0
Fits n ends i = (low_of (at ends i) < high_of (at ends i)) × (high_of (at ends i) < n)

-- entry i is 0, or not below the entry before it
abbrev pub Rising : List ℕ → ℕ → Type 0
Rising ends i = 0 < at ends i → at ends (i - 1) ≤ at ends i
