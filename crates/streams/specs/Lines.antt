-- What a buffer holds of the words and numbers that are added to it. Definitions only.
use Rattle.std.specs.Prelude.{ℕ, ◌≡◌, cond, leb, List, [], ◌∷◌, ◌++◌, length, take}
use Rattle.io.specs.Digits.{IsDigitCount, last_digits}

-- as many bytes as there is room for
abbrev pub kept : List ℕ → List ℕ
kept bytes = take 16384 bytes

-- a space and a number in decimal are added, as far as there is room
abbrev pub AddsNumber : List ℕ → List ℕ → ℕ → Type 0
AddsNumber old new n = (count : ℕ) × IsDigitCount 10 1 n count × (new ≡ kept (old ++ 32 ∷ last_digits 10 count n))

-- what is held at the end of a line: nothing where the buffer is full, since it is written
abbrev pub line_end : List ℕ → List ℕ
line_end bytes = cond (leb 14336 (length bytes)) [] bytes

-- a line is added: a word and two numbers in decimal
abbrev pub AddsPair : List ℕ → List ℕ → List ℕ → ℕ → ℕ → Type 0
AddsPair old new word first second = (c : ℕ) × (d : ℕ) × IsDigitCount 10 1 first c × IsDigitCount 10 1 second d
    × (new ≡ line_end (kept (old ++ word ++ (32 ∷ last_digits 10 c first) ++ (32 ∷ last_digits 10 d second) ++ 10 ∷ [])))
