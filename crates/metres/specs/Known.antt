-- 02's length: a number of metres, or not known. Definitions only.
use Rattle.std.specs.Prelude.{ℕ, Option, Some, None}

abbrev pub Length : Type 0
Length = Option ℕ

pattern abbrev pub Metres : ℕ → Length
Metres n = Some n

pattern abbrev pub NotKnown : Length
NotKnown = None
