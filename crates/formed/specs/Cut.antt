-- 01's cut link, or none. Definitions only.
use Rattle.std.specs.Prelude.{ℕ, Option, Some, None}

abbrev pub Cut : Type 0
Cut = Option ℕ

pattern abbrev pub Nothing : Cut
Nothing = None

pattern abbrev pub Link : ℕ → Cut
Link k = Some k
