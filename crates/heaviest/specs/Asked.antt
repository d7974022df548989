-- What an input asks for: a drill with so many middle nodes, or none. Definitions only.
use Rattle.std.specs.Prelude.{ℕ, Option, Some, None}

abbrev pub Asked : Type 0
Asked = Option ℕ

pattern abbrev pub Middles : ℕ → Asked
Middles m = Some m

pattern abbrev pub Refused : Asked
Refused = None
