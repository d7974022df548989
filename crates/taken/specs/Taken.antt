-- Which links are taken. Definitions only.
use Rattle.std.specs.Prelude.{ℕ, Bool, List, eqb}
use Rattle.scan.specs.Entry.{at}

-- link i is taken: its state is 2
abbrev pub is_taken : List ℕ → ℕ → Bool
is_taken states i = eqb (at states i) 2
