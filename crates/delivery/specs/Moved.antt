-- What a delivery on lent arrays says. Definitions only.
use Rattle.std.specs.Prelude.{ℕ, ◌≤◌, ◌≡◌, List}
use Rattle.scan.specs.Lowest.{None}
use Rattle.flood.specs.declared.Flood.{Flood}
use Rattle.flood.specs.Lent.{busy}

-- after a delivery on link k that gives `to` and says r: where nothing below k was under way, nothing below r is
pub record Moved (states : List ℕ) (k : ℕ) (got to : Flood) (r : ℕ) : Type 0 where
  pub same : got ≡ to
  pub low : r ≤ k
  pub clear : None (busy states) k → None (busy got.states) r
