-- What a delivery gives. Definitions only.
use Rattle.std.specs.Prelude.{ℕ, ◌≡◌}
use Rattle.scan.specs.Entry.{at}
use Rattle.flood.specs.declared.Flood.{Flood}
use Rattle.flood.specs.Digraph.{Digraph, Failure}
use Rattle.flood.specs.Machine.{step}
use Rattle.backup.specs.declared.Acted.{Acted}

-- a delivery on link j from the flood f, which leaves `got` and says r
pub record Stepped (g : Digraph) (c : Failure) (j : ℕ) (f got : Flood) (r : Acted) : Type 0 where
  pub same : got ≡ step g c j f
  pub state : r.state ≡ at got.states j
  pub tail : r.tail ≡ g.tail j
  pub head : r.head ≡ g.head j
