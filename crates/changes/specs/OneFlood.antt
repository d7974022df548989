-- What a delivery gives on the flood of its wavelength alone, after the answer to the record. Definitions only.
use Rattle.std.specs.Prelude.{ℕ, ◌≡◌, List, Result, Ok, Err}
use Rattle.scan.specs.Entry.{at}
use Rattle.mesh.specs.declared.Mesh.{Mesh}
use Rattle.mesh.specs.declared.Reason.{Reason}
use Rattle.mesh.specs.Answer.{Answer, Accepted}
use Rattle.flood.specs.declared.Flood.{Flood}
use Rattle.flood.specs.Digraph.{Digraph}
use Rattle.flood.specs.Machine.{step}
use Rattle.wavelengths.specs.Wavelength.{wavelength_of}
use Rattle.formed.specs.Cut.{Cut}
use Rattle.formed.specs.Formed.{cut_link}
use Rattle.refusals.specs.Refusals.{deliver_answer}
use Rattle.pieces.specs.Given.{Given}
use Rattle.pieces.specs.Pieces.{digraph, lost}
use Rattle.backup.specs.declared.Acted.{Acted}

-- what a delivery on link k says that leaves the flood f: the state of its link, and the nodes from which and to which it leads
abbrev pub acted_on : Digraph → ℕ → Flood → Acted
acted_on g k f = record { state = at f.states k; tail = g.tail k; head = g.head k }

-- on link k and the wavelength with the number n, whose flood is f; t is the answer to the record. It leaves `got` and gives r. What an accepted delivery
-- does is said of a mesh of which the count, the ends and the cut are given
pub record OnOneFlood (t : Answer) (count : ℕ) (directions ends : List ℕ) (c : Cut) (f : Flood) (k n : ℕ) (got : Flood) (r : Result Acted Reason) : Type 0 where
  pub refused : (why : Reason) → deliver_answer t count c f.states k n ≡ Err why → (r ≡ Err why) × (got ≡ f)
  pub stepped : deliver_answer t count c f.states k n ≡ Accepted → (m : Mesh) → Given m count ends (cut_link c)
      → let g = digraph m directions (wavelength_of n) in
      (r ≡ Ok (acted_on g k got)) × (got ≡ step g (lost m directions c (wavelength_of n)) k f)
