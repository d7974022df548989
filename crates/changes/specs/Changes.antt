-- What the calls that change the floods give on the pieces of a session. Definitions only.
use Rattle.std.specs.Prelude.{ℕ, ◌≡◌, List, Result}
use Rattle.mesh.specs.declared.Mesh.{Mesh}
use Rattle.mesh.specs.declared.Reason.{Reason}
use Rattle.mesh.specs.Answer.{Answer}
use Rattle.flood.specs.Digraph as failures
use Rattle.wavelengths.specs.declared.Floods.{Floods}
use Rattle.wavelengths.specs.Wavelength.{wavelength_of, on}
use Rattle.wavelengths.specs.Merge.{turn, at_rest, begin, step, run}
use Rattle.flooding.specs.declared.running.Outcome.{Outcome}
use Rattle.formed.specs.Cut.{Cut}
use Rattle.refusals.specs.Refusals.{cut_answer, deliver_answer, run_answer}
use Rattle.pieces.specs.Pieces.{chosen, giving, digraph, lost, tested}
use Rattle.backup.specs.declared.Acted.{Acted}
use Rattle.changes.specs.OneFlood.{acted_on}

module _ (m : Mesh) (directions : List ℕ) (c : Cut) (f : Floods) where
  -- a cut of link k, which leaves `got` and answers r: a flood begins on each wavelength
  pub record AfterCut (k : ℕ) (got : Floods) (r : Answer) : Type 0 where
    pub answer : r ≡ cut_answer (tested m directions c f) m.count c k
    pub floods : got ≡ chosen r f (begin (digraph m directions) (λ w. failures.cut (digraph m directions w) k) f)

  -- a delivery on link k and the wavelength with the number n, which leaves `got` and gives r
  pub record AfterDelivery (k n : ℕ) (got : Floods) (r : Result Acted Reason) : Type 0 where
    pub acted : r ≡ giving (deliver_answer (tested m directions c f) m.count c (on (wavelength_of n) f).states k n)
        (acted_on (digraph m directions (wavelength_of n)) k (on (wavelength_of n) got))
    pub floods : got ≡ chosen (deliver_answer (tested m directions c f) m.count c (on (wavelength_of n) f).states k n) f
        (step (digraph m directions) (lost m directions c) (turn k (wavelength_of n)) f)

  -- a run with the allowance n, which leaves `got` and gives r
  pub record AfterRun (n : ℕ) (got : Floods) (r : Result Outcome Reason) : Type 0 where
    pub outcome : r ≡ giving (run_answer (tested m directions c f) c)
        (record { made = (run (digraph m directions) (lost m directions c) n f).made; rest = at_rest (digraph m directions) got })
    pub floods : got ≡ chosen (run_answer (tested m directions c f) c) f (run (digraph m directions) (lost m directions c) n f).floods
