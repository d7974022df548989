-- The pieces of a session: a mesh, the directions of a plan, a cut and a flood on each wavelength. Definitions only.
use Rattle.std.specs.Prelude.{List, ℕ, Result, Ok, Err}
use Rattle.mesh.specs.declared.Mesh.{Mesh}
use Rattle.mesh.specs.declared.Reason.{Reason}
use Rattle.mesh.specs.Answer.{Answer, Accepted, Refused}
use Rattle.wavelengths.specs.declared.Floods.{Floods}
use Rattle.wavelengths.specs.declared.Wavelength.{Wavelength}
use Rattle.flood.specs.Digraph.{Digraph, Failure}
use Rattle.flood.specs.Digraph as failures
use Rattle.formed.specs.Cut.{Cut}
use Rattle.formed.specs.Formed.{cut_link, record_answer}
use Rattle.topology.specs.Backup.{backup_on}

-- what becomes of a piece: `after` where the answer accepts, and `before` where it refuses
abbrev pub chosen : {A : Type 0} → Answer → A → A → A
chosen Accepted before after = after
chosen (Err r) before after = before

-- what a call gives: `what` where the answer accepts, else the refusal
abbrev pub giving : {A : Type 0} → Answer → A → Result A Reason
giving Accepted what = Ok what
giving (Err r) what = Err r

-- the back-up digraph of each wavelength
abbrev pub digraph : Mesh → List ℕ → Wavelength → Digraph
digraph m directions w = backup_on w m (record { directions = directions })

-- what is lost on each with the cut link
abbrev pub lost : Mesh → List ℕ → Cut → Wavelength → Failure
lost m directions c w = failures.cut (digraph m directions w) (cut_link c)

-- the answer to the record
abbrev pub tested : Mesh → List ℕ → Cut → Floods → Answer
tested m directions c f = record_answer m (record { directions = directions }) c f
