-- The record of a session (01, "Refusals from the input"): its pieces are well formed, and are tested. Definitions only.
use Rattle.mesh.specs.Answer.{Answer}
use Rattle.formed.specs.Formed as test
use Rattle.formed.specs.WellFormed as words
use Rattle.recovery.specs.declared.Session.{Session}
use Rattle.recovery.specs.Session.{floods}

-- a well-formed record
abbrev pub Formed : Session → Type 0
Formed s = words.Formed s.mesh s.plan s.cut (floods s)

-- its test: mesh, 13
abbrev pub record_answer : Session → Answer
record_answer s = test.record_answer s.mesh s.plan s.cut (floods s)
