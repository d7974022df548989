-- A list of the calls from before wavelength 2: the session after them, the cut that then stands, and the deliveries made since (01, "Demand 3: its list
-- and its words"). Definitions only.
use Rattle.std.specs.Prelude.{ℕ, List, [], ◌∷◌, ◌++◌, Err}
use Rattle.mesh.specs.Answer.{Answer, Accepted, Refused}
use Rattle.legacy.specs.declared.OldCut.{OldCut}
use Rattle.legacy.specs.declared.OldCut.TheVariants as cuts
use Rattle.legacy.specs.declared.OldSession.{OldSession}
use Rattle.legacy.specs.Calls.{Call, cut, deliver, mend, status, run, answer, makes, next}

-- the cut that stands, and the links of the deliveries accepted since, in order
pub record Log : Type 0 where
  pub cut : OldCut
  pub made : List ℕ

abbrev pub empty_log : Log
empty_log = record { cut = cuts.Nothing; made = [] }

-- a cut stands from when it was accepted until a mend was; accepted deliveries are those of the delivery calls that were accepted, and each that a run makes
abbrev pub noted : Call → OldSession → Log → Log
noted (cut k) s l = record { cut = cuts.Link k; made = [] }
noted (mend k) s l = empty_log
noted (deliver k) s l = record { cut = l.cut; made = l.made ++ makes (deliver k) s }
noted (run a) s l = record { cut = l.cut; made = l.made ++ makes (run a) s }
noted (status k) s l = l

-- a refused call is not noted
abbrev pub note : Answer → Call → OldSession → Log → Log
note Accepted c s l = noted c s l
note (Err r) c s l = l

-- the session after the calls, each on the session as the one before returned it
unfoldable pub after : List Call → OldSession → OldSession
after [] s = s
after (c ∷ cs) s = after cs (next c s)

-- what they say
unfoldable pub logged : List Call → OldSession → Log → Log
logged [] s l = l
logged (c ∷ cs) s l = logged cs (next c s) (note (answer c s) c s l)
