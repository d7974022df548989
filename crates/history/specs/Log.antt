-- What the answers of a list of calls say: the cut that stands, and the deliveries made since, in order (01, "Demand 3: its list and its words"; 02,
-- request 2). Definitions only.
use Rattle.std.specs.Prelude.{ℕ, cond, List, [], ◌∷◌, ◌++◌, length, Err, Ok}
use Rattle.mesh.specs.Answer.{Accepted, Refused}
use Rattle.flood.specs.Digraph.{Digraph}
use Rattle.wavelengths.specs.declared.Wavelength.{Wavelength}
use Rattle.wavelengths.specs.Wavelength.{wavelength_of}
use Rattle.wavelengths.specs.Merge.{Turn, turn, links_on}
use Rattle.formed.specs.Cut.{Cut}
use Rattle.formed.specs.Cut as stands
use Rattle.recovery.specs.Answers as outcomes
use Rattle.history.specs.History.{Call, Reply, Answered, cut, deliver, run, mend, status, accepted}
use Rattle.history.specs.Rules.{Now, run_made, rule_next}

-- the cut that stands, and the deliveries accepted since, each a link and a wavelength
pub record Log : Type 0 where
  pub cut : Cut
  pub made : List Turn

abbrev pub empty_log : Log
empty_log = record { cut = stands.Nothing; made = [] }

-- the links of those on wavelength w, in order; how many they are
abbrev pub made_on : Wavelength → Log → List ℕ
made_on w l = links_on w l.made

abbrev pub deliveries_on : Wavelength → Log → ℕ
deliveries_on w l = length (made_on w l)

module _ (g : Digraph) where
  -- accepted deliveries: the delivery calls answered taken, turned back or released, and each delivery that a run makes. A run reports one number for both
  -- wavelengths, so that its deliveries are those that the rules make where they stand at n
  abbrev pub made_by : (c : Call) → Reply c → Now → List Turn
  made_by (deliver f k u) d n = cond (accepted d) (turn k (wavelength_of u) ∷ []) []
  made_by (run a) (Ok o) n = run_made g n.cut a n
  made_by (run a) (Err r) n = []
  made_by (cut f k) a n = []
  made_by (mend f k) a n = []
  made_by (status k u) a n = []

  -- a cut stands from when it was accepted until a mend was
  abbrev pub note : (c : Call) → Reply c → Now → Log → Log
  note (cut f k) Accepted n l = record { cut = stands.Link k; made = [] }
  note (cut f k) (Err r) n l = l
  note (mend f k) Accepted n l = empty_log
  note (mend f k) (Err r) n l = l
  note (deliver f k u) d n l = record { cut = l.cut; made = l.made ++ made_by (deliver f k u) d n }
  note (run a) r n l = record { cut = l.cut; made = l.made ++ made_by (run a) r n }
  note (status k u) t n l = l

  -- over calls with their answers, the rules standing at n before them
  unfoldable pub logged : List Answered → Now → Log → Log
  logged [] n l = l
  logged ((c, a) ∷ rest) n l = logged rest (rule_next g c n) (note c a n l)
