-- A list of calls, and what each answers: the words of demand 3. Definitions only.
use Rattle.std.specs.Prelude.{ℕ, Bool, true, false, not, List, [], ◌∷◌, Err, Ok}
use Rattle.mesh.specs.Answer.{Answer, Accepted, Refused}
use Rattle.recovery.specs.declared.Session.{Session}
use Rattle.recovery.specs.declared.Delivered.{Delivered}
use Rattle.recovery.specs.declared.Delivered.TheVariants as delivered
use Rattle.recovery.specs.Answers.{Report, Status}
use Rattle.recovery.specs.Answers as outcomes
use Rattle.recovery.specs.Calls.{after_cut, after_delivery, after_run, after_mend, status_of}

-- how a call is made: on a session by value, or in place on one that the host lends (01's lent calls)
pub data Form : Type 0 where
  by_value in_place : Form

-- the calls on a session, with any argument: a link number, for a delivery and a status also a wavelength's number, for run the allowance
pub data Call : Type 0 where
  cut mend : Form → ℕ → Call
  deliver : Form → ℕ → ℕ → Call
  run : ℕ → Call
  status : ℕ → ℕ → Call

-- what each answers. A call in place gives the answer of its call by value, and leaves the session that this returns
abbrev pub Reply : Call → Type 0
Reply (cut f k) = Answer
Reply (deliver f k n) = Delivered
Reply (run a) = Report
Reply (mend f k) = Answer
Reply (status k n) = Status

abbrev pub reply : (c : Call) → Session → Reply c
reply (cut f k) s = (after_cut s k).answer
reply (deliver f k n) s = (after_delivery s k n).answer
reply (run a) s = (after_run s a).report
reply (mend f k) s = (after_mend s k).answer
reply (status k n) s = status_of s k n

-- the session that it returns or leaves
abbrev pub next : Call → Session → Session
next (cut f k) s = (after_cut s k).session
next (deliver f k n) s = (after_delivery s k n).session
next (run a) s = (after_run s a).session
next (mend f k) s = (after_mend s k).session
next (status k n) s = s

-- a delivery was accepted: it answered taken, turned back or released
abbrev pub accepted : Delivered → Bool
accepted (delivered.Taken v) = true
accepted (delivered.TurnedBack v) = true
accepted (delivered.Released v) = true
accepted (delivered.Refused number place) = false

-- a call was refused
abbrev pub is_refusal : Answer → Bool
is_refusal Accepted = false
is_refusal (Err r) = true

abbrev pub refused : (c : Call) → Reply c → Bool
refused (cut f k) a = is_refusal a
refused (deliver f k n) d = not (accepted d)
refused (run a) (Ok o) = false
refused (run a) (Err r) = true
refused (mend f k) a = is_refusal a
refused (status k n) (Ok l) = false
refused (status k n) (Err r) = true

-- the answer that refuses a call with this number at this place
abbrev pub refused_at : (c : Call) → ℕ → ℕ → Reply c
refused_at (cut f k) number place = Refused number place
refused_at (deliver f k n) number place = delivered.Refused number place
refused_at (run a) number place = Refused number place
refused_at (mend f k) number place = Refused number place
refused_at (status k n) number place = Refused number place

-- the session after the calls, each on the session as the one before returned or left it
unfoldable pub after : List Call → Session → Session
after [] s = s
after (c ∷ cs) s = after cs (next c s)

-- the calls, each with its answer
abbrev pub Answered : Type 0
Answered = (c : Call) × Reply c

unfoldable pub answers : List Call → Session → List Answered
answers [] s = []
answers (c ∷ cs) s = (c, reply c s) ∷ answers cs (next c s)
