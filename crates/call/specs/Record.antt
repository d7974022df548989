-- Answers as numbers: 01's number and values for each case of the answers' enums. Definitions only.
use Rattle.std.specs.Prelude.{ℕ, Err, Ok}
use Rattle.scan.specs.Total.{bit}
use Rattle.mesh.specs.Answer.{Answer, Accepted, Refused}
use Rattle.metres.specs.Known.{Length, Metres, NotKnown}
use Rattle.recovery.specs.declared.Session.{Session}
use Rattle.recovery.specs.declared.Change.{Change}
use Rattle.recovery.specs.declared.Delivery.{Delivery}
use Rattle.recovery.specs.declared.Run.{Run}
use Rattle.recovery.specs.declared.Delivered.{Delivered}
use Rattle.recovery.specs.declared.Delivered.TheVariants as delivered
use Rattle.recovery.specs.Answers.{Report, Status}
use Rattle.recovery.specs.Answers as outcomes
use Rattle.history.specs.History.{Call, Reply, cut, deliver, run, mend, status, reply, next}
use Rattle.call.specs.declared.Numbers.{Numbers}
use Rattle.call.specs.declared.Made.{Made}

abbrev pub numbers : ℕ → ℕ → ℕ → ℕ → Numbers
numbers case first second third = record { case = case; first = first; second = second; third = third }

-- 0 a refusal, with its number and its place; 1 accepted; 2 taken, 3 turned back, 4 released, with the node that acted; 5 the deliveries that a
-- run made on both wavelengths, with 1 at rest and else 0; 6 a status whose route length is known, with the link's state, how many links are under way, and the length in metres; 7 a status whose
-- route length is not known, with the other two
abbrev pub refusal_numbers : ℕ → ℕ → Numbers
refusal_numbers number place = numbers 0 number place 0

abbrev pub change_numbers : Answer → Numbers
change_numbers Accepted = numbers 1 0 0 0
change_numbers (Err r) = refusal_numbers r.number r.place

abbrev pub delivered_numbers : Delivered → Numbers
delivered_numbers (delivered.Taken v) = numbers 2 v 0 0
delivered_numbers (delivered.TurnedBack v) = numbers 3 v 0 0
delivered_numbers (delivered.Released v) = numbers 4 v 0 0
delivered_numbers (delivered.Refused number place) = refusal_numbers number place

abbrev pub report_numbers : Report → Numbers
report_numbers (Ok o) = numbers 5 o.made (bit o.rest) 0
report_numbers (Err r) = refusal_numbers r.number r.place

abbrev pub link_numbers : ℕ → ℕ → Length → Numbers
link_numbers state under_way (Metres n) = numbers 6 state under_way n
link_numbers state under_way NotKnown = numbers 7 state under_way 0

abbrev pub status_numbers : Status → Numbers
status_numbers (Ok l) = link_numbers l.state l.under_way l.route
status_numbers (Err r) = refusal_numbers r.number r.place

-- the numbers of a call's answer
abbrev pub reply_numbers : (c : Call) → Reply c → Numbers
reply_numbers (cut f k) a = change_numbers a
reply_numbers (deliver f k u) d = delivered_numbers d
reply_numbers (run n) r = report_numbers r
reply_numbers (mend f k) a = change_numbers a
reply_numbers (status k u) t = status_numbers t

abbrev pub made : Session → Numbers → Made
made s a = record { session = s; answer = a }

abbrev pub made_change : Change → Made
made_change c = made c.session (change_numbers c.answer)

abbrev pub made_delivery : Delivery → Made
made_delivery d = made d.session (delivered_numbers d.answer)

abbrev pub made_run : Run → Made
made_run r = made r.session (report_numbers r.report)

-- a call made: the session that it returns or leaves, and its answer
abbrev pub made_of : Call → Session → Made
made_of c s = made (next c s) (reply_numbers c (reply c s))
