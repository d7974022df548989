-- The numbers of an answer tell the answer: it can be read off them. Assumes nothing.
use Rattle.std.specs.Prelude.{ℕ, Bool, ◌≡◌, refl, true, false, cond, eqb, Err, Ok}
use Rattle.mesh.specs.Answer.{Answer, Accepted, Refused}
use Rattle.metres.specs.Known.{Length}
use Rattle.metres.specs.Known as lengths
use Rattle.recovery.specs.declared.Delivered.{Delivered}
use Rattle.recovery.specs.declared.Delivered.TheVariants as delivered
use Rattle.recovery.specs.Answers.{Report, Status}
use Rattle.recovery.specs.Answers as outcomes
use Rattle.history.specs.History.{Call, Reply, cut, deliver, run, mend, status}
use Rattle.call.specs.declared.Numbers.{Numbers}
use Rattle.call.specs.Record.{change_numbers, delivered_numbers, report_numbers, status_numbers, reply_numbers}

-- ---- the answer that the numbers say

abbrev change_of : Numbers → Answer
change_of n = cond (eqb n.case 1) Accepted (Refused n.first n.second)

abbrev delivered_of : Numbers → Delivered
delivered_of n =
    cond (eqb n.case 2) (delivered.Taken n.first)
    (cond (eqb n.case 3) (delivered.TurnedBack n.first)
    (cond (eqb n.case 4) (delivered.Released n.first)
    (delivered.Refused n.first n.second)))

abbrev report_of : Numbers → Report
report_of n = cond (eqb n.case 5) (outcomes.Made n.first (eqb n.second 1)) (Refused n.first n.second)

abbrev status_of : Numbers → Status
status_of n =
    cond (eqb n.case 6) (outcomes.Link n.first n.second (lengths.Metres n.third))
    (cond (eqb n.case 7) (outcomes.Link n.first n.second lengths.NotKnown)
    (Refused n.first n.second))

abbrev pub reply_of : (c : Call) → Numbers → Reply c
reply_of (cut f k) n = change_of n
reply_of (deliver f k u) n = delivered_of n
reply_of (run a) n = report_of n
reply_of (mend f k) n = change_of n
reply_of (status k u) n = status_of n

-- ---- it is the answer that was recorded

change-told : (a : Answer) → change_of (change_numbers a) ≡ a
change-told Accepted = refl
change-told (Err r) = refl

delivered_told : (d : Delivered) → delivered_of (delivered_numbers d) ≡ d
delivered_told (delivered.Taken v) = refl
delivered_told (delivered.TurnedBack v) = refl
delivered_told (delivered.Released v) = refl
delivered_told (delivered.Refused number place) = refl

made_told : (count : ℕ) (rest : Bool) → report_of (report_numbers (outcomes.Made count rest)) ≡ outcomes.Made count rest
made_told count true = refl
made_told count false = refl

report_told : (r : Report) → report_of (report_numbers r) ≡ r
report_told (Ok o) = made_told o.made o.rest
report_told (Err r) = refl

link_told : (state under_way : ℕ) (route : Length) → status_of (status_numbers (outcomes.Link state under_way route)) ≡ outcomes.Link state under_way route
link_told state under_way (lengths.Metres n) = refl
link_told state under_way lengths.NotKnown = refl

status_told : (t : Status) → status_of (status_numbers t) ≡ t
status_told (Ok l) = link_told l.state l.under_way l.route
status_told (Err r) = refl

pub reply-told : (c : Call) (a : Reply c) → reply_of c (reply_numbers c a) ≡ a
reply-told (cut f k) a = change-told a
reply-told (deliver f k u) d = delivered_told d
reply-told (run n) r = report_told r
reply-told (mend f k) a = change-told a
reply-told (status k u) t = status_told t
