-- A refused call leaves the session as it was, and a call on a session whose record is refused answers that refusal, whatever the session and the form of
-- the call. Assumes nothing.
use Rattle.std.specs.Prelude.{ℕ, ◌≡◌, refl, true, not, Err}
use Rattle.std.proofs.Common.{ap}
use Rattle.scan.specs.Entry.{at}
use Rattle.scan.specs.Test.{clash}
use Rattle.mesh.specs.Answer.{Answer, Accepted, Refused}
use Rattle.wavelengths.specs.declared.Floods.{Floods}
use Rattle.wavelengths.specs.declared.Wavelength.{Wavelength}
use Rattle.wavelengths.specs.Wavelength.{wavelength_of, on}
use Rattle.wavelengths.specs.Merge as merge
use Rattle.recovery.specs.declared.Session.{Session}
use Rattle.recovery.specs.Formed.{record_answer}
use Rattle.refusals.specs.Refusals as refusals
use Rattle.recovery.specs.Calls.{digraph, cut_answer, deliver_answer, run_answer, mend_answer, status_answer, change, delivery_as, run_as}
use Rattle.recovery.specs.Calls.{after_cut, after_delivery, after_run, after_mend, status_of}
use Rattle.history.specs.History.{Call, cut, deliver, run, mend, status, reply, next, accepted, is_refusal, refused, refused_at}
use Rattle.history.proofs.Laws.Kept.{acted-accepted}

change_keeps : (a : Answer) (s t : Session) → is_refusal (change a s t).answer ≡ true → (change a s t).session ≡ s
change_keeps Accepted s t e = clash e refl
change_keeps (Err r) s t e = refl

delivery_keeps : (a : Answer) (s : Session) (k : ℕ) (w : Wavelength) (p : Floods)
    → not (accepted (delivery_as a s k w p).answer) ≡ true → (delivery_as a s k w p).session ≡ s
delivery_keeps Accepted s k w p e = clash e (ap not (acted-accepted ((digraph s w).tail k) ((digraph s w).head k) (at (on w p).states k)))
delivery_keeps (Err r) s k w p e = refl

run_keeps : (n : ℕ) (a : Answer) (s : Session) (r : merge.Ran) → refused (run n) (run_as a s r).report ≡ true → (run_as a s r).session ≡ s
run_keeps n Accepted s r e = clash e refl
run_keeps n (Err why) s r e = refl

pub refused_keeps : (c : Call) (s : Session) → refused c (reply c s) ≡ true → next c s ≡ s
unfolding after_cut after_delivery after_run after_mend
refused_keeps (cut f k) s e = change_keeps (cut_answer s k) s _ e
refused_keeps (deliver f k u) s e = delivery_keeps (deliver_answer s k u) s k (wavelength_of u) _ e
refused_keeps (run n) s e = run_keeps n (run_answer s) s _ e
refused_keeps (mend f k) s e = change_keeps (mend_answer s k) s _ e
refused_keeps (status k u) s e = refl

-- the record's refusal comes before all others
pub record_refusal-answers : (s : Session) (number place : ℕ) → record_answer s ≡ Refused number place → (c : Call) → reply c s ≡ refused_at c number place
unfolding after_cut after_delivery after_run after_mend status_of refusals.cut_answer refusals.deliver_answer refusals.run_answer refusals.mend_answer refusals.status_answer
record_refusal-answers s number place e (cut f k) = rw (e, reply)
record_refusal-answers s number place e (deliver f k u) = rw (e, reply)
record_refusal-answers s number place e (run n) = rw (e, reply)
record_refusal-answers s number place e (mend f k) = rw (e, reply)
record_refusal-answers s number place e (status k u) = rw (e, reply)
