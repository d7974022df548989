-- What a call answers: the refusal of the rules, or what they answer of the session that they make. Assumes nothing.
use Rattle.std.specs.Prelude.{ℕ, ◌≡◌, Err}
use Rattle.std.proofs.Math.Path.{refl, ap}
use Rattle.std.proofs.Common.{◌∙◌, ap₂}
use mathlib.Core.List.{List}
use Rattle.std.proofs.Math.ListN.{length}
use Rattle.mesh.specs.Answer.{Answer, Accepted, Refused}
use Rattle.mesh.specs.WellFormed.{lengths}
use Rattle.flood.specs.Digraph.{Digraph}
use Rattle.flood.specs.Machine.{under_way, activity}
use Rattle.wavelengths.specs.declared.Floods.{Floods}
use Rattle.wavelengths.specs.declared.Wavelength.{Wavelength}
use Rattle.wavelengths.specs.Wavelength.{wavelength_of}
use Rattle.wavelengths.specs.Merge as merge
use Rattle.wavelengths.specs.Merge.{Turn}
use Rattle.wavelengths.proofs.Laws.Run.{order-accepted}
use Rattle.recovery.specs.declared.Session.{Session}
use Rattle.recovery.specs.Session.{floods}
use Rattle.recovery.specs.Answers as outcomes
use Rattle.recovery.specs.Formed.{record_answer}
use Rattle.recovery.specs.Calls.{digraph, failure, change, delivery_as, run_as, status_as}
use Rattle.recovery.specs.Calls.{deliver_answer, run_answer, status_answer, after_cut, after_delivery, after_run, after_mend, status_of}
use Rattle.history.specs.History.{Call, cut, deliver, run, mend, status, reply}
use Rattle.history.specs.Rules.{Now, rest, run_made, effect, changed_by, rule_next, deliver_reply, run_reply, status_reply, rule_reply}
use Rattle.history.specs.Demand.{Sized, seen, arcs}
use Rattle.history.proofs.Laws.RuledRun.{seen_of, rests_ruled}
use Rattle.history.proofs.Laws.RuledCalls.{stands_is, refusal_is, made-seen, run-made}

module _ (s : Session) where
  abbrev g : Digraph
  g = arcs s

  -- the answers by the outcome of the tests
  change-answer : (a : Answer) (t : Session) → (change a s t).answer ≡ a
  change-answer Accepted t = refl
  change-answer (Err r) t = refl

  delivery_reply : (a : Answer) (k : ℕ) (w : Wavelength) (p : Floods) (n : Now) → (a ≡ Accepted → seen_of s.cut p ≡ n)
      → (delivery_as a s k w p).answer ≡ deliver_reply g a k w (changed_by g a (seen s) n)
  delivery_reply Accepted k w p n h = ap (deliver_reply g Accepted k w) (h refl)
  delivery_reply (Err r) k w p n h = refl

  run-reply : (a : Answer) (r : merge.Ran) (ts : List Turn) (n : Now) → (a ≡ Accepted → seen_of s.cut r.floods ≡ n) → (a ≡ Accepted → r.made ≡ length ts)
      → (run_as a s r).report ≡ run_reply g a ts (changed_by g a (seen s) n)
  run-reply Accepted r ts n h e =
      ap (outcomes.Made r.made) (rests_ruled g s.cut r.floods) ∙ ap₂ (λ (m : ℕ) (now : Now). outcomes.Made m (rest g now)) (e refl) (h refl)
  run-reply (Err why) r ts n h e = refl

  status_reply_lem : (a : Answer) (k : ℕ) (w : Wavelength) → status_as a s k w ≡ status_reply g (lengths s.mesh) a k w (seen s)
  unfolding under_way activity
  status_reply_lem Accepted k w = rw (stands_is g s.cut, rests_ruled g s.cut (floods s))
  status_reply_lem (Err r) k w = refl

  module _ (z : Sized s) (r : record_answer s ≡ Accepted) where
    -- a run makes as many deliveries as the rules make
    run-count : (n : ℕ) → run_answer s ≡ Accepted → (merge.run (digraph s) (failure s) n (floods s)).made ≡ length (run_made g s.cut n (seen s))
    unfolding merge.run
    run-count n e = order-accepted (digraph s) (failure s) n (floods s) ∙ ap length (run-made s r z n e)

    pub reply-seen : (c : Call) → reply c s ≡ rule_reply g (lengths s.mesh) c (seen s)
    unfolding after_cut after_delivery after_run after_mend status_of rule_next
    reply-seen (cut f k) = change-answer _ _ ∙ refusal_is s r (cut f k)
    reply-seen (deliver f k u) =
        let n : Now = effect g (deliver f k u) s.cut (seen s) in
        delivery_reply (deliver_answer s k u) k (wavelength_of u) _ n (made-seen s r z (deliver f k u))
        ∙ ap (λ (a : Answer). deliver_reply g a k (wavelength_of u) (changed_by g a (seen s) n)) (refusal_is s r (deliver f k u))
    reply-seen (run allowed) =
        let n : Now = effect g (run allowed) s.cut (seen s) in
        let ts : List Turn = run_made g s.cut allowed (seen s) in
        run-reply (run_answer s) (merge.run (digraph s) (failure s) allowed (floods s)) ts n (made-seen s r z (run allowed)) (run-count allowed)
        ∙ ap (λ (a : Answer). run_reply g a ts (changed_by g a (seen s) n)) (refusal_is s r (run allowed))
    reply-seen (mend f k) = change-answer _ _ ∙ refusal_is s r (mend f k)
    reply-seen (status k u) =
        status_reply_lem (status_answer s k u) k (wavelength_of u)
        ∙ ap (λ (a : Answer). status_reply g (lengths s.mesh) a k (wavelength_of u) (seen s)) (refusal_is s r (status k u))
