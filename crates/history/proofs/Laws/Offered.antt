-- The links that the rules ever offered since the cut are those that are not quiet: a state never falls, and leaves 0 only for 1. Assumes 256 entries in the
-- mesh's list of links.
use Rattle.std.specs.Prelude.{ℕ, ◌≤◌, ◌≡◌, ◌||◌, eqb, ltb, length, Err}
use Rattle.std.proofs.Math.Path.{refl, subst}
use Rattle.std.proofs.Common.{sym, ⊎_elim, arith, lt-ltb, le-ltb, eq-eqb, ne_eqb}
use mathlib.Core.List.{List, [], ◌∷◌}
use Rattle.std.proofs.Math.Decide.{dec_lt}
use Rattle.scan.specs.Test.{clash, known}
use Rattle.scan.specs.Entry.{at, replicate-at}
use Rattle.flood.specs.Digraph.{Digraph, Failure, Sound}
use Rattle.flood.specs.Digraph as failures
use Rattle.flood.specs.Machine.{Roomy, fresh}
use Rattle.flood.specs.Laws.Frame.{frame_room}
use Rattle.flood.specs.Laws.Begin.{begin-at_most_1}
use Rattle.flood.specs.Laws.Ever.{step_rises}
use Rattle.wavelengths.specs.declared.Floods.{Floods}
use Rattle.wavelengths.specs.declared.Wavelength.{Wavelength}
use Rattle.wavelengths.specs.Wavelength.{same, wavelength_of, arcs_on, on}
use Rattle.wavelengths.specs.Merge as merge
use Rattle.wavelengths.specs.Merge.{Turn, turn, fresh_on_each, step, play, order}
use Rattle.wavelengths.proofs.Laws.Project.{fresh_on_lem, on-begin, step-own, step_other, accepted-first}
use Rattle.wavelengths.proofs.Laws.Run.{order-accepted}
use Rattle.mesh.specs.declared.Mesh.{Mesh}
use Rattle.mesh.specs.declared.Plan.{Plan}
use Rattle.mesh.specs.Answer.{Answer, Accepted, Refused}
use Rattle.mesh.specs.Laws.Checked.{passes}
use Rattle.planner.specs.Plan.{planned}
use Rattle.planner.specs.Laws.Meaning.{plan_checked}
use Rattle.formed.specs.Cut.{Cut, Link}
use Rattle.recovery.specs.declared.Session.{Session}
use Rattle.recovery.specs.Session.{floods}
use Rattle.recovery.specs.Calls.{change}
use Rattle.recovery.specs.Laws.Tested.{cut-accepted, deliver_accepted, run-accepted}
use Rattle.history.specs.History.{Call, cut, deliver, run, mend, status, next, after}
use Rattle.history.specs.Log.{Log}
use Rattle.history.specs.Rules.{Now, start, changed_by, refusal}
use Rattle.history.specs.Offered.{Offered, none_offered, and_at, offered_along, offered_by, offered_next, offered}
use Rattle.history.specs.Demand.{seen, digraph_on, ended}
use Rattle.history.proofs.Laws.RuledCalls.{answer_of, made, refusal_is, made-seen, run-made}
use Rattle.history.proofs.Laws.RuledNext.{next_is}
use Rattle.history.proofs.Laws.Kept as kept
use Rattle.history.proofs.Laws.Kept.{cut_session, begun, played, Since, Kept, free, under, one_accepted, kept_sized, call_kept, next-now, blank}
use Rattle.history.proofs.Laws.Started.{from_start, sound, progress, kept_record}
use Rattle.history.proofs.Laws.RuledRun.{seen_of, play_frames, turn-ruled}

-- o are the links that are not quiet in the floods p
abbrev pub Marks : Floods → Offered → Type 0
Marks p o = (w : Wavelength) (i : ℕ) → o w i ≡ ltb 0 (at (on w p).states i)

-- v was a state, v' is the next: one that is not quiet now was not before, or is offered
marked_next : (v v' : ℕ) → v ≤ v' → (v ≡ 0 → v' ≤ 1) → (ltb 0 v || eqb v' 1) ≡ ltb 0 v'
marked_next v v' h z = elim (dec_lt 0 v) [
  | yes l ↦ rw (lt-ltb 0 v l, lt-ltb 0 v' (omega arith))
  | no l ↦
      let few = z (omega arith) in
      elim (dec_lt 0 v') [
        | yes l' ↦ rw (le-ltb 0 v (omega arith), lt-ltb 0 v' l', eq-eqb v' 1 (omega arith))
        | no l' ↦ rw (le-ltb 0 v (omega arith), le-ltb 0 v' (omega arith), ne_eqb v' 1 (λ e. omega arith))
      ]
]

-- ---- deliveries, over the back-up arcs g of wavelength 1, while the cut of link k stands

module _ (g : Digraph) (x : Cut) (k : ℕ) where
  abbrev graphs : Wavelength → Digraph
  graphs w = arcs_on w g

  abbrev lost : Wavelength → Failure
  lost w = failures.cut (graphs w) k

  module _ (sound : (w : Wavelength) → Sound (graphs w) (lost w)) where
    abbrev Rooms : Floods → Type 0
    Rooms p = (w : Wavelength) → Roomy (graphs w) (on w p)

    -- on either wavelength
    state-next : (p : Floods) → Rooms p → (t : Turn) (w : Wavelength) (i : ℕ) →
        let v = at (on w p).states i in let v' = at (on w (step graphs lost t p)).states i in (v ≤ v') × (v ≡ 0 → v' ≤ 1)
    state-next p room t w i = ⊎_elim
        (λ e. rw (step-own graphs lost w t p e) (step_rises (graphs w) (lost w) (sound w) (room w) t.link i))
        (λ e. rw (step_other graphs lost w t p e) (omega arith, λ z. omega arith))
        (known (same w t.wavelength))

    -- one
    turn_marks : (p : Floods) → Rooms p → (t : Turn) (o : Offered) → Marks p o
        → Marks (step graphs lost t p) (and_at (seen_of x (step graphs lost t p)) o)
    turn_marks p room t o M w i = let (rises, first) = state-next p room t w i in rw (M w i) (marked_next _ _ rises first)

    -- any that are accepted in turn
    pub turns_mark : (ts : List Turn) (p : Floods) → Rooms p → merge.accepted graphs lost ts p ≡ length ts
        → (o : Offered) → Marks p o → Marks (play graphs lost ts p) (offered_along g k ts (seen_of x p) o)
    unfolding play offered_along
    turns_mark [] p room e o M = M
    turns_mark (t ∷ ts) p room e o M =
        let (a, rest) = accepted-first graphs lost t ts p e in
        let later : Floods = step graphs lost t p in
        subst (λ (n : Now). Marks (play graphs lost ts later) (offered_along g k ts n (and_at n o)))
        (turn-ruled g x (λ w. (sound w).head<) k p room t a)
        (turns_mark ts later (λ w. frame_room (graphs w) (play_frames graphs lost (t ∷ []) p w) (room w)) rest
        (and_at (seen_of x later) o) (turn_marks p room t o M))

-- ---- calls on a session of the planned mesh m

module _ (m : Mesh) (good : (planned m).answer ≡ Accepted) (sized : length m.links ≡ 256) where
  abbrev plan : Plan
  plan = (planned m).plan

  abbrev arcs : Digraph
  arcs = digraph_on m

  -- a fresh session has offered none
  fresh_marks : Marks (fresh_on_each 256 64) none_offered
  unfolding fresh
  fresh_marks w i = rw (fresh_on_lem w 256 64, replicate-at {A = ℕ} 256 0 i)

  -- right after a cut no state is above 1
  pub begun_few : (k : ℕ) (w : Wavelength) (i : ℕ) → at (on w (begun m plan k)).states i ≤ 1
  begun_few k w i =
      let whole = passes m (plan_checked m good) in
      rw (on-begin (kept.graphs m plan) (kept.lost m plan k) w (fresh_on_each 256 64))
      (begin-at_most_1 (kept.graphs m plan w) (kept.lost m plan k w) (blank m plan whole.count_most whole.nodes_most w) i)

  cut_marks : (k : ℕ) → Marks (begun m plan k) (and_at (seen (cut_session m plan k (begun m plan k))) none_offered)
  cut_marks k w i = marked_next 0 _ (omega arith) (λ z. begun_few k w i)

  -- further deliveries under a cut
  since_marks : {k : ℕ} {ts : List Turn} → Since m plan k ts → (us : List Turn) → let p = played m plan k ts in
      merge.accepted (kept.graphs m plan) (kept.lost m plan k) us p ≡ length us → (o : Offered) → Marks p o
      → Marks (play (kept.graphs m plan) (kept.lost m plan k) us p) (offered_along arcs k us (seen (cut_session m plan k p)) o)
  since_marks {k} {ts} q us = turns_mark arcs (Link k) k (sound m good sized q) us (played m plan k ts) (λ w. (progress m good sized q w).room)

  -- an accepted call
  accepted_marks : {s : Session} {l : Log} → Kept m plan s l → (c : Call) → answer_of c s ≡ Accepted → (o : Offered) → Marks (floods s) o
      → Marks (floods (made c s)) (offered_by arcs c s.cut (seen s) o)
  unfolding play merge.run
  accepted_marks {s} free (cut f k) e o M =
      subst (λ (n : Now). Marks (begun m plan k) (and_at n none_offered)) (made-seen s (kept_record m good sized free) (kept_sized m plan free) (cut f k) e) (cut_marks k)
  accepted_marks {s} (under q) (cut f k) e o M = clash refl (cut-accepted s k e).2
  accepted_marks {s} free (deliver f k u) e o M = clash (deliver_accepted s k u e).3 refl
  accepted_marks {s} (under q) (deliver f k u) e o M =
      since_marks q (turn k (wavelength_of u) ∷ []) (one_accepted _ _ k (wavelength_of u) (floods s) (deliver_accepted s k u e).4) o M
  accepted_marks {s} free (run a) e o M = clash (run-accepted s e).1 refl
  accepted_marks {s} (under {k} {ts} q) (run a) e o M =
      let us : List Turn = order (kept.graphs m plan) (kept.lost m plan k) a (floods s) in
      subst (λ (made : List Turn). Marks (play (kept.graphs m plan) (kept.lost m plan k) us (floods s)) (offered_along arcs k made (seen s) o))
      (run-made s (run-accepted s e).0 (kept_sized m plan (under q)) a e)
      (since_marks q us (order-accepted (kept.graphs m plan) (kept.lost m plan k) a (floods s)) o M)
  accepted_marks K (mend f k) e o M = fresh_marks
  accepted_marks K (status k u) e o M = M

  -- any call
  call_marks : {s : Session} {l : Log} → Kept m plan s l → (c : Call) (o : Offered) → Marks (floods s) o → Marks (floods (next c s)) (offered_next arcs c (seen s) o)
  unfolding offered_next
  call_marks {s} {l} K c o M =
      subst (λ (t : Session). Marks (floods t) (changed_by arcs (refusal arcs c (seen s)) o (offered_by arcs c s.cut (seen s) o))) (sym (next_is c s))
      (subst (λ (a : Answer). Marks (floods (change (answer_of c s) s (made c s)).session) (changed_by arcs a o (offered_by arcs c s.cut (seen s) o)))
      (ruled K) (by_answer (answer_of c s) refl))
    where
      ruled : {s : Session} {l : Log} → Kept m plan s l → answer_of c s ≡ refusal arcs c (seen s)
      ruled {s} free = refusal_is s (kept_record m good sized free) c
      ruled {s} (under q) = refusal_is s (kept_record m good sized (under q)) c

      by_answer : (a : Answer) → answer_of c s ≡ a → Marks (floods (change a s (made c s)).session) (changed_by arcs a o (offered_by arcs c s.cut (seen s) o))
      by_answer Accepted e = accepted_marks K c e o M
      by_answer (Err r) e = M

  -- any list of calls
  calls_mark : (cs : List Call) {s : Session} {l : Log} → Kept m plan s l → (o : Offered) → Marks (floods s) o → Marks (floods (after cs s)) (offered arcs cs (seen s) o)
  unfolding after offered
  calls_mark [] K o M = M
  calls_mark (c ∷ cs) {s} {l} K o M =
      subst (λ (n : Now). Marks (floods (after cs (next c s))) (offered arcs cs n (offered_next arcs c (seen s) o)))
      (next-now m plan (λ s l. kept_record m good sized) K c)
      (calls_mark cs (call_kept m plan K c) (offered_next arcs c (seen s) o) (call_marks K c o M))

  pub ended_marks : (calls : List Call) → Marks (floods (ended m calls)) (offered arcs calls start none_offered)
  ended_marks calls =
      from_start m good (λ s n. Marks (floods (after calls s)) (offered arcs calls n none_offered)) (calls_mark calls free none_offered fresh_marks)
