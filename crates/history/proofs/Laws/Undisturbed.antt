-- The wavelengths do not disturb each other: the cut and the deliveries on one wavelength, made alone, are all accepted and lead to the same flood there,
-- since a flood is what its own deliveries make, and to the same session where there were no others; and what a run makes on one wavelength is what that
-- wavelength's own run makes. Assumes 256 entries in the mesh's list of links.
use Rattle.std.specs.Prelude.{ℕ, ◌<◌, ◌≤◌, ◌≡◌, length}
use Rattle.std.proofs.Math.Path.{refl, sym, ap, ap₂, subst}
use Rattle.std.proofs.Common.{◌∙◌}
use Rattle.std.proofs.Math.Bool.{true}
use Rattle.std.proofs.Math.Logic.{⊎_elim}
use mathlib.Core.List.{List, [], ◌∷◌, ◌++◌, map, append-nil, append_assoc}
use native.Mathlib.Omega.{arith}
use borrow.Author.Tests.{lt-ltb}
use Rattle.scan.specs.Test.{known}
use Rattle.scan.specs.Entry.{at}
use Rattle.scan.specs.Total.{bit}
use Rattle.flood.specs.declared.Flood.{Flood}
use Rattle.flood.specs.Digraph.{Digraph, Failure}
use Rattle.flood.specs.Machine as machine
use Rattle.flood.specs.Laws.Order.{accepted_most}
use Rattle.wavelengths.specs.declared.Floods.{Floods}
use Rattle.wavelengths.specs.declared.Wavelength.{Wavelength}
use Rattle.wavelengths.specs.Wavelength.{is_wavelength, wavelength_of, number_of, on}
use Rattle.wavelengths.specs.Merge as merge
use Rattle.wavelengths.specs.Merge.{Turn, turn, turns_on, links_on, fresh_on_each, step, play, order}
use Rattle.wavelengths.proofs.Laws.Wavelength.{same_self, wavelength_named}
use Rattle.wavelengths.proofs.Laws.Project.{links_append, links_turns, step-own, play-append}
use Rattle.wavelengths.proofs.Laws.Run.{order-on}
use Rattle.wavelengths.proofs.Laws.Rest.{share_within}
use Rattle.mesh.specs.declared.Mesh.{Mesh}
use Rattle.mesh.specs.declared.Plan.{Plan}
use Rattle.mesh.specs.Answer.{Answer, Accepted, Refused}
use Rattle.planner.specs.Plan.{planned}
use Rattle.formed.specs.Cut.{Cut, Nothing, Link}
use Rattle.refusals.specs.Refusals as refusals
use Rattle.recovery.specs.declared.Change.{Change}
use Rattle.recovery.specs.declared.Delivery.{Delivery}
use Rattle.recovery.specs.declared.Run.{Run}
use Rattle.recovery.specs.declared.Session.{Session}
use Rattle.recovery.specs.Session.{floods}
use Rattle.recovery.specs.Calls.{digraph, failure, with_floods, fresh_on, cut_on, change, cut_answer, deliver_answer, run_answer, delivery_as, run_as, after_cut, after_delivery, after_run}
use Rattle.recovery.specs.Laws.Tested.{deliver_accepts}
use Rattle.history.specs.History.{Call, by_value, cut, deliver, run, reply, next, after, answers}
use Rattle.history.specs.Rules.{Now, rule_next}
use Rattle.history.specs.Log.{Log, empty_log, made_on, made_by, note, logged}
use Rattle.history.specs.Demand.{seen, digraph_on, ended, log, calls_on, alone, Undisturbed, RunsAlone}
use Rattle.history.proofs.Laws.RuledCalls.{run-made}
use Rattle.history.proofs.Laws.Kept.{cut_session, graphs, lost, begun, played, Since, Kept, free, under}
use Rattle.history.proofs.Laws.Kept.{acted-accepted, since-cut, kept_sized, one_accepted, since-more, played-own, accepted-own}
use Rattle.history.proofs.Laws.Started.{from_start, kept_record, ended-kept, ended-more}

-- the log under the cut of link k, after the deliveries ts
abbrev since : ℕ → List Turn → Log
since k ts = record { cut = Link k; made = ts }

-- ---- what the deliveries made

-- the session by all of them
module _ (m : Mesh) (p : Plan) where
  session_by : Cut → List Turn → Session
  session_by (Link k) ts = cut_session m p k (played m p k ts)
  session_by Nothing ts = fresh_on m p

  kept_session : {s : Session} {l : Log} → Kept m p s l → s ≡ session_by l.cut l.made
  unfolding session_by
  kept_session free = refl
  kept_session (under q) = refl

-- a flood by its own
module _ (m : Mesh) (p : Plan) (w : Wavelength) where
  flood_by : Cut → List ℕ → Flood
  flood_by (Link k) js = machine.play (graphs m p w) (lost m p k w) js (on w (begun m p k))
  flood_by Nothing js = on w (fresh_on_each 256 64)

  kept-flood : {s : Session} {l : Log} → Kept m p s l → on w (floods s) ≡ flood_by l.cut (made_on w l)
  unfolding flood_by
  kept-flood free = refl
  kept-flood (under q) = played-own m p q w

-- ---- one call

-- what an accepted delivery makes, and what is noted of it
module _ (s : Session) (j u : ℕ) (e : deliver_answer s j u ≡ Accepted) where
  abbrev later : Floods
  later = step (digraph s) (failure s) (turn j (wavelength_of u)) (floods s)

  delivery_made : after_delivery s j u ≡ delivery_as Accepted s j (wavelength_of u) later
  unfolding after_delivery
  delivery_made = ap (λ (a : Answer). delivery_as a s j (wavelength_of u) later) e

  delivery_next : next (deliver by_value j u) s ≡ with_floods s later
  delivery_next = ap (λ (d : Delivery). d.session) delivery_made

  delivery_noted : (g : Digraph) (n : Now) (l : Log)
      → note g (deliver by_value j u) (reply (deliver by_value j u) s) n l ≡ record { cut = l.cut; made = l.made ++ (turn j (wavelength_of u) ∷ []) }
  delivery_noted g n l =
      let w : Wavelength = wavelength_of u in
      ap (λ (d : Delivery). note g (deliver by_value j u) d.answer n l) delivery_made
      ∙ rw (acted-accepted ((digraph s w).tail j) ((digraph s w).head j) (at (on w later).states j))

-- what a run gives, by its answer
run_answered : (s : Session) (a : ℕ) {x : Answer} → run_answer s ≡ x → after_run s a ≡ run_as x s (merge.run (digraph s) (failure s) a (floods s))
unfolding after_run
run_answered s a e = ap (λ (x : Answer). run_as x s (merge.run (digraph s) (failure s) a (floods s))) e

-- the deliveries that are noted of it
abbrev noted : Mesh → Session → ℕ → Run → List Turn
noted m s a r = made_by (digraph_on m) (run a) r.report (seen s)

abbrev pub run_turns : Mesh → Session → ℕ → List Turn
run_turns m s a = noted m s a (after_run s a)

-- ---- from a planned mesh

module _ (m : Mesh) (sized : length m.links ≡ 256) (good : (planned m).answer ≡ Accepted) where
  abbrev p : Plan
  p = (planned m).plan

  -- the cut of link k
  module _ (k : ℕ) (b : k < m.count) where
    cut_passes : cut_answer (fresh_on m p) k ≡ Accepted
    unfolding refusals.cut_answer
    cut_passes = rw (kept_record m good sized free, lt-ltb k m.count b)

    cut-made : after_cut (fresh_on m p) k ≡ record { session = cut_session m p k (played m p k []); answer = Accepted }
    unfolding after_cut play
    cut-made = ap (λ (a : Answer). change a (fresh_on m p) (cut_on (fresh_on m p) k)) cut_passes

    -- what holds of it, and of what is noted, holds after that one call
    pub just_cut : (P : Session → Log → Type 0) → P (cut_session m p k (played m p k [])) (since k []) → P (ended m (cut by_value k ∷ [])) (log m (cut by_value k ∷ []))
    unfolding after answers logged
    just_cut P h =
        from_start m good (λ s n. P (next (cut by_value k) s) (note (digraph_on m) (cut by_value k) (reply (cut by_value k) s) n empty_log))
        (subst (λ (r : Change). P r.session (note (digraph_on m) (cut by_value k) r.answer (seen (fresh_on m p)) empty_log)) (sym cut-made) h)

    cut-logged : (cs : List Call) (n : Now) (l : Log) → logged (digraph_on m) (answers (cut by_value k ∷ cs) (fresh_on m p)) n l
        ≡ logged (digraph_on m) (answers cs (cut_session m p k (played m p k []))) (rule_next (digraph_on m) (cut by_value k) n) (since k [])
    unfolding answers logged
    cut-logged cs n l =
        ap (λ (r : Change). logged (digraph_on m) (answers cs r.session) (rule_next (digraph_on m) (cut by_value k) n) (note (digraph_on m) (cut by_value k) r.answer n l))
        cut-made

  -- under the cut of link k, on the wavelength that the number u names
  module _ (u : ℕ) (named : is_wavelength u ≡ true) (k : ℕ) where
    abbrev w : Wavelength
    w = wavelength_of u

    abbrev gw : Digraph
    gw = graphs m p w

    abbrev cw : Failure
    cw = lost m p k w

    abbrev single : ℕ → Call
    single j = deliver by_value j u

    -- after the deliveries ts, one more on a link that the flood accepts
    module _ {ts : List Turn} (q : Since m p k ts) (j : ℕ) (a : machine.accepts gw j (on w (played m p k ts)) ≡ true) where
      abbrev s : Session
      s = cut_session m p k (played m p k ts)

      abbrev us : List Turn
      us = ts ++ (turn j w ∷ [])

      single-since : Since m p k us
      single-since = since-more m p q (turn j w ∷ []) (one_accepted (graphs m p) (lost m p k) j w (played m p k ts) a)

      single-accepted : deliver_answer s j u ≡ Accepted
      single-accepted = deliver_accepts s j u (kept_record m good sized (under q)) named refl a

      single-floods : step (graphs m p) (lost m p k) (turn j w) (played m p k ts) ≡ played m p k us
      unfolding play
      single-floods = sym (play-append (graphs m p) (lost m p k) ts (turn j w ∷ []) (begun m p k))

      single-flood : on w (played m p k us) ≡ machine.step gw cw j (on w (played m p k ts))
      single-flood = ap (on w) (sym single-floods) ∙ step-own (graphs m p) (lost m p k) w (turn j w) (played m p k ts) (same_self w)

      single-logged : (cs : List Call) (n : Now) → logged (digraph_on m) (answers (single j ∷ cs) s) n (since k ts)
          ≡ logged (digraph_on m) (answers cs (cut_session m p k (played m p k us))) (rule_next (digraph_on m) (single j) n) (since k us)
      unfolding answers logged
      single-logged cs n =
          ap₂ (λ (t : Session) (l : Log). logged (digraph_on m) (answers cs t) (rule_next (digraph_on m) (single j) n) l)
          (delivery_next s j u single-accepted ∙ ap (cut_session m p k) single-floods)
          (delivery_noted s j u single-accepted (digraph_on m) n (since k ts))

    -- any more, each accepted in its turn
    singles : (js : List ℕ) {ts : List Turn} → Since m p k ts → machine.accepted gw cw js (on w (played m p k ts)) ≡ length js → (n : Now)
        → logged (digraph_on m) (answers (map single js) (cut_session m p k (played m p k ts))) n (since k ts) ≡ since k (ts ++ turns_on w js)
    unfolding answers logged machine.accepted
    singles [] {ts} q e n = ap (since k) (sym (append-nil ts))
    singles (j ∷ js) {ts} q e n =
        let f : Flood = on w (played m p k ts) in
        let most = accepted_most gw cw js (machine.step gw cw j f) in
        let a : machine.accepts gw j f ≡ true = ⊎_elim (λ t. t) (λ t. absurd (omega (arith, ap bit t, e))) (known (machine.accepts gw j f)) in
        single-logged q j a (map single js) n
        ∙ singles js (single-since q j a) (rw (single-flood q j a) (omega (arith, ap bit a, e))) (rule_next (digraph_on m) (single j) n)
        ∙ ap (since k) (append_assoc ts (turn j w ∷ []) (turns_on w js))

    -- the cut and the deliveries js alone
    cut_singles : (js : List ℕ) → k < m.count → machine.accepted gw cw js (on w (begun m p k)) ≡ length js
        → log m (cut by_value k ∷ map single js) ≡ since k (turns_on w js)
    unfolding play
    cut_singles js b e =
        from_start m good (λ s n. logged (digraph_on m) (answers (cut by_value k ∷ map single js) s) n empty_log ≡ since k (turns_on w js))
        (cut-logged k b (map single js) (seen (fresh_on m p)) empty_log ∙ singles js (since-cut m p b) e (rule_next (digraph_on m) (cut by_value k) (seen (fresh_on m p))))

  -- what the calls on wavelength w alone say: the cut, and the deliveries on w
  alone_says : (w : Wavelength) {s : Session} {l : Log} → Kept m p s l
      → log m (calls_on w l.cut (made_on w l)) ≡ record { cut = l.cut; made = turns_on w (made_on w l) }
  unfolding answers logged links_on
  alone_says w free = refl
  alone_says w (under {k} {ts} q) =
      let (named, is) = wavelength_named w in
      subst (λ (v : Wavelength). log m (calls_on w (Link k) (links_on v ts)) ≡ since k (turns_on v (links_on v ts))) is
      (cut_singles (number_of w) named k (links_on (wavelength_of (number_of w)) ts) q.link (accepted-own m p q (wavelength_of (number_of w))))

  -- where all deliveries since the cut were on wavelength w, these calls give the session, and say all that was said
  pub alone_is : (w : Wavelength) (c : Cut) (js : List ℕ) {s : Session} → let l : Log = record { cut = c; made = turns_on w js } in
      Kept m p s l → (ended m (calls_on w c js) ≡ s) × (log m (calls_on w c js) ≡ l)
  alone_is w c js K =
      let e = subst (λ (is : List ℕ). log m (calls_on w c is) ≡ record { cut = c; made = turns_on w is }) (links_turns w js) (alone_says w K) in
      (kept_session m p (ended-kept m good sized (calls_on w c js)) ∙ ap (λ (l : Log). session_by m p l.cut l.made) e ∙ sym (kept_session m p K), e)

  -- ---- a run

  -- under a cut it is accepted, and its deliveries are those of the floods' run
  module _ {k : ℕ} {ts : List Turn} (q : Since m p k ts) (a : ℕ) where
    abbrev t : Session
    t = cut_session m p k (played m p k ts)

    run_passes : run_answer t ≡ Accepted
    unfolding refusals.run_answer
    run_passes = rw (kept_record m good sized (under q))

    pub run_is : after_run t a ≡ run_as Accepted t (merge.run (graphs m p) (lost m p k) a (played m p k ts))
    run_is = run_answered t a run_passes

    pub run-order : run_turns m t a ≡ order (graphs m p) (lost m p k) a (played m p k ts)
    run-order = ap (noted m t a) run_is ∙ sym (run-made t (kept_record m good sized (under q)) (kept_sized m p (under q)) a run_passes)

  module _ (w : Wavelength) (a : ℕ) where
    -- the deliveries us are, on wavelength w, those of its own run
    abbrev Own : Session → List Turn → Type 0
    Own s us = (n : ℕ) × (n ≤ a) × (links_on w us ≡ machine.order (digraph s w) (failure s w) n (on w (floods s)))

    run-own : {s : Session} {l : Log} → Kept m p s l → Own s (run_turns m s a)
    unfolding links_on machine.order refusals.run_answer
    run-own {s} free =
        let refused : run_answer s ≡ Refused 23 0 = rw (kept_record m good sized free) in
        subst (Own s) (sym (ap (noted m s a) (run_answered s a refused))) (0, omega arith, refl)
    run-own {s} (under {k} {ts} q) =
        let us : List Turn = order (graphs m p) (lost m p k) a (played m p k ts) in
        subst (Own s) (sym (run-order q a))
        (length (links_on w us), share_within (graphs m p) (lost m p k) (played m p k ts) w a, order-on (graphs m p) (lost m p k) w a (played m p k ts))

    -- after the calls they follow those made before
    pub run-logged : (calls : List Call) → made_on w (log m (calls ++ (run a ∷ []))) ≡ made_on w (log m calls) ++ links_on w (run_turns m (ended m calls) a)
    unfolding answers logged
    run-logged calls = ap (made_on w) (ended-more m good sized calls (run a ∷ [])) ∙ links_append w (log m calls).made _

pub undisturbed : (m : Mesh) → length m.links ≡ 256 → (planned m).answer ≡ Accepted → (calls : List Call) (w : Wavelength) → Undisturbed m calls w
undisturbed m sized good calls w =
    let p : Plan = (planned m).plan in
    let kept : (cs : List Call) → Kept m p (ended m cs) (log m cs) = ended-kept m good sized in
    let o = alone_says m sized good w (kept calls) in
    let c : (log m (alone m calls w)).cut ≡ (log m calls).cut = ap (λ (l : Log). l.cut) o in
    let l : made_on w (log m (alone m calls w)) ≡ made_on w (log m calls) = ap (made_on w) o ∙ links_turns w (made_on w (log m calls)) in
    record {
      same-cut = c;
      same-flood = kept-flood m p w (kept (alone m calls w)) ∙ ap₂ (flood_by m p w) c l ∙ sym (kept-flood m p w (kept calls));
      same-deliveries = l;
    }

pub runs_alone : (m : Mesh) → length m.links ≡ 256 → (planned m).answer ≡ Accepted → (calls : List Call) (w : Wavelength) (a : ℕ) → RunsAlone m calls w a
runs_alone m sized good calls w a =
    let (n, most, own) = run-own m sized good w a (ended-kept m good sized calls) in
    record {
      n = n;
      most = most;
      same = run-logged m sized good w a calls ∙ ap (λ (js : List ℕ). made_on w (log m calls) ++ js) own;
    }
