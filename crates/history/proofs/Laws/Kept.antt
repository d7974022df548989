-- What every call keeps: no cut stands and the session is fresh, or the cut of a link stands and the session is what the deliveries since make of it, in
-- turn, each accepted. So on each wavelength the flood has made progress by its own deliveries. Assumes of the calls that what they keep passes its record
-- test, and of the progress a strong back-up digraph with at most 256 links and 64 nodes.
use Rattle.std.specs.Prelude.{ℕ, ◌<◌, ◌≤◌, ◌≡◌, true, false, eqb, length, Err}
use Rattle.std.proofs.Math.Path.{refl, subst}
use Rattle.std.proofs.Common.{sym, ap₂, ◌∙◌, arith, length-append}
use mathlib.Core.List.{List, [], ◌∷◌, ◌++◌, append-nil}
use Rattle.scan.specs.Test.{branch, clash}
use Rattle.scan.specs.Entry.{at}
use Rattle.flood.specs.Digraph.{Digraph, Failure, Sound}
use Rattle.flood.specs.Digraph as failures
use Rattle.flood.specs.Machine as machine
use Rattle.flood.specs.Machine.{Blank}
use Rattle.flood.specs.Path.{Strong}
use Rattle.flood.specs.Laws.Begin.{fresh_blank}
use Rattle.flood.specs.Laws.Progress.{Progress, after_progress}
use Rattle.flood.specs.Laws.Cut.{cut_sound}
use Rattle.wavelengths.specs.declared.Floods.{Floods}
use Rattle.wavelengths.specs.declared.Wavelength.{Wavelength}
use Rattle.wavelengths.specs.declared.Wavelength.TheVariants.{First, Second}
use Rattle.wavelengths.specs.Wavelength.{wavelength_of, on}
use Rattle.wavelengths.specs.Merge as merge
use Rattle.wavelengths.specs.Merge.{Turn, turn, links_on, fresh_on_each, begin, step, play}
use Rattle.wavelengths.proofs.Laws.Wavelength.{arcs_strong}
use Rattle.wavelengths.proofs.Laws.Project.{links_all, fresh_on_lem, on-begin, play-append, accepted-append, play-on, accepted_on, accepted_both, own_most}
use Rattle.wavelengths.proofs.Laws.Run.{order-accepted}
use Rattle.mesh.specs.declared.Mesh.{Mesh}
use Rattle.mesh.specs.declared.Plan.{Plan}
use Rattle.mesh.specs.Answer.{Answer, Accepted, Refused}
use Rattle.formed.specs.Cut.{Link}
use Rattle.recovery.specs.declared.Delivered.{Delivered}
use Rattle.recovery.specs.declared.Session.{Session}
use Rattle.recovery.specs.Session.{floods, session_of}
use Rattle.recovery.specs.Formed.{record_answer}
use Rattle.topology.specs.Backup.{backup, backup_on}
use Rattle.refusals.specs.Refusals.{standing}
use Rattle.recovery.specs.Calls.{digraph, failure, with_floods, fresh_on, cut_on, cut_answer, deliver_answer, run_answer, mend_answer}
use Rattle.recovery.specs.Calls.{change, acted, delivery_as, run_as, after_cut, after_delivery, after_run, after_mend}
use Rattle.recovery.specs.Laws.Tested.{cut-accepted, deliver_accepted, run-accepted}
use Rattle.history.specs.History.{Call, cut, deliver, run, mend, status, reply, next, after, answers, accepted}
use Rattle.history.specs.Rules.{Now, run_made, rule_next}
use Rattle.history.specs.Log.{Log, empty_log, note, logged}
use Rattle.history.specs.Demand.{Sized, seen}
use Rattle.history.proofs.Laws.RuledCalls.{run-made}
use Rattle.history.proofs.Laws.RuledNext.{fresh_sized, cut_sized, play_sized, next-seen}

-- whatever an accepted delivery answers, it is accepted
pub acted-accepted : (a b v : ℕ) → accepted (acted a b v) ≡ true
acted-accepted a b v = branch IsAccepted (eqb v 2) (λ t. refl) (λ t. branch IsAccepted (eqb v 3) (λ t. refl) (λ t. refl))
  where
    IsAccepted : Delivered → Type 0
    IsAccepted d = accepted d ≡ true

-- one delivery, which its flood accepts
pub one_accepted : (g : Wavelength → Digraph) (c : Wavelength → Failure) (j : ℕ) (w : Wavelength) (f : Floods)
    → machine.accepts (g w) j (on w f) ≡ true → merge.accepted g c (turn j w ∷ []) f ≡ 1
unfolding merge.accepted merge.accepts merge.busy
one_accepted g c j w f a = rw a

-- the cut of link k stands, with these floods
abbrev pub cut_session : Mesh → Plan → ℕ → Floods → Session
cut_session m p k f = session_of m p (Link k) f

-- the back-up arcs of each wavelength, and what the cut of link k loses there
abbrev pub graphs : Mesh → Plan → Wavelength → Digraph
graphs m p w = backup_on w m p

abbrev pub lost : Mesh → Plan → ℕ → Wavelength → Failure
lost m p k w = failures.cut (graphs m p w) k

-- the floods when link k was just cut, and after the deliveries ts
abbrev pub begun : Mesh → Plan → ℕ → Floods
begun m p k = begin (graphs m p) (lost m p k) (fresh_on_each 256 64)

abbrev pub played : Mesh → Plan → ℕ → List Turn → Floods
played m p k ts = play (graphs m p) (lost m p k) ts (begun m p k)

module _ (m : Mesh) (p : Plan) where
  abbrev g : Digraph
  g = backup m p

  -- link k was cut, and each of the deliveries ts since was accepted in its turn
  pub record Since (k : ℕ) (ts : List Turn) : Type 0 where
    pub link : k < m.count
    pub all : merge.accepted (graphs m p) (lost m p k) ts (begun m p k) ≡ length ts

  -- a session, and what the answers so far say
  pub data Kept : Session → Log → Type 0 where
    free : Kept (fresh_on m p) empty_log
    under : {k : ℕ} {ts : List Turn} → Since k ts → Kept (cut_session m p k (played m p k ts)) (record { cut = Link k; made = ts })

  -- it holds what it was given
  pub kept-holds : {s : Session} {l : Log} → Kept s l → (s.mesh ≡ m) × (s.plan ≡ p) × (s.cut ≡ l.cut)
  kept-holds free = (refl, refl, refl)
  kept-holds (under q) = (refl, refl, refl)

  -- what holds of every session under a cut holds where the answers say that a cut stands
  pub kept-cut : (P : Session → ℕ → List Turn → Type 0)
      → ((k : ℕ) (ts : List Turn) → Since k ts → P (cut_session m p k (played m p k ts)) k ts)
      → {s : Session} {l : Log} → Kept s l → (k : ℕ) → l.cut ≡ Link k → P s k l.made
  kept-cut P h free k e = let z : ◌≡◌ {A = ℕ} 0 1 = cc in absurd (omega arith)
  kept-cut P h (under {k = c} {ts} q) k e = let d : c ≡ k = cc in subst (λ (k : ℕ). P (cut_session m p c (played m p c ts)) k ts) d (h c ts q)

  -- its lists have the lengths of a session's
  pub kept_sized : {s : Session} {l : Log} → Kept s l → Sized s
  kept_sized free = fresh_sized m p
  kept_sized (under {k} {ts} q) = play_sized (cut_on (fresh_on m p) k) (cut_sized (fresh_on m p) (fresh_sized m p) k) ts

  -- it was just cut
  pub since-cut : {k : ℕ} → k < m.count → Since k []
  unfolding merge.accepted
  since-cut h = record { link = h; all = refl }

  -- ---- further deliveries

  -- any that are accepted in turn
  pub since-more : {k : ℕ} {ts : List Turn} → Since k ts → (us : List Turn)
      → merge.accepted (graphs m p) (lost m p k) us (played m p k ts) ≡ length us → Since k (ts ++ us)
  since-more {k} {ts} q us e = record {
    link = q.link;
    all = rw (accepted-append (graphs m p) (lost m p k) ts us (begun m p k), length-append ts us) (omega (arith, q.all));
  }

  pub more-kept : {s : Session} {l : Log} → Kept s l → standing s.cut ≡ true → (us : List Turn) → merge.accepted (digraph s) (failure s) us (floods s) ≡ length us
      → Kept (with_floods s (play (digraph s) (failure s) us (floods s))) (record { cut = l.cut; made = l.made ++ us })
  more-kept free e us a = clash e refl
  more-kept (under {k} {ts} q) e us a =
      subst (λ (f : Floods). Kept (cut_session m p k f) (record { cut = Link k; made = ts ++ us }))
      (play-append (graphs m p) (lost m p k) ts us (begun m p k)) (under (since-more q us a))

  -- ---- an accepted call

  pub cut-kept : {s : Session} {l : Log} → Kept s l → (k : ℕ) → k < s.mesh.count → standing s.cut ≡ false → Kept (cut_on s k) (record { cut = Link k; made = [] })
  unfolding play
  cut-kept free k h e = under (since-cut h)
  cut-kept (under q) k h e = clash refl e

  deliver_kept : {s : Session} {l : Log} → Kept s l → (j : ℕ) (w : Wavelength) → standing s.cut ≡ true → machine.accepts (digraph s w) j (on w (floods s)) ≡ true
      → Kept (with_floods s (step (digraph s) (failure s) (turn j w) (floods s))) (record { cut = l.cut; made = l.made ++ (turn j w ∷ []) })
  unfolding play
  deliver_kept {s} K j w e a = more-kept K e (turn j w ∷ []) (one_accepted (digraph s) (failure s) j w (floods s) a)

  run-kept : {s : Session} {l : Log} → Kept s l → (n : ℕ) → run_answer s ≡ Accepted
      → Kept (with_floods s (merge.run (digraph s) (failure s) n (floods s)).floods) (record { cut = l.cut; made = l.made ++ run_made g s.cut n (seen s) })
  unfolding merge.run
  run-kept {s} free n e = clash (run-accepted s e).1 refl
  run-kept {s} (under {k} {ts} q) n e =
      let us : List Turn = merge.order (graphs m p) (lost m p k) n (played m p k ts) in
      subst (λ (made : List Turn). Kept (cut_session m p k (play (graphs m p) (lost m p k) us (played m p k ts))) (record { cut = Link k; made = ts ++ made }))
      (run-made s (run-accepted s e).0 (kept_sized (under q)) n e)
      (more-kept (under q) refl us (order-accepted (graphs m p) (lost m p k) n (played m p k ts)))

  pub mend_kept : {s : Session} {l : Log} → Kept s l → Kept (fresh_on s.mesh s.plan) empty_log
  mend_kept free = free
  mend_kept (under q) = free

  -- ---- any call: a refused one changes nothing

  none_kept : {s : Session} {l : Log} → Kept s l → Kept s (record { cut = l.cut; made = l.made ++ [] })
  none_kept {s} {l} K = subst (λ (ts : List Turn). Kept s (record { cut = l.cut; made = ts })) (sym (append-nil l.made)) K

  pub call_kept : {s : Session} {l : Log} → Kept s l → (c : Call) → Kept (next c s) (note g c (reply c s) (seen s) l)
  unfolding after_cut after_delivery after_run after_mend
  call_kept {s} {l} K (cut f k) = by_answer (cut_answer s k) refl
    where
      by_answer : (a : Answer) → cut_answer s k ≡ a → let r = change a s (cut_on s k) in Kept r.session (note g (cut f k) r.answer (seen s) l)
      by_answer Accepted e = let (r, h, c) = cut-accepted s k e in cut-kept K k h c
      by_answer (Err r) e = K
  call_kept {s} {l} K (deliver f k u) = by_answer (deliver_answer s k u) refl
    where
      w : Wavelength
      w = wavelength_of u

      later : Floods
      later = step (digraph s) (failure s) (turn k w) (floods s)

      by_answer : (a : Answer) → deliver_answer s k u ≡ a → let r = delivery_as a s k w later in Kept r.session (note g (deliver f k u) r.answer (seen s) l)
      by_answer Accepted e =
          let (r, b, n, c, a) = deliver_accepted s k u e in
          rw (acted-accepted ((digraph s w).tail k) ((digraph s w).head k) (at (on w later).states k)) (deliver_kept K k w c a)
      by_answer (Err r) e = none_kept K
  call_kept {s} {l} K (run n) = by_answer (run_answer s) refl
    where
      by_answer : (a : Answer) → run_answer s ≡ a → let r = run_as a s (merge.run (digraph s) (failure s) n (floods s)) in
          Kept r.session (note g (run n) r.report (seen s) l)
      by_answer Accepted e = run-kept K n e
      by_answer (Err r) e = none_kept K
  call_kept {s} {l} K (mend f k) = by_answer (mend_answer s k)
    where
      by_answer : (a : Answer) → let r = change a s (fresh_on s.mesh s.plan) in Kept r.session (note g (mend f k) r.answer (seen s) l)
      by_answer Accepted = mend_kept K
      by_answer (Err r) = K
  call_kept K (status k u) = K

  -- ---- any list of calls

  module _ (tested : (s : Session) (l : Log) → Kept s l → record_answer s ≡ Accepted) where
    -- the rules go on from what the session holds
    pub next-now : {s : Session} {l : Log} → Kept s l → (c : Call) → seen (next c s) ≡ rule_next g c (seen s)
    next-now {s} {l} K c =
        let (held, planned, _) = kept-holds K in
        next-seen s (kept_sized K) (tested s l K) c ∙ ap₂ (λ (m : Mesh) (p : Plan). rule_next (backup m p) c (seen s)) held planned

    pub calls-kept : (cs : List Call) {s : Session} {l : Log} → Kept s l → Kept (after cs s) (logged g (answers cs s) (seen s) l)
    unfolding after answers logged
    calls-kept [] K = K
    calls-kept (c ∷ cs) {s} {l} K =
        subst (λ (n : Now). Kept (after cs (next c s)) (logged g (answers cs (next c s)) n (note g c (reply c s) (seen s) l)))
        (next-now K c) (calls-kept cs (call_kept K c))

    -- further calls go on from what the session holds and what the answers say then
    pub calls-more : (cs ds : List Call) {s : Session} {l : Log} → Kept s l
        → logged g (answers (cs ++ ds) s) (seen s) l ≡ logged g (answers ds (after cs s)) (seen (after cs s)) (logged g (answers cs s) (seen s) l)
    unfolding after answers logged
    calls-more [] ds K = refl
    calls-more (c ∷ cs) ds {s} {l} K =
        let L : Log = note g c (reply c s) (seen s) l in
        let t : Session = next c s in
        subst (λ (n : Now). logged g (answers (cs ++ ds) t) n L ≡ logged g (answers ds (after cs t)) (seen (after cs t)) (logged g (answers cs t) n L))
        (next-now K c) (calls-more cs ds (call_kept K c))

  -- ---- on wavelength w

  module _ {k : ℕ} {ts : List Turn} (q : Since k ts) where
    -- its flood is what its own deliveries make
    pub played-own : (w : Wavelength) → on w (played m p k ts) ≡ machine.play (graphs m p w) (lost m p k w) (links_on w ts) (on w (begun m p k))
    played-own w = play-on (graphs m p) (lost m p k) w ts (begun m p k)

    -- and each of these was accepted
    most : (w : Wavelength) → accepted_on (graphs m p) (lost m p k) w ts (begun m p k) ≤ length (links_on w ts)
    most w = own_most (graphs m p) (lost m p k) w ts (begun m p k)

    pub accepted-own : (w : Wavelength) → accepted_on (graphs m p) (lost m p k) w ts (begun m p k) ≡ length (links_on w ts)
    accepted-own First = omega (arith, q.all, accepted_both (graphs m p) (lost m p k) ts (begun m p k), links_all ts, most First, most Second)
    accepted-own Second = omega (arith, q.all, accepted_both (graphs m p) (lost m p k) ts (begun m p k), links_all ts, most First, most Second)

  -- so it has made progress by them
  module _ (links : m.count ≤ 256) (nodes : m.nodes ≤ 64) (w : Wavelength) where
    pub blank : Blank (graphs m p w) (on w (fresh_on_each 256 64))
    blank = rw (fresh_on_lem w 256 64) (fresh_blank (graphs m p w) 256 64 links nodes)

    module _ (strong : Strong g) {k : ℕ} {ts : List Turn} (q : Since k ts) where
      pub sound : Sound (graphs m p w) (lost m p k w)
      sound = cut_sound (arcs_strong w strong) k q.link

      pub progress : Progress (graphs m p w) (lost m p k w) (length (links_on w ts)) (on w (played m p k ts))
      progress =
          rw (played-own q w, ← accepted-own q w, on-begin (graphs m p) (lost m p k) w (fresh_on_each 256 64))
          (after_progress (graphs m p w) (lost m p k w) sound blank (links_on w ts))
