-- The next session: a call changes the session where it accepts, and then as the rules do; it keeps the mesh, the plan and the lists' lengths.
-- Assumes nothing.
use Rattle.std.specs.Prelude.{ℕ, ◌≡◌, refl, false, List, [], ◌∷◌, Err}
use Rattle.std.proofs.Common.{sym, ◌∙◌, ap, subst}
use Rattle.std.proofs.lemmas.List.{length-replicate}
use Rattle.mesh.specs.declared.Mesh.{Mesh}
use Rattle.mesh.specs.declared.Plan.{Plan}
use Rattle.mesh.specs.Answer.{Answer, Accepted, Refused}
use Rattle.flood.specs.Digraph.{Failure}
use Rattle.flood.specs.Digraph as failures
use Rattle.flood.specs.Machine.{fresh}
use Rattle.flood.specs.Laws.Frame.{Frame, begin_frame}
use Rattle.wavelengths.specs.declared.Floods.{Floods}
use Rattle.wavelengths.specs.declared.Wavelength.{Wavelength}
use Rattle.wavelengths.specs.Wavelength.{wavelength_of, on}
use Rattle.wavelengths.specs.Merge as merge
use Rattle.wavelengths.specs.Merge.{Turn, turn, order, play}
use Rattle.wavelengths.proofs.Laws.Project.{fresh_on_lem, on-begin}
use Rattle.recovery.specs.declared.Session.{Session}
use Rattle.recovery.specs.Session.{floods}
use Rattle.recovery.specs.Formed.{record_answer}
use Rattle.recovery.specs.Calls.{digraph, failure, fresh_on, cut_on, with_floods, change, delivery_as, run_as, after_cut, after_delivery, after_run, after_mend}
use Rattle.history.specs.History.{Call, cut, deliver, run, mend, status, next}
use Rattle.history.specs.Rules.{Now, effect, changed_by, rule_next}
use Rattle.history.specs.Demand.{Sized, seen, arcs}
use Rattle.history.proofs.Laws.RuledRun.{play_frames}
use Rattle.history.proofs.Laws.RuledCalls.{answer_of, made, refusal_is, made-seen}

-- every call, as a cut or a mend, hands the session back where it refuses
pub next_is : (c : Call) (s : Session) → next c s ≡ (change (answer_of c s) s (made c s)).session
unfolding after_cut after_delivery after_run after_mend
next_is (cut f k) s = refl
next_is (deliver f k u) s = go (answer_of (deliver f k u) s) _
  where
    go : (a : Answer) (p : Floods) → (delivery_as a s k (wavelength_of u) p).session ≡ (change a s (with_floods s p)).session
    go Accepted p = refl
    go (Err r) p = refl
next_is (run n) s = go (answer_of (run n) s) _
  where
    go : (a : Answer) (r : merge.Ran) → (run_as a s r).session ≡ (change a s (with_floods s r.floods)).session
    go Accepted r = refl
    go (Err why) r = refl
next_is (mend f k) s = refl
next_is (status k u) s = go (answer_of (status k u) s)
  where
    go : (a : Answer) → s ≡ (change a s s).session
    go Accepted = refl
    go (Err r) = refl

-- ---- what a call keeps

-- what holds of the session, and of what the call makes where it accepts, holds of the next session
next_keeps : (P : Session → Type 0) (c : Call) (s : Session) → P s → P (made c s) → P (next c s)
next_keeps P c s p q = subst P (sym (next_is c s)) (go (answer_of c s))
  where
    go : (a : Answer) → P (change a s (made c s)).session
    go Accepted = q
    go (Err r) = p

pub next-mesh-plan : (c : Call) (s : Session) → ((next c s).mesh ≡ s.mesh) × ((next c s).plan ≡ s.plan)
next-mesh-plan c s = next_keeps (λ t. (t.mesh ≡ s.mesh) × (t.plan ≡ s.plan)) c s (refl, refl) (go c)
  where
    go : (c : Call) → ((made c s).mesh ≡ s.mesh) × ((made c s).plan ≡ s.plan)
    go (cut f k) = (refl, refl)
    go (deliver f k u) = (refl, refl)
    go (run n) = (refl, refl)
    go (mend f k) = (refl, refl)
    go (status k u) = (refl, refl)

pub fresh_sized : (m : Mesh) (p : Plan) → Sized (fresh_on m p)
unfolding fresh
fresh_sized m p = record {
  states = λ w. rw (fresh_on_lem w 256 64) (length-replicate {A = ℕ} 256 0);
  reached = λ w. rw (fresh_on_lem w 256 64) (length-replicate 64 false);
}

-- a cut and deliveries keep the lengths
module _ (s : Session) (z : Sized s) where
  framed : (t : Session) → ((w : Wavelength) → Frame (digraph s w) (on w (floods s)) (on w (floods t))) → Sized t
  framed t F = record { states = λ w. (F w).states.sized ∙ z.states w; reached = λ w. (F w).reached.sized ∙ z.reached w }

  pub cut_sized : (k : ℕ) → Sized (cut_on s k)
  cut_sized k =
      let lost : Wavelength → Failure = λ w. failures.cut (digraph s w) k in
      framed (cut_on s k)
      (λ w. subst (Frame (digraph s w) (on w (floods s))) (sym (on-begin (digraph s) lost w (floods s))) (begin_frame (digraph s w) (lost w) (on w (floods s))))

  pub play_sized : (ts : List Turn) → Sized (with_floods s (play (digraph s) (failure s) ts (floods s)))
  play_sized ts = framed (with_floods s (play (digraph s) (failure s) ts (floods s))) (play_frames (digraph s) (failure s) ts (floods s))

pub next_sized : (c : Call) (s : Session) → Sized s → Sized (next c s)
unfolding play merge.run
next_sized c s z = next_keeps Sized c s z (go c)
  where
    go : (c : Call) → Sized (made c s)
    go (cut f k) = cut_sized s z k
    go (deliver f k u) = play_sized s z (turn k (wavelength_of u) ∷ [])
    go (run n) = play_sized s z (order (digraph s) (failure s) n (floods s))
    go (mend f k) = fresh_sized s.mesh s.plan
    go (status k u) = z

-- ---- what it changes

pub next-seen : (s : Session) → Sized s → record_answer s ≡ Accepted → (c : Call) → seen (next c s) ≡ rule_next (arcs s) c (seen s)
unfolding rule_next
next-seen s z r c =
    let later : Now = effect (arcs s) c s.cut (seen s) in
    ap seen (next_is c s)
    ∙ go (answer_of c s) later (made-seen s r z c)
    ∙ ap (λ (a : Answer). changed_by (arcs s) a (seen s) later) (refusal_is s r c)
  where
    go : (a : Answer) (n : Now) → (a ≡ Accepted → seen (made c s) ≡ n) → seen (change a s (made c s)).session ≡ changed_by (arcs s) a (seen s) n
    go Accepted n h = h refl
    go (Err r) n h = refl
