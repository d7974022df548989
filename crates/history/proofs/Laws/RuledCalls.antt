-- A call that passes its record test refuses as the rules do, and where it accepts makes what the rules make. Assumes nothing.
use Rattle.std.specs.Prelude.{ℕ, ◌<◌, ◌≡◌, true, false, eqb, get_or}
use Rattle.std.proofs.Math.Path.{refl, ap}
use Rattle.std.proofs.Common.{◌∙◌, arith}
use mathlib.Core.List.{List}
use Rattle.scan.specs.Test.{branch, clash}
use Rattle.scan.specs.Entry.{replicate-at}
use Rattle.mesh.specs.declared.Mesh.{Mesh}
use Rattle.mesh.specs.declared.Plan.{Plan}
use Rattle.mesh.specs.Answer.{Answer, Accepted}
use Rattle.mesh.specs.Laws.Answer.{and_then-accepted}
use Rattle.mesh.specs.Laws.Checked.{Passes, passes}
use Rattle.flood.specs.Digraph.{Digraph, Failure}
use Rattle.flood.specs.Machine.{under_way, fresh, Roomy}
use Rattle.wavelengths.specs.declared.Wavelength.{Wavelength}
use Rattle.wavelengths.specs.declared.Wavelength.TheVariants.{First, Second}
use Rattle.wavelengths.specs.Wavelength.{wavelength_of, on}
use Rattle.wavelengths.specs.Merge as merge
use Rattle.wavelengths.specs.Merge.{Turn, turn, busy, accepts, step, order}
use Rattle.wavelengths.proofs.Laws.Project.{fresh_on_lem, on-begin}
use Rattle.formed.specs.Cut.{Cut, Nothing, Link}
use Rattle.formed.specs.Formed as formed
use Rattle.refusals.specs.Refusals as refusals
use Rattle.refusals.specs.Refusals.{standing, is_cut}
use Rattle.recovery.specs.declared.Session.{Session}
use Rattle.recovery.specs.Session.{floods}
use Rattle.recovery.specs.Formed.{record_answer}
use Rattle.recovery.specs.Calls.{digraph, failure_of, failure, with_floods, fresh_on, cut_on}
use Rattle.recovery.specs.Calls.{cut_answer, deliver_answer, run_answer, mend_answer, status_answer}
use Rattle.recovery.specs.Laws.Tested.{cut-accepted, deliver_accepted, run-accepted}
use Rattle.history.specs.History.{Form, Call, cut, deliver, run, mend, status}
use Rattle.history.specs.Rules.{quiet, start, cut_rule, turns_rule, stands, names, refusal, run_made, effect}
use Rattle.history.specs.Demand.{Sized, seen, arcs}
use Rattle.history.proofs.Laws.RuledTests.{shown}
use Rattle.history.proofs.Laws.RuledSteps.{begin-ruled}
use Rattle.history.proofs.Laws.RuledRun.{seen_of, rests_ruled, turn-ruled, run-turns, turns-ruled}

-- what a call answers to its tests, and the session that it makes where they pass
abbrev pub answer_of : Call → Session → Answer
answer_of (cut f k) s = cut_answer s k
answer_of (deliver f k u) s = deliver_answer s k u
answer_of (run n) s = run_answer s
answer_of (mend f k) s = mend_answer s k
answer_of (status k u) s = status_answer s k u

abbrev pub made : Call → Session → Session
made (cut f k) s = cut_on s k
made (deliver f k u) s = with_floods s (step (digraph s) (failure s) (turn k (wavelength_of u)) (floods s))
made (run n) s = with_floods s (merge.run (digraph s) (failure s) n (floods s)).floods
made (mend f k) s = fresh_on s.mesh s.plan
made (status k u) s = s

fresh-shown : shown (fresh 256 64) ≡ quiet
unfolding fresh
fresh-shown = λ t. record { state = λ i. replicate-at 256 0 i t; reached = λ v. replicate-at 64 false v t }

pub fresh-seen : (m : Mesh) (p : Plan) → seen (fresh_on m p) ≡ start
fresh-seen m p = λ t. record { cut = Nothing; on = λ w. (ap shown (fresh_on_lem w 256 64) ∙ fresh-shown) t }

-- ---- the tests

module _ (g : Digraph) where
  pub stands_is : (x : Cut) → standing x ≡ stands g x
  stands_is Nothing = refl
  stands_is (Link k) = refl

  names_is : (x : Cut) (j : ℕ) → is_cut x j ≡ names g x j
  names_is Nothing j = refl
  names_is (Link k) j = refl

module _ (s : Session) (r : record_answer s ≡ Accepted) where
  abbrev g : Digraph
  g = arcs s

  -- the refusals
  pub refusal_is : (c : Call) → answer_of c s ≡ refusal g c (seen s)
  unfolding refusals.cut_answer refusals.deliver_answer refusals.run_answer refusals.mend_answer refusals.status_answer under_way
  refusal_is (cut f k) = rw (r, stands_is g s.cut)
  refusal_is (deliver f k u) = rw (r, stands_is g s.cut)
  refusal_is (run n) = rw (r, stands_is g s.cut)
  refusal_is (mend f k) = rw (r, stands_is g s.cut, names_is g s.cut k, rests_ruled g s.cut (floods s))
  refusal_is (status k u) = rw r

  -- what the record test tells: the ends of the links are nodes, and there is room for all
  record_passes : Passes s.mesh
  unfolding formed.record_answer formed.start_answer
  record_passes = passes s.mesh (and_then-accepted _ _ (and_then-accepted _ _ r).0).0

  head< : (w : Wavelength) (i : ℕ) → i < g.links → (digraph s w).head i < g.nodes
  head< First i l =
      branch (λ (v : ℕ). v < s.mesh.nodes) (eqb (get_or s.plan.directions i 0) 0)
      (λ t. record_passes.low_below i l)
      (λ t. record_passes.high_below i l)
  head< Second i l =
      branch (λ (v : ℕ). v < s.mesh.nodes) (eqb (get_or s.plan.directions i 0) 0)
      (λ t. record_passes.high_below i l)
      (λ t. record_passes.low_below i l)

  module _ (z : Sized s) where
    room : (w : Wavelength) → Roomy (digraph s w) (on w (floods s))
    room w = record { long = omega (arith, z.states w, record_passes.count_most); wide = omega (arith, z.reached w, record_passes.nodes_most) }

    abbrev lost_by : Cut → Wavelength → Failure
    lost_by x w = failure_of (digraph s w) x

    -- a cut begins on each wavelength what the rules begin
    cut-ruled : (k : ℕ) → k < g.links → (w : Wavelength) → shown (on w (floods (cut_on s k))) ≡ cut_rule (digraph s w) k (shown (on w (floods s)))
    cut-ruled k l w = ap shown (on-begin (digraph s) (lost_by (Link k)) w (floods s)) ∙ begin-ruled (digraph s w) (head< w) k (on w (floods s)) (room w) l

    -- with the failure of a cut that stands, a delivery and a run make what the rules make
    deliver_ruled_by : (f : Form) (k u : ℕ) (x : Cut) → standing x ≡ true → let t = turn k (wavelength_of u) in
        accepts (digraph s) t (floods s) ≡ true → seen_of x (step (digraph s) (lost_by x) t (floods s)) ≡ effect g (deliver f k u) x (seen_of x (floods s))
    deliver_ruled_by f k u Nothing e a = clash e refl
    deliver_ruled_by f k u (Link c) e a = turn-ruled g (Link c) head< c (floods s) room (turn k (wavelength_of u)) a

    run-made_by : (n : ℕ) (x : Cut) → standing x ≡ true → order (digraph s) (lost_by x) n (floods s) ≡ run_made g x n (seen_of x (floods s))
    run-made_by n Nothing e = clash e refl
    run-made_by n (Link c) e = run-turns g (Link c) head< c n (floods s) room

    run-ruled_by : (n : ℕ) (x : Cut) → standing x ≡ true
        → seen_of x (merge.run (digraph s) (lost_by x) n (floods s)).floods ≡ effect g (run n) x (seen_of x (floods s))
    unfolding merge.run
    run-ruled_by n Nothing e = clash e refl
    run-ruled_by n (Link c) e =
        turns-ruled g (Link c) head< c n (floods s) room
        ∙ ap (λ (ts : List Turn). turns_rule g c ts (seen_of (Link c) (floods s))) (run-made_by n (Link c) e)

    -- where a call accepts, it makes what the rules make
    pub made-seen : (c : Call) → answer_of c s ≡ Accepted → seen (made c s) ≡ effect g c s.cut (seen s)
    unfolding accepts busy
    made-seen (cut f k) e = λ t. record { cut = Link k; on = λ w. cut-ruled k (cut-accepted s k e).1 w t }
    made-seen (deliver f k u) e = let (r, b, n, c, a) = deliver_accepted s k u e in deliver_ruled_by f k u s.cut c a
    made-seen (run n) e = run-ruled_by n s.cut (run-accepted s e).1
    made-seen (mend f k) e = fresh-seen s.mesh s.plan
    made-seen (status k u) e = refl

    -- a run makes the deliveries that the rules make
    pub run-made : (n : ℕ) → run_answer s ≡ Accepted → order (digraph s) (failure s) n (floods s) ≡ run_made g s.cut n (seen s)
    run-made n e = run-made_by n s.cut (run-accepted s e).1
