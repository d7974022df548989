-- A delivery and a run on both wavelengths make what the rules make, and a run makes the same deliveries: each is on the lowest link under way, and so
-- counts. Assumes nothing.
use Prim.Native.Nat.{ℕ, zero, suc, ◌<◌, max}
use Rattle.std.specs.Prelude.{◌≡◌, List, [], ◌∷◌}
use Rattle.std.proofs.Math.Path.{refl, sym, ap, ap₂, subst}
use Rattle.std.proofs.Common.{◌∙◌, lt-ltb}
use Rattle.std.proofs.Math.Logic.{⊎_elim}
use Rattle.std.proofs.Math.Bool.{Bool, true, false, cond, ◌&&◌, ◌||◌}
use native.Mathlib.Omega.{arith}
use Rattle.scan.specs.Test.{known}
use Rattle.scan.specs.Entry.{at}
use Rattle.scan.specs.Lowest.{lowest, lowest_is, lowest_only}
use Rattle.flood.specs.Digraph.{Digraph, Failure, cut}
use Rattle.flood.specs.Machine as machine
use Rattle.flood.specs.Machine.{under_way, Roomy}
use Rattle.flood.specs.Laws.Tests.{accepts_says}
use Rattle.flood.specs.Laws.Frame.{Frame, frame_room, play_frame}
use Rattle.wavelengths.specs.declared.Floods.{Floods}
use Rattle.wavelengths.specs.declared.Wavelength.{Wavelength}
use Rattle.wavelengths.specs.declared.Wavelength.TheVariants.{First, Second}
use Rattle.wavelengths.specs.Wavelength.{same, arcs_on, on}
use Rattle.wavelengths.specs.Merge.{Turn, turn, links_on, busy, at_rest, accepts, next, step, play, order}
use Rattle.wavelengths.proofs.Laws.Wavelength.{same_is}
use Rattle.wavelengths.proofs.Laws.Project.{step-own, step_other, play-on}
use Rattle.wavelengths.proofs.Laws.Next.{next-accepted}
use Rattle.formed.specs.Cut.{Cut}
use Rattle.history.specs.Rules.{Now, moving, deliver_rule, turn_rule, rest, next_turn, run_turns, turns_rule}
use Rattle.history.proofs.Laws.RuledTests.{shown, rest_is}
use Rattle.history.proofs.Laws.RuledSteps.{step-ruled}

-- what the rules see of the floods on the two wavelengths under the cut x
abbrev pub seen_of : Cut → Floods → Now
seen_of x p = record { cut = x; on = λ w. shown (on w p) }

-- deliveries on both leave on each what those of its own list leave alone
pub play_frames : (g : Wavelength → Digraph) (c : Wavelength → Failure) (ts : List Turn) (p : Floods) (w : Wavelength) → Frame (g w) (on w p) (on w (play g c ts p))
play_frames g c ts p w = subst (Frame (g w) (on w p)) (sym (play-on g c w ts p)) (play_frame (g w) (c w) (links_on w ts) (on w p))

-- tests that agree below n have the same lowest
lowest-same : (p q : ℕ → Bool) (n : ℕ) → ((i : ℕ) → i < n → p i ≡ q i) → lowest p n ≡ lowest q n
lowest-same p q n h =
    let L = lowest_is q n in
    lowest_only p n (lowest q n) (record { within = L.within; passes = λ l. h _ l ∙ L.passes l; before = λ m l. h m (omega (arith, L.within)) ∙ L.before m l })

-- ---- over the back-up arcs g of wavelength 1, under the cut x

module _ (g : Digraph) (x : Cut) where
  open g use {links, nodes}

  abbrev graphs : Wavelength → Digraph
  graphs w = arcs_on w g

  -- ---- rest, and the next delivery

  pub rests_ruled : (p : Floods) → at_rest graphs p ≡ rest g (seen_of x p)
  unfolding at_rest
  rests_ruled p = ap₂ ◌&&◌ (rest_is (graphs First) p.first) (rest_is (graphs Second) p.second)

  busy_is : (p : Floods) (w : Wavelength) (i : ℕ) → i < links → busy graphs w p i ≡ moving (at (on w p).states i)
  unfolding busy machine.accepts under_way
  busy_is p w i l = rw (lt-ltb i links l)

  module _ (p : Floods) (r : at_rest graphs p ≡ false) where
    abbrev j : ℕ
    j = (next graphs p).link

    next_below : j < links
    unfolding accepts busy
    next_below = let w : Wavelength = (next graphs p).wavelength in ((accepts_says (graphs w) j (on w p)).0 (next-accepted graphs p r)).0

    next-ruled : next graphs p ≡ next_turn g (seen_of x p)
    unfolding next
    next-ruled =
        let either : ℕ → Bool = λ i. busy graphs First p i || busy graphs Second p i in
        let at-link : ℕ → Turn = λ i. turn i (cond (moving (at p.first.states i)) First Second) in
        let all : max links links ≡ links = omega arith in
        ap (λ (b : Bool). turn j (cond b First Second)) (busy_is p First j next_below)
        ∙ ap (λ (n : ℕ). at-link (lowest either n)) all
        ∙ ap at-link (lowest-same _ _ links (λ i l. ap₂ ◌||◌ (busy_is p First i l) (busy_is p Second i l)))

  -- ---- link k is cut

  module _ (ends< : (w : Wavelength) (i : ℕ) → i < links → (graphs w).head i < nodes) (k : ℕ) where
    abbrev lost : Wavelength → Failure
    lost w = cut (graphs w) k

    abbrev Rooms : Floods → Type 0
    Rooms p = (w : Wavelength) → Roomy (graphs w) (on w p)

    -- a delivery
    pub turn-ruled : (p : Floods) → Rooms p → (t : Turn) → accepts graphs t p ≡ true → seen_of x (step graphs lost t p) ≡ turn_rule g k t (seen_of x p)
    unfolding turn_rule accepts busy
    turn-ruled p room t a = λ i. record { cut = x; on = λ w. on-each w (same w t.wavelength) refl i }
      where
        on-each : (w : Wavelength) (b : Bool) → same w t.wavelength ≡ b
            → shown (on w (step graphs lost t p)) ≡ cond (same w t.wavelength) (deliver_rule (graphs w) k t.link (shown (on w p))) (shown (on w p))
        on-each w true e =
            let there = subst (λ (v : Wavelength). machine.accepts (graphs v) t.link (on v p) ≡ true) (sym (same_is w t.wavelength e)) a in
            rw e (ap shown (step-own graphs lost w t p e) ∙ step-ruled (graphs w) (ends< w) k (on w p) (room w) t.link there)
        on-each w false e = rw e (ap shown (step_other graphs lost w t p e))

    -- the next one of a run, after which there is room as before
    module _ (p : Floods) (room : Rooms p) (r : at_rest graphs p ≡ false) where
      abbrev later : Floods
      later = step graphs lost (next graphs p) p

      later-ruled : seen_of x later ≡ turn_rule g k (next graphs p) (seen_of x p)
      later-ruled = turn-ruled p room (next graphs p) (next-accepted graphs p r)

      later-rooms : Rooms later
      unfolding play
      later-rooms w = frame_room (graphs w) (play_frames graphs lost (next graphs p ∷ []) p w) (room w)

    -- the deliveries of a run
    pub run-turns : (n : ℕ) (p : Floods) → Rooms p → order graphs lost n p ≡ run_turns g k n (seen_of x p)
    unfolding order run_turns
    run-turns zero p room = refl
    run-turns (suc n) p room = ⊎_elim
        (λ r. let stops : rest g (seen_of x p) ≡ true = sym (rests_ruled p) ∙ r in rw (r, stops))
        (λ r.
        let moves : rest g (seen_of x p) ≡ false = sym (rests_ruled p) ∙ r in
        rw (r, moves)
        (ap (◌∷◌ (next graphs p)) (run-turns n (later p room r) (later-rooms p room r) ∙ ap (run_turns g k n) (later-ruled p room r))
        ∙ ap (λ (t : Turn). t ∷ run_turns g k n (turn_rule g k t (seen_of x p))) (next-ruled p r)))
        (known (at_rest graphs p))

    -- what they make
    pub turns-ruled : (n : ℕ) (p : Floods) → Rooms p → seen_of x (play graphs lost (order graphs lost n p) p) ≡ turns_rule g k (order graphs lost n p) (seen_of x p)
    unfolding order play turns_rule
    turns-ruled zero p room = refl
    turns-ruled (suc n) p room = ⊎_elim
        (λ r. rw r)
        (λ r.
        rw r
        (turns-ruled n (later p room r) (later-rooms p room r)
        ∙ ap (turns_rule g k (order graphs lost n (later p room r))) (later-ruled p room r)))
        (known (at_rest graphs p))
