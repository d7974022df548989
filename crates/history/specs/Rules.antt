-- 01's rules of the recovery machine by themselves, with 02's two wavelengths: what a list of calls makes of the cut, the states and the reached nodes,
-- and what each call answers. They know the back-up digraph and the lengths of its links, and no stored record. Read beside 01, "The recovery machine", and
-- 02, request 2. Definitions only.
use Rattle.std.specs.Prelude.{ℕ, zero, suc, Bool, true, false, cond, not, ◌&&◌, ◌||◌, List, [], ◌∷◌, eqb, ltb, length, Err}
use Rattle.scan.specs.Lowest.{lowest, any}
use Rattle.scan.specs.Total.{count}
use Rattle.metres.specs.Length.{route_length}
use Rattle.mesh.specs.Answer.{Answer, Accepted, Refused}
use Rattle.mesh.specs.Mesh.{must}
use Rattle.flood.specs.Digraph.{Digraph}
use Rattle.wavelengths.specs.declared.Wavelength.TheVariants.{First, Second}
use Rattle.wavelengths.specs.declared.Wavelength.{Wavelength}
use Rattle.wavelengths.specs.Wavelength.{same, is_wavelength, wavelength_of, arcs_on}
use Rattle.wavelengths.specs.Merge.{Turn, turn}
use Rattle.formed.specs.Cut.{Cut}
use Rattle.formed.specs.Cut as cuts
use Rattle.recovery.specs.declared.Delivered.{Delivered}
use Rattle.recovery.specs.declared.Delivered.TheVariants as delivered
use Rattle.recovery.specs.Answers.{Report, Status}
use Rattle.recovery.specs.Answers as outcomes
use Rattle.history.specs.History.{Call, Reply, cut, deliver, run, mend, status}

-- on one wavelength: the state of each link (0 quiet, 1 offered, 2 taken, 3 refused, 4 released), and which nodes are reached
pub record Side : Type 0 where
  pub state : ℕ → ℕ
  pub reached : ℕ → Bool

-- the cut link or none, and what is held per wavelength
pub record Now : Type 0 where
  pub cut : Cut
  pub on : Wavelength → Side

-- no cut, and on each wavelength all links quiet and no node reached
abbrev pub quiet : Side
quiet = record { state = λ i. 0; reached = λ v. false }

abbrev pub start : Now
start = record { cut = cuts.Nothing; on = λ w. quiet }

-- f with the value v at j
abbrev pub put : {A : Type 0} → (ℕ → A) → ℕ → A → ℕ → A
put f j v i = cond (eqb i j) v (f i)

-- states 1 and 3 are under way
abbrev pub moving : ℕ → Bool
moving v = eqb v 1 || eqb v 3

-- ---- the rules on one wavelength, over its own back-up arcs; link k is the cut one, its primary arc leads from x to y, so its back-up arc from y to x

module _ (g : Digraph) where
  open g use {links, tail, head}

  -- cut: x is reached; every link leaving x, save k, becomes offered
  unfoldable pub cut_rule : ℕ → Side → Side
  cut_rule k n =
      let x : ℕ = head k in
      record {
        state = λ i. cond (ltb i links && (eqb (tail i) x && not (eqb i k))) 1 (n.state i);
        reached = put n.reached x true;
      }

  -- the quiet links leaving b, save the cut one
  abbrev pub quiet_from : ℕ → ℕ → Side → ℕ → Bool
  quiet_from k b n i = ltb i links && (eqb (tail i) b && (not (eqb i k) && eqb (n.state i) 0))

  -- delivery on an offered link j, a to b: if b is reached, it becomes refused; otherwise b becomes reached; if b is y, it becomes taken; if not,
  -- every quiet link leaving b, save the cut one, becomes offered and it becomes taken; with none to offer it becomes refused
  unfoldable pub offered_rule : ℕ → ℕ → Side → Side
  offered_rule k j n =
      let b : ℕ = head j in
      let y : ℕ = tail k in
      let met : ℕ → Bool = put n.reached b true in
      cond (n.reached b)
      (record { state = put n.state j 3; reached = n.reached })
      (cond (eqb b y)
      (record { state = put n.state j 2; reached = met })
      (cond (any (quiet_from k b n) links)
      (record { state = put (λ i. cond (quiet_from k b n i) 1 (n.state i)) j 2; reached = met })
      (record { state = put n.state j 3; reached = met })))

  -- a link leaving a has state 1, 2 or 3
  abbrev pub held_at : ℕ → (ℕ → ℕ) → ℕ → Bool
  held_at a s i = eqb (tail i) a && (eqb (s i) 1 || (eqb (s i) 2 || eqb (s i) 3))

  -- a taken link into a
  abbrev pub taken_into : ℕ → (ℕ → ℕ) → ℕ → Bool
  taken_into a s i = eqb (head i) a && eqb (s i) 2

  -- delivery on a refused link j, a to b: it becomes released; if a is not x and no link leaving a has state 1, 2 or 3, the lowest taken link
  -- into a, if any, becomes refused
  unfoldable pub refused_rule : ℕ → ℕ → Side → Side
  refused_rule k j n =
      let a : ℕ = tail j in
      let x : ℕ = head k in
      let s : ℕ → ℕ = put n.state j 4 in
      cond (not (eqb a x) && (not (any (held_at a s) links) && any (taken_into a s) links))
      (record { state = put s (lowest (taken_into a s) links) 3; reached = n.reached })
      (record { state = s; reached = n.reached })

  abbrev pub deliver_rule : ℕ → ℕ → Side → Side
  deliver_rule k j n = cond (eqb (n.state j) 1) (offered_rule k j n) (refused_rule k j n)

-- ---- the rules on both, over the back-up arcs of wavelength 1: wavelength 2 has every arc turned round, so that x and y change places

module _ (g : Digraph) where
  open g use {links}

  -- a cut starts one flood on each
  abbrev pub cut_both : ℕ → Now → Now
  cut_both k n = record { cut = cuts.Link k; on = λ w. cut_rule (arcs_on w g) k (n.on w) }

  -- a delivery on a link and a wavelength; the other wavelength stays
  unfoldable pub turn_rule : ℕ → Turn → Now → Now
  turn_rule k t n = record {
    cut = n.cut;
    on = λ w. cond (same w t.wavelength) (deliver_rule (arcs_on w g) k t.link (n.on w)) (n.on w);
  }

  -- none is under way on a wavelength; at rest none is on either
  abbrev pub rest_on : Side → Bool
  rest_on n = not (any (λ i. moving (n.state i)) links)

  abbrev pub rest : Now → Bool
  rest n = rest_on (n.on First) && rest_on (n.on Second)

  -- the next delivery of a run: on the lowest link under way, wavelength 1 before 2 on the same link
  abbrev pub next_turn : Now → Turn
  next_turn n =
      let j : ℕ = lowest (λ i. moving ((n.on First).state i) || moving ((n.on Second).state i)) links in
      turn j (cond (moving ((n.on First).state j)) First Second)

  -- the deliveries of a run, until rest or until the allowed number is used
  unfoldable pub run_turns : ℕ → ℕ → Now → List Turn
  run_turns k zero n = []
  run_turns k (suc allowed) n =
      let later : List Turn = run_turns k allowed (turn_rule k (next_turn n) n) in
      cond (rest n) [] (next_turn n ∷ later)

  -- what they make
  unfoldable pub turns_rule : ℕ → List Turn → Now → Now
  turns_rule k [] n = n
  turns_rule k (t ∷ ts) n = turns_rule k ts (turn_rule k t n)

  -- ---- each call: its refusals 12, 14 and 22 to 26 in order, and what it changes; a refused call changes nothing

  -- the cut link where one stands
  abbrev pub stands : Cut → Bool
  stands cuts.Nothing = false
  stands (cuts.Link k) = true

  abbrev pub names : Cut → ℕ → Bool
  names cuts.Nothing j = false
  names (cuts.Link k) j = eqb k j

  abbrev pub refusal : Call → Now → Answer
  refusal (cut f j) n = must (ltb j links) 12 j (must (not (stands n.cut)) 22 j Accepted)
  refusal (deliver f j u) n =
      must (ltb j links) 12 j
      (must (is_wavelength u) 14 0
      (must (stands n.cut) 23 j
      (must (moving ((n.on (wavelength_of u)).state j)) 24 j
      Accepted)))
  refusal (run allowed) n = must (stands n.cut) 23 0 Accepted
  refusal (mend f j) n = must (ltb j links) 12 j (must (stands n.cut) 23 j (must (names n.cut j) 26 j (must (rest n) 25 j Accepted)))
  refusal (status j u) n = must (ltb j links) 12 j (must (is_wavelength u) 14 0 Accepted)

  -- the deliveries that a run makes under a cut; with none it is not accepted
  abbrev pub run_made : Cut → ℕ → Now → List Turn
  run_made (cuts.Link k) allowed n = run_turns k allowed n
  run_made cuts.Nothing allowed n = []

  -- what an accepted call makes; with no cut a delivery or a run is not accepted
  abbrev pub effect : Call → Cut → Now → Now
  effect (cut f j) c n = cut_both j n
  effect (deliver f j u) (cuts.Link k) n = turn_rule k (turn j (wavelength_of u)) n
  effect (deliver f j u) cuts.Nothing n = n
  effect (run allowed) (cuts.Link k) n = turns_rule k (run_turns k allowed n) n
  effect (run allowed) cuts.Nothing n = n
  effect (mend f j) c n = start
  effect (status j u) c n = n

  abbrev pub changed_by : {A : Type 0} → Answer → A → A → A
  changed_by Accepted n after = after
  changed_by (Err r) n after = n

  unfoldable pub rule_next : Call → Now → Now
  rule_next c n = changed_by (refusal c n) n (effect c n.cut n)

  -- a delivery on wavelength w answers taken, turned back or released, with the node that acted: b, b or a
  abbrev pub deliver_reply : Answer → ℕ → Wavelength → Now → Delivered
  deliver_reply (Err r) j w after = delivered.Refused r.number r.place
  deliver_reply Accepted j w after =
      let v : ℕ = (after.on w).state j in
      cond (eqb v 2) (delivered.Taken ((arcs_on w g).head j))
      (cond (eqb v 3) (delivered.TurnedBack ((arcs_on w g).head j))
      (delivered.Released ((arcs_on w g).tail j)))

  -- a run reports how many deliveries it made on both wavelengths, and whether it is at rest
  abbrev pub run_reply : Answer → List Turn → Now → Report
  run_reply (Err r) made after = Refused r.number r.place
  run_reply Accepted made after = outcomes.Made (length made) (rest after)

  -- a link's state on wavelength w, how many links are under way on w, and w's route length, by the length of each link
  abbrev pub status_reply : (ℕ → ℕ) → Answer → ℕ → Wavelength → Now → Status
  status_reply length (Err r) j w n = Refused r.number r.place
  status_reply length Accepted j w n =
      let v : ℕ → ℕ = (n.on w).state in
      outcomes.Link (v j) (count (λ i. moving (v i)) links) (route_length (stands n.cut && rest n) length v links)

  -- what each call answers, by the length of each link
  abbrev pub rule_reply : (ℕ → ℕ) → (c : Call) → Now → Reply c
  rule_reply length (cut f j) n = refusal (cut f j) n
  rule_reply length (deliver f j u) n = deliver_reply (refusal (deliver f j u) n) j (wavelength_of u) (rule_next (deliver f j u) n)
  rule_reply length (run allowed) n = run_reply (refusal (run allowed) n) (run_made n.cut allowed n) (rule_next (run allowed) n)
  rule_reply length (mend f j) n = refusal (mend f j) n
  rule_reply length (status j u) n = status_reply length (refusal (status j u) n) j (wavelength_of u) n

  -- what the list of calls makes
  unfoldable pub ruled : List Call → Now → Now
  ruled [] n = n
  ruled (c ∷ cs) n = ruled cs (rule_next c n)
