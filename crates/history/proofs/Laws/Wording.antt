-- What an accepted delivery answers, case by case as 01 words it: the link's state then decides, and the tests of each case give that state. Assumes nothing.
use Prim.Native.Nat.{ℕ, ◌<◌}
use Rattle.std.specs.Prelude.{◌≡◌, ◌≢◌, Bool, true, false, set}
use Rattle.std.proofs.Common.{◌∙◌, arith, get_or-set_other}
use Rattle.std.proofs.Math.Path.{ap}
use mathlib.Core.List.{List}
use Rattle.std.proofs.Math.ListN.{length}
use borrow.Author.Tests.{eq-eqb, ne_eqb, eqb-false}
use Rattle.scan.specs.Test.{failing}
use Rattle.scan.specs.Entry.{at, has, at_inside, set_at}
use Rattle.flood.specs.declared.Flood.{Flood}
use Rattle.flood.specs.Digraph.{Digraph, Failure}
use Rattle.flood.specs.Digraph as failures
use Rattle.flood.specs.Machine.{offer, opens, accepts, arrive, step}
use Rattle.flood.specs.Laws.Tests.{Opens, some-opens_says, length-offer}
use Rattle.flood.specs.Laws.Ways.{withdraw_ways}
use Rattle.mesh.specs.Answer.{Accepted}
use Rattle.wavelengths.specs.declared.Wavelength.{Wavelength}
use Rattle.wavelengths.specs.Wavelength.{wavelength_of, on}
use Rattle.wavelengths.specs.Merge as merge
use Rattle.wavelengths.proofs.Laws.Wavelength.{on-put-own}
use Rattle.formed.specs.Cut.{Cut, Link}
use Rattle.recovery.specs.declared.Delivered.TheVariants.{Taken, TurnedBack, Released}
use Rattle.recovery.specs.declared.Session.{Session}
use Rattle.recovery.specs.Session.{floods}
use Rattle.recovery.specs.Calls.{digraph, failure_of, failure, acted, deliver_answer, after_delivery}
use Rattle.recovery.specs.Laws.Tested.{deliver_accepted}

-- ---- the state of the link delivered on

module _ (g : Digraph) (c : Failure) (f : Flood) (j : ℕ) (t : accepts g j f ≡ true) where
  open g use {head}
  open c use {target}

  abbrev S : ℕ → ℕ
  S = at f.states

  set_state : 0 < S j → (v : ℕ) → at (set f.states j v) j ≡ v
  set_state h v = (set_at f.states j v (at_inside f.states j h)).there

  -- its head is reached already; it is the target; it has links to offer; it has none
  module _ (o : S j ≡ 1) where
    state_known : has f.reached (head j) ≡ true → at (step g c j f).states j ≡ 3
    unfolding step arrive
    state_known r = rw (t, o, r) (set_state (omega arith) 3)

    state_target : has f.reached (head j) ≡ false → head j ≡ target → at (step g c j f).states j ≡ 2
    unfolding step arrive
    state_target r y = rw (t, o, r, eq-eqb (head j) target y) (set_state (omega arith) 2)

    module _ (r : has f.reached (head j) ≡ false) (n : head j ≢ target) where
      state_offers : (i : ℕ) × Opens g c S (head j) i → at (step g c j f).states j ≡ 2
      unfolding step arrive
      state_offers w =
          let l : List ℕ = offer (opens g c (head j)) f.states in
          let b : j < length l = omega (arith, length-offer (opens g c (head j)) f.states, at_inside f.states j (omega arith)) in
          rw (t, o, r, ne_eqb (head j) target n, (some-opens_says g c (head j) f.states n).1 w) (set_at l j 2 b).there

      state_none : ((i : ℕ) × Opens g c S (head j) i → ⊥) → at (step g c j f).states j ≡ 3
      unfolding step arrive
      state_none w =
          rw (t, o, r, ne_eqb (head j) target n, failing (some-opens_says g c (head j) f.states n) w) (set_state (omega arith) 3)

  -- whatever falls back then, it is another link
  state-released : S j ≡ 3 → at (step g c j f).states j ≡ 4
  unfolding step
  state-released o = rw (t, o) (withdraw_ways g c (λ f'. at f'.states j ≡ 4) f j (λ firm. there) (λ x alone m m< z d. stays m z))
    where
      there : at (set f.states j 4) j ≡ 4
      there = set_state (omega arith) 4

      stays : (m : ℕ) → at (set f.states j 4) m ≡ 2 → at (set (set f.states j 4) m 3) j ≡ 4
      stays m z = get_or-set_other (set f.states j 4) m j 3 0 (λ e. let q = ap (at (set f.states j 4)) e ∙ z in omega (arith, there)) ∙ there

-- ---- the answer to a delivery on link k, a to b on the wavelength w that u names, while the cut of link c stands, whose back-up arc there starts at y

module _ (s : Session) (c k u : ℕ) (stands : s.cut ≡ Link c) (ok : deliver_answer s k u ≡ Accepted) where
  abbrev w : Wavelength
  w = wavelength_of u

  abbrev g : Digraph
  g = digraph s w

  abbrev f : Flood
  f = on w (floods s)

  open g use {links, tail, head}

  abbrev x : Failure
  x = failures.cut g c

  abbrev a : ℕ
  a = tail k

  abbrev b : ℕ
  b = head k

  abbrev y : ℕ
  y = tail c

  abbrev state : ℕ → ℕ
  state = at f.states

  abbrev reached : ℕ → Bool
  reached = has f.reached

  -- some quiet link leaves b besides the cut one
  abbrev QuietLink : Type 0
  QuietLink = (i : ℕ) × (i < links) × (tail i ≡ b) × (i ≢ c) × (state i ≡ 0)

  moves : accepts g k f ≡ true
  moves = (deliver_accepted s k u ok).4

  -- it answers by the state that the link has then
  answer_by : {v : ℕ} → at (step g x k f).states k ≡ v → (after_delivery s k u).answer ≡ acted a b v
  unfolding after_delivery merge.step
  answer_by e =
      rw ok
      (ap (λ (h : Flood). acted a b (at h.states k)) (on-put-own w (step g (failure s w) k f) (floods s))
      ∙ ap (λ (v : Cut). acted a b (at (step g (failure_of g v) k f).states k)) stands
      ∙ ap (acted a b) e)

  module _ (offered : state k ≡ 1) where
    -- b is reached
    pub answer-reached : reached b ≡ true → (after_delivery s k u).answer ≡ TurnedBack b
    answer-reached r = answer_by (state_known g x f k moves offered r)

    module _ (fresh : reached b ≡ false) where
      -- b is y
      pub answer_target : b ≡ y → (after_delivery s k u).answer ≡ Taken b
      answer_target e = answer_by (state_target g x f k moves offered fresh e)

      -- b is not y and has links to offer, or none
      pub answer_offers : b ≢ y → QuietLink → (after_delivery s k u).answer ≡ Taken b
      answer_offers n (i, l, e, d, z) =
          answer_by (state_offers g x f k moves offered fresh n (i, (n, l, e, ne_eqb i c d, z)))

      pub answer_none : b ≢ y → (QuietLink → ⊥) → (after_delivery s k u).answer ≡ TurnedBack b
      answer_none n none =
          answer_by (state_none g x f k moves offered fresh n
          (λ (i, o). none (i, o.1, o.2, eqb-false i c o.3, o.4)))

  pub answer-refused : state k ≡ 3 → (after_delivery s k u).answer ≡ Released a
  answer-refused o = answer_by (state-released g x f k moves o)
