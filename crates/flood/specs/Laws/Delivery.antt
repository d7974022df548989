-- An accepted delivery is one of five cases, and any other changes nothing. The cases say what the ways through a delivery make of the states and the
-- reached nodes, read as functions of the index. Assumes nothing.
use Rattle.std.specs.Prelude.{ℕ, ◌<◌, ◌≡◌, ◌≢◌, ◌⊎◌, Bool, true, false, cond, List, set}
use Rattle.std.proofs.Common.{◌∙◌, inl, ⊎_elim, arith, length-set}
use Rattle.std.proofs.Math.Logic.{inr}
use Rattle.scan.specs.Test.{clash, known, fails}
use Rattle.scan.specs.Entry.{at, has, Changed, set_at, set_has}
use Rattle.flood.specs.Digraph.{Digraph, Failure, Sound}
use Rattle.flood.specs.Machine.{Flood, offer, opens, accepts, arrive, withdraw, step, Roomy}
use Rattle.flood.specs.Laws.Tests.{OutOf, Opens, length-offer, at-offer, opens_says}
use Rattle.flood.specs.Laws.Ways.{Firm, step_ways, arrive_ways, withdraw_ways}

module _ (g : Digraph) (c : Failure) where
  open g use {links, tail, head}
  open c use {source, target}

  -- ---- the cases

  -- from S to S' the links that open at b are offered, and no other link but j changes
  abbrev pub Spread : (ℕ → ℕ) → ℕ → ℕ → (ℕ → ℕ) → Type 0
  Spread S b j S' = (i : ℕ) → i ≢ j → (Opens g c S b i × (S' i ≡ 1)) ⊎ ((Opens g c S b i → ⊥) × (S' i ≡ S i))

  -- a delivery on link j leads from the states S and the reached nodes R to S' and R':
  -- bounce, it is offered to a reached node; deadEnd, to a new node with nothing to offer; visit, to the target or to a new node that offers;
  -- release, it is refused, and its start gives nothing back; fallBack, it is refused, and so is then the link m that is taken into its start
  pub data Delivery (S : ℕ → ℕ) (R : ℕ → Bool) (j : ℕ) : (ℕ → ℕ) → (ℕ → Bool) → Type 0 where
    bounce : {S' : ℕ → ℕ} → S j ≡ 1 → R (head j) ≡ true → Changed S j 3 S' → Delivery S R j S' R
    dead_end : {S' : ℕ → ℕ} {R' : ℕ → Bool} → S j ≡ 1 → R (head j) ≡ false → Changed R (head j) true R'
        → head j ≢ target → ((i : ℕ) → Opens g c S (head j) i → ⊥) → Changed S j 3 S' → Delivery S R j S' R'
    visit : {S' : ℕ → ℕ} {R' : ℕ → Bool} → S j ≡ 1 → R (head j) ≡ false → Changed R (head j) true R'
        → (head j ≢ target → (i : ℕ) × Opens g c S (head j) i) → S' j ≡ 2 → Spread S (head j) j S' → Delivery S R j S' R'
    release : {S' : ℕ → ℕ} → S j ≡ 3 → Changed S j 4 S' → Firm g c S' (tail j) → Delivery S R j S' R
    fall_back : {T S' : ℕ → ℕ} → S j ≡ 3 → Changed S j 4 T → tail j ≢ source → (OutOf g T (tail j) → ⊥)
        → (m : ℕ) → m < links → T m ≡ 2 → head m ≡ tail j → Changed T m 3 S' → Delivery S R j S' R

  -- a delivery leads from the flood f to h
  abbrev pub Delivers : Flood → ℕ → Flood → Type 0
  Delivers f j h = Delivery (at f.states) (has f.reached) j (at h.states) (has h.reached)

  -- ---- a delivery is one of the cases

  module _ (sound : Sound g c) {f : Flood} (room : Roomy g f) {j : ℕ} (j< : j < links) where
    abbrev S : ℕ → ℕ
    S = at f.states

    abbrev b : ℕ
    b = head j

    put : (v : ℕ) → Changed S j v (at (set f.states j v))
    put v = set_at f.states j v (let q = room.long in omega arith)

    mark : Changed (has f.reached) b true (has (set f.reached b true))
    mark = set_has f.reached b true (let h = sound.head< j j< in let w = room.wide in omega arith)

    -- the links that open at b are offered, and link j is taken
    fan : List ℕ
    fan = offer (opens g c b) f.states

    fan_at : (i : ℕ) → at fan i ≡ cond (opens g c b i (S i)) 1 (S i)
    unfolding fan
    fan_at i = at-offer (opens g c b) f.states i (λ t. let l = ((opens_says g c b i (S i)).0 t).0.0 in let q = room.long in omega arith)

    fan_put : Changed (at fan) j 2 (at (set fan j 2))
    unfolding fan
    fan_put = set_at fan j 2 (let q = room.long in omega (arith, length-offer (opens g c b) f.states))

    spread : b ≢ target → Spread S b j (at (set fan j 2))
    spread n i d =
        let e : at (set fan j 2) i ≡ cond (opens g c b i (S i)) 1 (S i) = fan_put.elsewhere i d ∙ fan_at i in
        ⊎_elim
        (λ t. let (w, z) = (opens_says g c b i (S i)).0 t in inl ((n, w.0, w.1.0, w.1.1, z), e ∙ rw t))
        (λ t. inr (λ w. fails (opens_says g c b i (S i)) t ((w.1, (w.2, w.3)), w.4), e ∙ rw t))
        (known (opens g c b i (S i)))

    arrive_is : S j ≡ 1 → Delivers f j (arrive g c j f)
    unfolding fan
    arrive_is o =
        arrive_ways g c (Delivers f j) f j
        (λ r. bounce o r (put 3))
        (λ n y. visit o n mark (λ m. absurd (m y)) (put 2).there (λ i d. inr (λ w. w.0 y, (put 2).elsewhere i d)))
        (λ n y some. visit o n mark (λ m. some) fan_put.there (spread y))
        (λ n y none. dead_end o n mark y none (put 3))

    withdraw_is : S j ≡ 3 → Delivers f j (withdraw g c j f)
    withdraw_is o =
        withdraw_ways g c (Delivers f j) f j
        (λ firm. release o (put 4) firm)
        (λ x alone m m< t e. fall_back o (put 4) x alone m m< t e (set_at (set f.states j 4) m 3 (omega (arith, length-set f.states j 4, room.long))))

  pub step_is : Sound g c → {f : Flood} → Roomy g f → (j : ℕ) → accepts g j f ≡ true → (j < links) × Delivers f j (step g c j f)
  step_is sound {f} room j t =
      step_ways g c (λ h. (j < links) × Delivers f j h) f j (λ n. clash t n) (λ l o. (l, arrive_is sound room l o)) (λ l o. (l, withdraw_is sound room l o))

  -- a delivery that is not accepted changes nothing
  pub step_idle : {f : Flood} (j : ℕ) → accepts g j f ≡ false → step g c j f ≡ f
  unfolding step
  step_idle j t = rw t
