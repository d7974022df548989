-- The flood's begin and step make what the rules make: stores and sweeps of the lists are changes of the functions that the rules see, and the
-- tests on the way are the same. Assumes nothing.
use Prim.Native.Nat.{ℕ, ◌<◌, ◌≤◌}
use Rattle.std.specs.Prelude.{◌≡◌, refl, true, false, cond, not, ◌&&◌, List, eqb, length, set}
use Rattle.std.proofs.Common.{◌∙◌, arith, eqb-true}
use Rattle.std.proofs.Math.Path.{ap, ap₂, fun_ext}
use Rattle.std.proofs.Math.Bool.{Bool}
use Rattle.std.proofs.Math.ListN.{length-set}
use Rattle.std.proofs.lemmas.Bool.{eqb-false}
use Rattle.scan.specs.Test.{branch}
use Rattle.scan.specs.Entry.{at, has, Changed, set_at, set_has}
use Rattle.scan.specs.Lowest.{lowest, any}
use Rattle.flood.specs.declared.Flood.{Flood}
use Rattle.flood.specs.Digraph.{Digraph, Failure, cut}
use Rattle.flood.specs.Machine.{offer, leaves, opens, holds, feeds, first, some, accepts, begin, arrive, retreat, withdraw, step, Roomy}
use Rattle.flood.specs.Laws.Tests.{at-offer, length-offer, leaves_says, opens_says, first_passes, accepts_says}
use Rattle.history.specs.Rules.{Side, put, cut_rule, quiet_from, held_at, taken_into, offered_rule, refused_rule, deliver_rule}
use Rattle.history.proofs.Laws.RuledTests.{shown, opens_is, some-opens, some_holds, some-feeds, first-feeds}

-- where h leads from each branch to that of another choice by the same test, it leads from choice to choice
cond_map : {A B : Type 0} (h : A → B) (t : Bool) {a a' : A} {b b' : B} → (t ≡ true → h a ≡ b) → (t ≡ false → h a' ≡ b') → h (cond t a a') ≡ cond t b b'
cond_map h true p q = p refl
cond_map h false p q = q refl

-- the same for three tests, one by one there and all at once here
cond-map-and : {A B : Type 0} (h : A → B) (e u t : Bool) {a a' : A} {b b' : B} → (t ≡ true → h a ≡ b) → h a' ≡ b'
    → h (cond e a' (cond u a' (cond t a a'))) ≡ cond (not e && (not u && t)) b b'
cond-map-and h true u t p q = q
cond-map-and h false true t p q = q
cond-map-and h false false t p q = cond_map h t p (λ n. q)

-- ---- changes

-- a function changed at one place
changed-put : {A : Type 0} {f f' : ℕ → A} {j : ℕ} {v : A} → Changed f j v f' → f' ≡ put f j v
changed-put {A} {f} {f'} {j} {v} c =
    fun_ext (λ i. branch (λ (w : A). f' i ≡ w) (eqb i j) (λ t. ap f' (eqb-true i j t) ∙ c.there) (λ t. c.elsewhere i (eqb-false i j t)))

-- a store in a list
set_put : (l : List ℕ) (j v : ℕ) → j < length l → at (set l j v) ≡ put (at l) j v
set_put l j v h = changed-put (set_at l j v h)

-- an offer to the links that pass
offer_is : (p : ℕ → ℕ → Bool) (q : ℕ → Bool) (l : List ℕ) → ((i : ℕ) → p i (at l i) ≡ q i) → ((i v : ℕ) → p i v ≡ true → i < length l)
    → at (offer p l) ≡ (λ i. cond (q i) 1 (at l i))
offer_is p q l same inside = fun_ext (λ i. at-offer p l i (inside i (at l i)) ∙ ap (λ t. cond {A = ℕ} t 1 (at l i)) (same i))

-- ---- deliveries; link k is the cut one

module _ (g : Digraph) (head< : (i : ℕ) → i < g.links → g.head i < g.nodes) (k : ℕ) (f : Flood) (room : Roomy g f) where
  open g use {links, tail, head}

  abbrev c : Failure
  c = cut g k

  abbrev S : ℕ → ℕ
  S = at f.states

  abbrev R : ℕ → Bool
  R = has f.reached

  -- other states and reached nodes
  abbrev with : (ℕ → ℕ) → (ℕ → Bool) → Side
  with S R = record { state = S; reached = R }

  inside : {i : ℕ} → i < links → i < length f.states
  inside l = let q = room.long in omega arith

  store : {j : ℕ} (v : ℕ) → j < links → at (set f.states j v) ≡ put S j v
  store {j} v b = set_put f.states j v (inside b)

  mark : {j : ℕ} → j < links → has (set f.reached (head j) true) ≡ put R (head j) true
  mark {j} b = changed-put (set_has f.reached (head j) true (let h = head< j b in let w = room.wide in omega arith))

  -- the cut
  pub begin-ruled : k < links → shown (begin g c f) ≡ cut_rule g k (shown f)
  unfolding begin leaves cut_rule
  begin-ruled b = λ t. record { state = offered t; reached = mark b t }
    where
      q : ℕ → Bool
      q = leaves g c (head k)

      offered : at (offer (λ i v. q i) f.states) ≡ (λ i. cond (q i) 1 (S i))
      offered = offer_is (λ i v. q i) q f.states (λ i. refl) (λ i v t. inside ((leaves_says g c (head k) i).0 t).0)

  module _ (j : ℕ) (b : j < links) where
    -- the quiet links leaving the head of link j become offered, and it becomes taken
    spread : at (set (offer (opens g c (head j)) f.states) j 2) ≡ put (λ i. cond (quiet_from g k (head j) (shown f) i) 1 (S i)) j 2
    spread = set_put (offer p f.states) j 2 (omega (arith, length-offer p f.states, inside b)) ∙ ap (λ (s : ℕ → ℕ). put s j 2) offered
      where
        p : ℕ → ℕ → Bool
        p = opens g c (head j)

        q : ℕ → Bool
        q = quiet_from g k (head j) (shown f)

        offered : at (offer p f.states) ≡ (λ i. cond (q i) 1 (S i))
        offered = offer_is p q f.states (opens_is g f k (head j)) (λ i v t. inside ((opens_says g c (head j) i v).0 t).0.0)

    -- on an offered link
    arrive-ruled : shown (arrive g c j f) ≡ offered_rule g k j (shown f)
    unfolding arrive offered_rule
    arrive-ruled =
        rw (← some-opens g f k (head j))
        (cond_map shown (R (head j)) (λ r. ap₂ with (store 3 b) refl)
        (λ r. cond_map shown (eqb (head j) (tail k)) (λ y. ap₂ with (store 2 b) (mark b))
        (λ y. cond_map shown (some g (opens g c (head j)) f.states) (λ o. ap₂ with spread (mark b))
        (λ o. ap₂ with (store 3 b) (mark b)))))

    -- on a refused link: what the rules make of the states s after its release
    abbrev released : (ℕ → ℕ) → Side
    released s =
        cond (not (eqb (tail j) (head k)) && (not (any (held_at g (tail j) s) links) && any (taken_into g (tail j) s) links))
        (with (put s (lowest (taken_into g (tail j) s) links) 3) R)
        (with s R)

    retreat-ruled : (l : List ℕ) → links ≤ length l → with (at (retreat g c (tail j) l)) R ≡ released (at l)
    unfolding retreat
    retreat-ruled l long =
        let a : ℕ = tail j in
        let m : ℕ = first g (feeds g a) l in
        rw (← some_holds g a l, ← some-feeds g a l, ← first-feeds g a l)
        (cond-map-and (λ l. with (at l) R) (eqb a (head k)) (some g (holds g a) l) (some g (feeds g a) l)
        (λ t. ap₂ with (set_put l m 3 (omega (arith, (first_passes g (feeds g a) l t).0))) refl)
        refl)

    withdraw-ruled : shown (withdraw g c j f) ≡ refused_rule g k j (shown f)
    unfolding withdraw refused_rule
    withdraw-ruled = retreat-ruled (set f.states j 4) (let q = room.long in omega (arith, length-set f.states j 4)) ∙ ap released (store 4 b)

  -- on a link under way
  pub step-ruled : (j : ℕ) → accepts g j f ≡ true → shown (step g c j f) ≡ deliver_rule g k j (shown f)
  unfolding step
  step-ruled j t =
      let b : j < links = ((accepts_says g j f).0 t).0 in
      rw t (cond_map shown (eqb (S j) 1) (λ o. arrive-ruled j b) (λ o. withdraw-ruled j b))
