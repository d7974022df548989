-- How an accepted delivery changes the states and which node it may reach, by its cases: the link delivered on becomes taken, refused or released, so that
-- its weight grows by 1; any other link stays, is offered, or falls back, and keeps its weight. Assumes nothing.
use Rattle.std.specs.Prelude.{ℕ, suc, ◌<◌, ◌≤◌, ◌≡◌, refl, ◌≢◌, ◌⊎◌, Bool, true}
use Rattle.std.proofs.Common.{sym, ap, ◌∙◌, inl, inr, ⊎_elim, arith}
use Rattle.std.proofs.Math.Decide.{ℕ_discrete}
use Rattle.scan.specs.Test.{three}
use Rattle.scan.specs.Entry.{at, Changed, moved}
use Rattle.scan.specs.Total.{total, total_but}
use Rattle.flood.specs.Digraph.{Digraph, Failure, Sound}
use Rattle.flood.specs.Machine.{Flood, weight, accepts, step, Roomy}
use Rattle.flood.specs.Path.{Acted, Touched}
use Rattle.flood.specs.Laws.Delivery.{Delivery, bounce, dead_end, visit, release, fall_back, step_is}

-- a flag that stands after one is set stood before, or is that one
mark_only : {R R' : ℕ → Bool} {b : ℕ} → Changed R b true R' → (v : ℕ) → R' v ≡ true → (R v ≡ true) ⊎ (v ≡ b)
mark_only {R} {b} r v = moved r (λ v w. w ≡ true → (R v ≡ true) ⊎ (v ≡ b)) v (λ p. inr refl) (λ n p. inl p)

module _ (g : Digraph) (c : Failure) where
  open g use {links, head}

  pub link-acted : {S S' : ℕ → ℕ} {R R' : ℕ → Bool} {j : ℕ} → Delivery g c S R j S' R' → Acted (S j) (S' j)
  link-acted (bounce o r d) = inr (inl (o, d.there))
  link-acted (dead_end o n r y none d) = inr (inl (o, d.there))
  link-acted (visit o n r some there spread) = inl (o, there)
  link-acted (release o d firm) = inr (inr (o, d.there))
  link-acted {j} (fall_back {T = T} o d x alone m m< t e d') =
      let apart : j ≢ m = λ h. let q : T j ≡ 2 = ap T h ∙ t in let p = d.there in omega arith in
      inr (inr (o, d'.elsewhere j apart ∙ d.there))

  pub others_touched : {S S' : ℕ → ℕ} {R R' : ℕ → Bool} {j : ℕ} → Delivery g c S R j S' R' → (i : ℕ) → i ≢ j → Touched (S i) (S' i)
  others_touched (bounce o r d) i n = inl (d.elsewhere i n)
  others_touched (dead_end o f r y none d) i n = inl (d.elsewhere i n)
  others_touched (visit o f r some there spread) i n = ⊎_elim (λ z. inr (inl (z.0.4, z.1))) (λ z. inl z.1) (spread i n)
  others_touched (release o d firm) i n = inl (d.elsewhere i n)
  others_touched {S} {j} (fall_back o d x alone m m< t e d') i n =
      moved d' (λ i w. i ≢ j → Touched (S i) w) i (λ n. inr (inr (sym (d.elsewhere m n) ∙ t, refl))) (λ a n. inl (d.elsewhere i n)) n

  -- a node that is reached after the delivery was reached before, or is the head of the link
  pub newly_reached : {S S' : ℕ → ℕ} {R R' : ℕ → Bool} {j : ℕ} → Delivery g c S R j S' R' → (v : ℕ) → R' v ≡ true → (R v ≡ true) ⊎ (v ≡ head j)
  newly_reached (bounce o r d) v p = inl p
  newly_reached (dead_end o f r y none d) v p = mark_only r v p
  newly_reached (visit o f r some there spread) v p = mark_only r v p
  newly_reached (release o d firm) v p = inl p
  newly_reached (fall_back o d x alone m m< t e d') v p = inl p

  module _ {S S' : ℕ → ℕ} {R R' : ℕ → Bool} {j : ℕ} where
    -- a state never falls, stays at most 4, and leaves 0 only for 1
    pub state_rises : Delivery g c S R j S' R' → (i : ℕ) → (S i ≤ S' i) × (S i ≤ 4 → S' i ≤ 4) × (S i ≡ 0 → S' i ≤ 1)
    state_rises D i = elim (ℕ_discrete i j) [
      | yes e ↦ rw e (three (λ z. omega arith) (λ z. omega arith) (λ z. omega arith) (link-acted D))
      | no n ↦ three (λ z. omega arith) (λ z. omega arith) (λ z. omega arith) (others_touched D i n)
    ]

    pub weights_rise : Delivery g c S R j S' R' → j < links → total (λ i. weight (S' i)) links ≡ suc (total (λ i. weight (S i)) links)
    weights_rise D l =
        let one : weight (S' j) ≡ suc (weight (S j)) = three (λ z. omega arith) (λ z. omega arith) (λ z. omega arith) (link-acted D) in
        omega (arith, total_but (λ i. weight (S' i)) (λ i. weight (S i)) links j l (λ i h n. same i n))
      where
        same : (i : ℕ) → i ≢ j → weight (S' i) ≡ weight (S i)
        same i n = three (λ z. omega arith) (λ z. omega arith) (λ z. omega arith) (others_touched D i n)

  -- an accepted delivery on link j of a flood
  module _ (sound : Sound g c) {f : Flood} (room : Roomy g f) (j : ℕ) (t : accepts g j f ≡ true) where
    pub step-acted : Acted (at f.states j) (at (step g c j f).states j)
    step-acted = link-acted (step_is g c sound room j t).1

    pub step_touched : (i : ℕ) → i ≢ j → Touched (at f.states i) (at (step g c j f).states i)
    step_touched = others_touched (step_is g c sound room j t).1
