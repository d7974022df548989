-- Deliveries in turn, and runs: how a run's loop goes on and ends, and that one that may make enough deliveries comes to rest. While not at rest the lowest
-- link under way is there to deliver on, and only so many deliveries can be made. Assumes nothing.
use Prim.Native.Nat.{ℕ, zero, suc, ◌+◌, ◌*◌, ◌≤◌}
use Rattle.std.specs.Prelude.{◌≡◌, ◌⊎◌, true, false}
use Rattle.std.proofs.Math.Path.{refl, subst}
use Rattle.std.proofs.Common.{sym, ap}
use Rattle.std.proofs.Math.Logic.{inl, inr, ⊎_elim}
use mathlib.Core.List.{List, [], ◌∷◌, ◌++◌}
use native.Mathlib.Omega.{arith}
use Rattle.std.proofs.lemmas.Bool.{not-false}
use Rattle.scan.specs.Test.{known, lt_says}
use Rattle.flood.specs.Digraph.{Digraph, Failure, usable, Sound}
use Rattle.flood.specs.Machine.{Flood, Ran, under_way, first, some, at_rest, accepts, step, play, accepted, order, run}
use Rattle.flood.specs.Laws.Tests.{first_passes}
use Rattle.flood.specs.Laws.Progress.{Progress, play_progress}
use Rattle.flood.specs.Laws.Count.{made_most, made-all-rest}

-- the lowest link under way
abbrev pub next : Digraph → Flood → ℕ
next g f = first g (λ i. under_way) f.states

pub next-accepted : (g : Digraph) (f : Flood) → at_rest g f ≡ false → accepts g (next g f) f ≡ true
unfolding at_rest accepts
next-accepted g f t =
    let (l, u) = first_passes g (λ i. under_way) f.states (not-false (some g (λ i. under_way) f.states) t) in
    rw ((lt_says (next g f) g.links).1 l) u

module _ (g : Digraph) (c : Failure) where
  -- one list of deliveries after another
  pub play-append : (p q : List ℕ) (f : Flood) → play g c (p ++ q) f ≡ play g c q (play g c p f)
  unfolding play
  play-append [] q f = refl
  play-append (j ∷ p) q f = play-append p q (step g c j f)

  -- a run's loop: at rest it stops, else it makes one delivery more
  pub order_stop : (n : ℕ) (f : Flood) → at_rest g f ≡ true → order g c n f ≡ []
  unfolding order
  order_stop zero f r = refl
  order_stop (suc n) f r = rw r

  pub order-step : (n : ℕ) (f : Flood) → at_rest g f ≡ false → order g c (suc n) f ≡ next g f ∷ order g c n (step g c (next g f) f)
  unfolding order
  order-step n f r = rw r

  pub run_stop : (n : ℕ) (f : Flood) → at_rest g f ≡ true → run g c n f ≡ record { flood = f; made = 0 }
  unfolding run play accepted
  run_stop n f r = rw (order_stop n f r)

  pub run_step : (n : ℕ) (f : Flood) → at_rest g f ≡ false
      → let r = run g c n (step g c (next g f) f) in run g c (suc n) f ≡ record { flood = r.flood; made = suc r.made }
  unfolding run play accepted
  run_step n f r =
      let e : Flood = step g c (next g f) f in
      rw (order-step n f r, next-accepted g f r) (ap (λ (m : ℕ). record { flood = (run g c n e).flood; made = m }) (omega arith))

  -- it makes no more deliveries than it may, and fewer only where it comes to rest
  pub run_ends : (n : ℕ) (f : Flood) → let r = run g c n f in (r.made ≤ n) × ((r.made ≡ n) ⊎ (at_rest g r.flood ≡ true))
  unfolding run order play accepted
  run_ends zero f = (omega arith, inl refl)
  run_ends (suc n) f = ⊎_elim
      (λ r. subst Ends (sym (run_stop (suc n) f r)) (omega arith, inr r))
      (λ r. let (h, w) = run_ends n (step g c (next g f) f) in subst Ends (sym (run_step n f r)) (omega arith, ⊎_elim (λ e. inl (ap suc e)) (λ t. inr t) w))
      (known (at_rest g f))
    where
      Ends : Ran → Type 0
      Ends r = (r.made ≤ suc n) × ((r.made ≡ suc n) ⊎ (at_rest g r.flood ≡ true))

  module _ (sound : Sound g c) where
    pub run_progress : (n : ℕ) {m : ℕ} {f : Flood} → Progress g c m f → Progress g c (m + (run g c n f).made) (run g c n f).flood
    unfolding run
    run_progress n {f} p = play_progress g c sound (order g c n f) p

    pub run_rests : (n : ℕ) {m : ℕ} {f : Flood} → Progress g c m f → 2 * usable g c ≤ m + n → at_rest g (run g c n f).flood ≡ true
    run_rests n {f} p h =
        let q = run_progress n p in
        ⊎_elim (λ e. made-all-rest g c q (omega (arith, made_most g c q))) (λ r. r) (run_ends n f).1
