-- A run on both wavelengths: how it goes on and ends, and that on each wavelength it is the start of that flood's own run. Assumes nothing.
use Prim.Native.Nat.{ℕ, zero, suc, ◌≤◌}
use Rattle.std.specs.Prelude.{◌≡◌, ◌⊎◌, Bool, true, false, length}
use Rattle.std.proofs.Math.Path.{refl, subst}
use Rattle.std.proofs.Common.{sym, ap}
use Rattle.std.proofs.Math.Logic.{inl, inr, ⊎_elim}
use mathlib.Core.List.{List, [], ◌∷◌}
use native.Mathlib.Omega.{arith}
use Rattle.scan.specs.Test.{known}
use Rattle.flood.specs.Digraph.{Digraph, Failure}
use Rattle.flood.specs.Machine as machine
use Rattle.wavelengths.specs.declared.Floods.{Floods}
use Rattle.wavelengths.specs.Wavelength.{Wavelength, same, on}
use Rattle.wavelengths.specs.Merge.{Turn, Ran, links_on, at_rest, next, step, play, accepted, order, run}
use Rattle.wavelengths.proofs.Laws.Project.{links_own, links_other, step-own, step_other}
use Rattle.wavelengths.proofs.Laws.Next.{next-accepted, next-own}
use Rattle.flood.specs.Laws.Run as own
use Rattle.flood.specs.Laws.Order as own-order

module _ (g : Wavelength → Digraph) (c : Wavelength → Failure) where
  -- ---- its loop: at rest it stops, else it makes one delivery more

  order_stop : (n : ℕ) (p : Floods) → at_rest g p ≡ true → order g c n p ≡ []
  unfolding order
  order_stop zero p r = refl
  order_stop (suc n) p r = rw r

  order-step : (n : ℕ) (p : Floods) → at_rest g p ≡ false → order g c (suc n) p ≡ next g p ∷ order g c n (step g c (next g p) p)
  unfolding order
  order-step n p r = rw r

  pub run_stop : (n : ℕ) (p : Floods) → at_rest g p ≡ true → run g c n p ≡ record { floods = p; made = 0 }
  unfolding run play accepted
  run_stop n p r = rw (order_stop n p r)

  pub run_step : (n : ℕ) (p : Floods) → at_rest g p ≡ false
      → let r = run g c n (step g c (next g p) p) in run g c (suc n) p ≡ record { floods = r.floods; made = suc r.made }
  unfolding run play accepted
  run_step n p r =
      let q : Floods = step g c (next g p) p in
      rw (order-step n p r, next-accepted g p r) (ap (λ (m : ℕ). record { floods = (run g c n q).floods; made = m }) (omega arith))

  -- every delivery is accepted
  pub order-accepted : (n : ℕ) (p : Floods) → accepted g c (order g c n p) p ≡ length (order g c n p)
  unfolding order accepted
  order-accepted zero p = refl
  order-accepted (suc n) p = ⊎_elim
      (λ r. rw (order_stop (suc n) p r))
      (λ r. rw (order-step n p r, next-accepted g p r) (omega (arith, order-accepted n (step g c (next g p) p))))
      (known (at_rest g p))

  -- it makes no more deliveries than it may, and fewer only where both come to rest
  pub run_ends : (n : ℕ) (p : Floods) → let r = run g c n p in (r.made ≤ n) × ((r.made ≡ n) ⊎ (at_rest g r.floods ≡ true))
  unfolding run order play accepted
  run_ends zero p = (omega arith, inl refl)
  run_ends (suc n) p = ⊎_elim
      (λ r. subst Ends (sym (run_stop (suc n) p r)) (omega arith, inr r))
      (λ r. let (h, w) = run_ends n (step g c (next g p) p) in subst Ends (sym (run_step n p r)) (omega arith, ⊎_elim (λ e. inl (ap suc e)) (λ t. inr t) w))
      (known (at_rest g p))
    where
      Ends : Ran → Type 0
      Ends r = (r.made ≤ suc n) × ((r.made ≡ suc n) ⊎ (at_rest g r.floods ≡ true))

  -- ---- on wavelength w

  -- the order of a flood's own run with as many deliveries as there are in js
  abbrev Start : Wavelength → List ℕ → Floods → Type 0
  Start w js p = js ≡ machine.order (g w) (c w) (length js) (on w p)

  -- its deliveries are those of the flood's own run, as many as they are
  pub order-on : (w : Wavelength) (n : ℕ) (p : Floods) → Start w (links_on w (order g c n p)) p
  unfolding order machine.order links_on
  order-on w zero p = refl
  order-on w (suc n) p = ⊎_elim
      (λ r. rw (order_stop (suc n) p r))
      (λ r. rw (order-step n p r) (go r (same w (next g p).wavelength) refl (order-on w n (step g c (next g p) p))))
      (known (at_rest g p))
    where
      later : List Turn
      later = order g c n (step g c (next g p) p)

      go : at_rest g p ≡ false → (b : Bool) → same w (next g p).wavelength ≡ b → Start w (links_on w later) (step g c (next g p) p) → Start w (links_on w (next g p ∷ later)) p
      go r true e h =
          let (moves, first) = next-own g p r w e in
          rw (links_own w (next g p) later e, own.order-step (g w) (c w) (length (links_on w later)) (on w p) moves, first)
          (ap (λ (js : List ℕ). (next g p).link ∷ js) (rw (← step-own g c w (next g p) p e) h))
      go r false e h = rw (links_other w (next g p) later e, ← step_other g c w (next g p) p e) h

  -- and every one is accepted there
  pub order-accepted-on : (w : Wavelength) (n : ℕ) (p : Floods) → let js = links_on w (order g c n p) in machine.accepted (g w) (c w) js (on w p) ≡ length js
  order-accepted-on w n p =
      let js = links_on w (order g c n p) in
      subst (λ (ks : List ℕ). machine.accepted (g w) (c w) ks (on w p) ≡ length ks) (sym (order-on w n p)) (own-order.order-accepted (g w) (c w) (length js) (on w p))
