-- A run on both wavelengths that may make enough deliveries is the two floods' own runs to rest: on each wavelength it makes the start of that flood's own
-- order and no more than all of it, so that with enough it makes all of both. Assumes nothing.
use Rattle.std.specs.Prelude.{ℕ, ◌+◌, ◌≤◌, ◌≡◌, true, length}
use Rattle.std.proofs.Math.Path.{sym, ap}
use Rattle.std.proofs.Common.{◌∙◌, arith}
use Rattle.std.proofs.Math.Logic.{⊎_elim}
use mathlib.Core.List.{List, ◌++◌}
use Rattle.std.proofs.Math.Decide.{dec_lt}
use Rattle.flood.specs.Digraph.{Digraph, Failure}
use Rattle.flood.specs.Machine as machine
use Rattle.wavelengths.specs.declared.Floods.{Floods}
use Rattle.wavelengths.specs.declared.Wavelength.TheVariants.{First, Second}
use Rattle.wavelengths.specs.Wavelength.{Wavelength, on, pair}
use Rattle.wavelengths.specs.Merge.{links_on, at_rest, order, run}
use Rattle.wavelengths.proofs.Laws.Project.{links_all, play-on, accepted_both}
use Rattle.wavelengths.proofs.Laws.Next.{rest_says}
use Rattle.flood.specs.Laws.Order.{order-length, order-more, order-rest, order_same}
use Rattle.wavelengths.proofs.Laws.Run.{order-accepted, run_ends, order-on}

module _ (g : Wavelength → Digraph) (c : Wavelength → Failure) (p : Floods) where
  -- the flood's own run on wavelength w with the allowance n
  abbrev own_run : Wavelength → ℕ → machine.Ran
  own_run w n = machine.run (g w) (c w) n (on w p)

  abbrev Rests : Wavelength → ℕ → Type 0
  Rests w n = machine.at_rest (g w) (own_run w n).flood ≡ true

  -- how many deliveries of a run with the allowance a are on wavelength w
  abbrev share : Wavelength → ℕ → ℕ
  share w a = length (links_on w (order g c a p))

  -- they lead to the flood that its own run with so many leads to
  pub run_on : (w : Wavelength) (a : ℕ) → on w (run g c a p).floods ≡ (own_run w (share w a)).flood
  unfolding run machine.run
  run_on w a = play-on g c w (order g c a p) p ∙ ap (λ (js : List ℕ). machine.play (g w) (c w) js (on w p)) (order-on g c w a p)

  -- they are the start of the order of any longer own run
  pub order_starts : (w : Wavelength) (a m k : ℕ) → share w a + m ≡ k
      → machine.order (g w) (c w) k (on w p) ≡ links_on w (order g c a p) ++ machine.order (g w) (c w) m (machine.play (g w) (c w) (links_on w (order g c a p)) (on w p))
  order_starts w a m k e = order-more (g w) (c w) (share w a) m k (on w p) e
      ∙ ap (λ (js : List ℕ). js ++ machine.order (g w) (c w) m (machine.play (g w) (c w) js (on w p))) (sym (order-on g c w a p))

  -- and they are all that a run makes
  pub shares : (a : ℕ) → share First a + share Second a ≡ (run g c a p).made
  unfolding run
  shares a = links_all (order g c a p) ∙ sym (order-accepted g c a p)

  -- so that they are no more than it may make
  pub share_within : (w : Wavelength) (a : ℕ) → share w a ≤ a
  share_within First a = omega (arith, shares a, (run_ends g c a p).0)
  share_within Second a = omega (arith, shares a, (run_ends g c a p).0)

  -- and no more than an own run to rest makes
  share_most : (w : Wavelength) (n a : ℕ) → Rests w n → share w a ≤ n
  share_most w n a r = elim (dec_lt n (share w a)) [
    | yes h ↦
        let all : share w a ≡ length (machine.order (g w) (c w) n (on w p)) =
        ap length (order-on g c w a p ∙ order-rest (g w) (c w) n (share w a) (on w p) r (omega arith)) in
        absurd (omega (arith, order-length (g w) (c w) n (on w p)))
    | no h ↦ omega arith
  ]

  -- at rest they are all of an own run to rest
  pub links_rest : (w : Wavelength) (n a : ℕ) → Rests w n → machine.at_rest (g w) (on w (run g c a p).floods) ≡ true
      → links_on w (order g c a p) ≡ machine.order (g w) (c w) n (on w p)
  links_rest w n a r s =
      order-on g c w a p ∙ order_same (g w) (c w) n (share w a) (on w p) r (rw (← run_on w a) s)

  module _ (m n : ℕ) (r : Rests First m) (s : Rests Second n) (a : ℕ) (h : m + n ≤ a) where
    rests : at_rest g (run g c a p).floods ≡ true
    unfolding at_rest
    rests = ⊎_elim
        (λ e.
        let first : share First a ≡ m = omega (arith, shares a, share_most First m a r, share_most Second n a s) in
        let second : share Second a ≡ n = omega (arith, shares a, share_most First m a r, share_most Second n a s) in
        rw (run_on First a, run_on Second a, first, second, r) s)
        (λ t. t)
        (run_ends g c a p).1

    both : (w : Wavelength) → machine.at_rest (g w) (on w (run g c a p).floods) ≡ true
    both First = ((rest_says g (run g c a p).floods).0 rests).0
    both Second = ((rest_says g (run g c a p).floods).0 rests).1

    same-flood : (w : Wavelength) (k : ℕ) → Rests w k → on w (run g c a p).floods ≡ (own_run w k).flood
    unfolding run machine.run
    same-flood w k e = play-on g c w (order g c a p) p ∙ ap (λ (js : List ℕ). machine.play (g w) (c w) js (on w p)) (links_rest w k a e (both w))

    same-made : (run g c a p).made ≡ (own_run First m).made + (own_run Second n).made
    unfolding run machine.run
    same-made =
        accepted_both g c (order g c a p) p
        ∙ ap (λ (js : List ℕ). machine.accepted (g First) (c First) js p.first + machine.accepted (g Second) (c Second) (links_on Second (order g c a p)) p.second) (links_rest First m a r (both First))
        ∙ ap (λ (js : List ℕ). (own_run First m).made + machine.accepted (g Second) (c Second) js p.second) (links_rest Second n a s (both Second))

    -- with enough it is both own runs
    pub run_rests : run g c a p ≡ record { floods = pair (own_run First m).flood (own_run Second n).flood; made = (own_run First m).made + (own_run Second n).made }
    run_rests = λ j. record { floods = pair (same-flood First m r j) (same-flood Second n s j); made = same-made j }
