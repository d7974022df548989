-- What deliveries on two wavelengths guarantee, over any two digraphs and failures, from any floods. Statements only: each cites its proof. Assumes nothing.
use Rattle.std.specs.Prelude.{ℕ, ◌+◌, ◌≤◌, ◌≡◌, ◌⊎◌, true, false, List, ◌++◌, length}
use Rattle.flood.specs.Digraph.{Digraph, Failure}
use Rattle.flood.specs.Machine as machine
use Rattle.flood.specs.Path.{Strong}
use Rattle.wavelengths.specs.declared.Floods.{Floods}
use Rattle.wavelengths.specs.declared.Wavelength.TheVariants.{First, Second}
use Rattle.wavelengths.specs.Wavelength.{Wavelength, same, is_wavelength, wavelength_of, number_of, arcs_on, on, pair}
use Rattle.wavelengths.specs.Merge.{Turn, links_on, at_rest, begin, step, play, accepted, order, run}
use Rattle.wavelengths.proofs.Laws.Wavelength as wavelength
use Rattle.wavelengths.proofs.Laws.Project as project
use Rattle.wavelengths.proofs.Laws.Run as running
use Rattle.wavelengths.proofs.Laws.Rest as rest

-- ---- each wavelength

-- its number names it
pub wavelength_named : (w : Wavelength) → (is_wavelength (number_of w) ≡ true) × (wavelength_of (number_of w) ≡ w)
wavelength_named = wavelength.wavelength_named

-- its arcs are as strong as those of wavelength 1
pub arcs_strong : (w : Wavelength) {g : Digraph} → Strong g → Strong (arcs_on w g)
arcs_strong = wavelength.arcs_strong

module _ (g : Wavelength → Digraph) (c : Wavelength → Failure) (p : Floods) where
  -- the failure is, on each wavelength, that of the flood there
  pub begun : (w : Wavelength) → on w (begin g c p) ≡ machine.begin (g w) (c w) (on w p)
  begun w = project.on-begin g c w p

  -- ---- any deliveries, in any mix

  -- one on a wavelength leaves the flood on the other as it is
  pub other_stays : (w : Wavelength) (t : Turn) → same w t.wavelength ≡ false → on w (step g c t p) ≡ on w p
  other_stays w t = project.step_other g c w t p

  -- a list of them is, on each wavelength, that wavelength's own list
  pub played : (w : Wavelength) (ts : List Turn) → on w (play g c ts p) ≡ machine.play (g w) (c w) (links_on w ts) (on w p)
  played w ts = project.play-on g c w ts p

  -- and as many are accepted as of the two lists
  pub accepted-sum : (ts : List Turn) → accepted g c ts p
      ≡ machine.accepted (g First) (c First) (links_on First ts) p.first + machine.accepted (g Second) (c Second) (links_on Second ts) p.second
  accepted-sum ts = project.accepted_both g c ts p

  -- ---- a run with the allowance a

  module _ (a : ℕ) where
    -- it makes no more deliveries than it may, and fewer only where nothing is under way on either wavelength
    pub run_ends : let r = run g c a p in (r.made ≤ a) × ((r.made ≡ a) ⊎ (at_rest g r.floods ≡ true))
    run_ends = running.run_ends g c a p

    -- every one is accepted, also among those on its wavelength alone
    pub run-all-accepted : accepted g c (order g c a p) p ≡ length (order g c a p)
    run-all-accepted = running.order-accepted g c a p

    pub run-all-accepted-on : (w : Wavelength) → let js = links_on w (order g c a p) in machine.accepted (g w) (c w) js (on w p) ≡ length js
    run-all-accepted-on w = running.order-accepted-on g c w a p

    -- its deliveries on a wavelength are, in order, those of the flood's own run with as many, and lead to the same flood
    pub run-order : (w : Wavelength) → let js = links_on w (order g c a p) in js ≡ machine.order (g w) (c w) (length js) (on w p)
    run-order w = running.order-on g c w a p

    pub run-flood : (w : Wavelength) → on w (run g c a p).floods ≡ (machine.run (g w) (c w) (length (links_on w (order g c a p))) (on w p)).flood
    run-flood w = rest.run_on g c p w a

    -- and are the start of the order of any longer own run
    pub run_starts : (w : Wavelength) (m k : ℕ) → let js = links_on w (order g c a p) in length js + m ≡ k
        → machine.order (g w) (c w) k (on w p) ≡ js ++ machine.order (g w) (c w) m (machine.play (g w) (c w) js (on w p))
    run_starts w m k = rest.order_starts g c p w a m k

    -- it makes those on the two wavelengths together
    pub run-made : length (links_on First (order g c a p)) + length (links_on Second (order g c a p)) ≡ (run g c a p).made
    run-made = rest.shares g c p a

  -- where the two own runs come to rest with the allowances m and n, a run with m + n or more is both
  pub run_rests : (m n a : ℕ)
      → let first = machine.run (g First) (c First) m p.first in
      let second = machine.run (g Second) (c Second) n p.second in
      machine.at_rest (g First) first.flood ≡ true → machine.at_rest (g Second) second.flood ≡ true → m + n ≤ a
      → run g c a p ≡ record { floods = pair first.flood second.flood; made = first.made + second.made }
  run_rests m n a r s h = rest.run_rests g c p m n r s a h
