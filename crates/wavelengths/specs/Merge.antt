-- A flood on each of the two wavelengths, each over a digraph and after a failure of its own, and deliveries on both in one order. Definitions only.
use Rattle.std.specs.Prelude.{ℕ, zero, suc, ◌+◌, max, Bool, cond, ◌&&◌, ◌||◌, List, [], ◌∷◌, map}
use Rattle.scan.specs.Lowest.{lowest}
use Rattle.scan.specs.Total.{bit}
use Rattle.flood.specs.Digraph.{Digraph, Failure}
use Rattle.flood.specs.Machine as machine
use Rattle.wavelengths.specs.declared.Floods.{Floods}
use Rattle.wavelengths.specs.declared.Wavelength.TheVariants.{First, Second}
use Rattle.wavelengths.specs.Wavelength.{Wavelength, same, on, put, pair}

-- a delivery: its link and its wavelength
pub record Turn : Type 0 where
  pub link : ℕ
  pub wavelength : Wavelength

abbrev pub turn : ℕ → Wavelength → Turn
turn j w = record { link = j; wavelength = w }

-- deliveries on wavelength w alone
abbrev pub turns_on : Wavelength → List ℕ → List Turn
turns_on w js = map (λ (j : ℕ). turn j w) js

-- two floods, and how many deliveries led to them
pub record Ran : Type 0 where
  pub floods : Floods
  pub made : ℕ

-- the links of a list of deliveries that are on wavelength w
unfoldable pub links_on : Wavelength → List Turn → List ℕ
links_on w [] = []
links_on w (t ∷ ts) =
    let js : List ℕ = links_on w ts in
    cond (same w t.wavelength) (t.link ∷ js) js

-- every link quiet and no node reached, on each, with room for l links and n nodes
abbrev pub fresh_on_each : ℕ → ℕ → Floods
fresh_on_each l n = pair (machine.fresh l n) (machine.fresh l n)

module _ (g : Wavelength → Digraph) where
  -- link i is under way on wavelength w
  unfoldable pub busy : Wavelength → Floods → ℕ → Bool
  busy w p i = machine.accepts (g w) i (on w p)

  -- 02's rest: nothing is under way on either
  unfoldable pub at_rest : Floods → Bool
  at_rest p = machine.at_rest (g First) p.first && machine.at_rest (g Second) p.second

  -- a delivery is accepted
  unfoldable pub accepts : Turn → Floods → Bool
  accepts t p = busy t.wavelength p t.link

  -- 02's next delivery of a run that is not at rest: on the lowest link under way on either wavelength, on wavelength 1 before 2
  unfoldable pub next : Floods → Turn
  next p =
      let j : ℕ = lowest (λ i. busy First p i || busy Second p i) (max (g First).links (g Second).links) in
      turn j (cond (busy First p j) First Second)

module _ (g : Wavelength → Digraph) (c : Wavelength → Failure) where
  -- the failure: a flood begins on each
  unfoldable pub begin : Floods → Floods
  begin p = pair (machine.begin (g First) (c First) p.first) (machine.begin (g Second) (c Second) p.second)

  -- a delivery: the flood on its wavelength makes it
  unfoldable pub step : Turn → Floods → Floods
  step t p =
      let w : Wavelength = t.wavelength in
      put w (machine.step (g w) (c w) t.link (on w p)) p

  -- in the order of a list
  unfoldable pub play : List Turn → Floods → Floods
  play [] p = p
  play (t ∷ ts) p = play ts (step t p)

  -- how many of them are accepted
  unfoldable pub accepted : List Turn → Floods → ℕ
  accepted [] p = 0
  accepted (t ∷ ts) p = bit (accepts g t p) + accepted ts (step t p)

  -- at most n deliveries, each the next, until nothing is under way on either wavelength
  unfoldable pub order : ℕ → Floods → List Turn
  order zero p = []
  order (suc n) p =
      let ts : List Turn = order n (step (next g p) p) in
      cond (at_rest g p) [] (next g p ∷ ts)

  -- 02's run with the allowance n
  unfoldable pub run : ℕ → Floods → Ran
  run n p = record { floods = play (order n p) p; made = accepted (order n p) p }
