-- A delivery on one wavelength leaves the other flood as it is, so that any mixed list of deliveries is, on each wavelength, that wavelength's own
-- list. Assumes nothing.
use Rattle.std.specs.Prelude.{ℕ, suc, ◌+◌, ◌≤◌, ◌≡◌, Bool, length}
use Rattle.std.proofs.Math.Path.{refl, ap}
use Rattle.std.proofs.Common.{◌∙◌}
use Rattle.std.proofs.Math.Logic.{⊎_elim}
use Rattle.std.proofs.Math.Bool.{true, false, cond}
use mathlib.Core.List.{List, [], ◌∷◌, ◌++◌}
use native.Mathlib.Omega.{arith}
use Rattle.scan.specs.Test.{known}
use Rattle.scan.specs.Total.{bit}
use Rattle.flood.specs.Digraph.{Digraph, Failure}
use Rattle.flood.specs.declared.Flood.{Flood}
use Rattle.flood.specs.Machine as machine
use Rattle.flood.specs.Laws.Order as ordering
use Rattle.wavelengths.specs.declared.Floods.{Floods}
use Rattle.wavelengths.specs.declared.Wavelength.TheVariants.{First, Second}
use Rattle.wavelengths.specs.Wavelength.{Wavelength, same, on, put, pair}
use Rattle.wavelengths.specs.Merge.{Turn, turn, turns_on, links_on, fresh_on_each, busy, accepts, begin, step, play, accepted}
use Rattle.wavelengths.proofs.Laws.Wavelength.{same_is, same_self, on-put, on-put_other}

-- ---- a list of deliveries

-- one more, on wavelength w or on the other
pub links_own : (w : Wavelength) (t : Turn) (ts : List Turn) → same w t.wavelength ≡ true → links_on w (t ∷ ts) ≡ t.link ∷ links_on w ts
unfolding links_on
links_own w t ts e = rw e

pub links_other : (w : Wavelength) (t : Turn) (ts : List Turn) → same w t.wavelength ≡ false → links_on w (t ∷ ts) ≡ links_on w ts
unfolding links_on
links_other w t ts e = rw e

pub links_append : (w : Wavelength) (ts us : List Turn) → links_on w (ts ++ us) ≡ links_on w ts ++ links_on w us
unfolding links_on
links_append w [] us = refl
links_append w (t ∷ ts) us = go (same w t.wavelength) refl (links_append w ts us)
  where
    go : (b : Bool) → same w t.wavelength ≡ b → links_on w (ts ++ us) ≡ links_on w ts ++ links_on w us
        → links_on w ((t ∷ ts) ++ us) ≡ links_on w (t ∷ ts) ++ links_on w us
    go true e h = rw e (ap (λ (js : List ℕ). t.link ∷ js) h)
    go false e h = rw e h

-- every one is on one of them
pub links_all : (ts : List Turn) → length (links_on First ts) + length (links_on Second ts) ≡ length ts
unfolding links_on
links_all [] = refl
links_all (t ∷ ts) = go t.wavelength (links_all ts)
  where
    with-turn : Wavelength → Wavelength → List ℕ
    with-turn w v = cond (same w v) (t.link ∷ links_on w ts) (links_on w ts)

    go : (v : Wavelength) → length (links_on First ts) + length (links_on Second ts) ≡ length ts → length (with-turn First v) + length (with-turn Second v) ≡ length (t ∷ ts)
    go First h = omega arith
    go Second h = omega arith

-- deliveries on one wavelength alone are all of its own list, and none of the other's
pub links_turns : (w : Wavelength) (js : List ℕ) → links_on w (turns_on w js) ≡ js
unfolding links_on
links_turns w [] = refl
links_turns w (j ∷ js) = links_own w (turn j w) (turns_on w js) (same_self w) ∙ ap (◌∷◌ j) (links_turns w js)

pub links_turns_other : (w v : Wavelength) (js : List ℕ) → same w v ≡ false → links_on w (turns_on v js) ≡ []
unfolding links_on
links_turns_other w v [] e = refl
links_turns_other w v (j ∷ js) e = links_other w (turn j v) (turns_on v js) e ∙ links_turns_other w v js e

-- ---- the failure, and a delivery

-- before the failure each flood is fresh
pub fresh_on_lem : (w : Wavelength) (l n : ℕ) → on w (fresh_on_each l n) ≡ machine.fresh l n
fresh_on_lem First l n = refl
fresh_on_lem Second l n = refl

module _ (g : Wavelength → Digraph) (c : Wavelength → Failure) where
  -- on each wavelength the failure is the flood's own
  pub on-begin : (w : Wavelength) (p : Floods) → on w (begin g c p) ≡ machine.begin (g w) (c w) (on w p)
  unfolding begin
  on-begin First p = refl
  on-begin Second p = refl

  -- where each flood begins, both do
  pub begin_known : (p : Floods) {one two : Flood} → one ≡ machine.begin (g First) (c First) p.first → two ≡ machine.begin (g Second) (c Second) p.second
      → pair one two ≡ begin g c p
  unfolding begin
  begin_known p e d = λ j. pair (e j) (d j)

  -- on wavelength w a delivery is the flood's own, and on the other it leaves the flood as it is
  pub step-own : (w : Wavelength) (t : Turn) (p : Floods) → same w t.wavelength ≡ true → on w (step g c t p) ≡ machine.step (g w) (c w) t.link (on w p)
  unfolding step
  step-own w t p e = let v = same_is w t.wavelength e in rw (on-put w t.wavelength (machine.step (g t.wavelength) (c t.wavelength) t.link (on t.wavelength p)) p, e, v)

  pub step_other : (w : Wavelength) (t : Turn) (p : Floods) → same w t.wavelength ≡ false → on w (step g c t p) ≡ on w p
  unfolding step
  step_other w t p e = on-put_other w t.wavelength _ p e

  -- ---- deliveries in turn

  -- one list after another
  pub play-append : (ts us : List Turn) (p : Floods) → play g c (ts ++ us) p ≡ play g c us (play g c ts p)
  unfolding play
  play-append [] us p = refl
  play-append (t ∷ ts) us p = play-append ts us (step g c t p)

  pub accepted-append : (ts us : List Turn) (p : Floods) → accepted g c (ts ++ us) p ≡ accepted g c ts p + accepted g c us (play g c ts p)
  unfolding accepted play
  accepted-append [] us p = omega arith
  accepted-append (t ∷ ts) us p = omega (arith, accepted-append ts us (step g c t p))

  -- on each wavelength it is that wavelength's own list
  pub play-on : (w : Wavelength) (ts : List Turn) (p : Floods) → on w (play g c ts p) ≡ machine.play (g w) (c w) (links_on w ts) (on w p)
  unfolding play machine.play links_on
  play-on w [] p = refl
  play-on w (t ∷ ts) p = go (same w t.wavelength) refl (play-on w ts (step g c t p))
    where
      go : (b : Bool) → same w t.wavelength ≡ b → on w (play g c ts (step g c t p)) ≡ machine.play (g w) (c w) (links_on w ts) (on w (step g c t p))
          → on w (play g c ts (step g c t p)) ≡ machine.play (g w) (c w) (links_on w (t ∷ ts)) (on w p)
      go true e h = rw e (h ∙ ap (machine.play (g w) (c w) (links_on w ts)) (step-own w t p e))
      go false e h = rw e (h ∙ ap (machine.play (g w) (c w) (links_on w ts)) (step_other w t p e))

  -- deliveries on wavelength w alone are made, and accepted, as those of its flood
  pub play-turns : (w : Wavelength) (js : List ℕ) (p : Floods) → play g c (turns_on w js) p ≡ put w (machine.play (g w) (c w) js (on w p)) p
  unfolding play step machine.play
  play-turns First [] p = refl
  play-turns First (j ∷ js) p = play-turns First js (step g c (turn j First) p)
  play-turns Second [] p = refl
  play-turns Second (j ∷ js) p = play-turns Second js (step g c (turn j Second) p)

  pub accepted-turns : (w : Wavelength) (js : List ℕ) (p : Floods) → accepted g c (turns_on w js) p ≡ machine.accepted (g w) (c w) js (on w p)
  unfolding accepted accepts busy machine.accepted
  accepted-turns w [] p = refl
  accepted-turns w (j ∷ js) p =
      ap (λ (n : ℕ). bit (machine.accepts (g w) j (on w p)) + n)
      (accepted-turns w js (step g c (turn j w) p) ∙ ap (machine.accepted (g w) (c w) js) (step-own w (turn j w) p (same_self w)))

  -- how many of wavelength w's own list are accepted
  abbrev pub accepted_on : Wavelength → List Turn → Floods → ℕ
  accepted_on w ts p = machine.accepted (g w) (c w) (links_on w ts) (on w p)

  accepted-turn : (w : Wavelength) (t : Turn) (ts : List Turn) (p : Floods)
      → accepted_on w (t ∷ ts) p ≡ cond {A = ℕ} (same w t.wavelength) (bit (accepts g t p)) 0 + accepted_on w ts (step g c t p)
  unfolding machine.accepted links_on accepts busy
  accepted-turn w t ts p = go (same w t.wavelength) refl
    where
      go : (b : Bool) → same w t.wavelength ≡ b
          → accepted_on w (t ∷ ts) p ≡ cond {A = ℕ} (same w t.wavelength) (bit (accepts g t p)) 0 + accepted_on w ts (step g c t p)
      go true e =
          let own : Flood = machine.step (g w) (c w) t.link (on w p) in
          rw (e, step-own w t p e)
          (ap (λ (v : Wavelength). bit (machine.accepts (g v) t.link (on v p)) + machine.accepted (g w) (c w) (links_on w ts) own) (same_is w t.wavelength e))
      go false e = rw (e, step_other w t p e) (omega arith)

  -- the accepted ones are those of the two lists
  pub accepted_both : (ts : List Turn) (p : Floods) → accepted g c ts p ≡ accepted_on First ts p + accepted_on Second ts p
  unfolding accepted machine.accepted links_on
  accepted_both [] p = refl
  accepted_both (t ∷ ts) p =
      let h = accepted_both ts (step g c t p) in
      let a = accepted-turn First t ts p in
      let b = accepted-turn Second t ts p in
      omega (arith, share (bit (accepts g t p)) t.wavelength)
    where
      share : (n : ℕ) (w : Wavelength) → cond {A = ℕ} (same First w) n 0 + cond {A = ℕ} (same Second w) n 0 ≡ n
      share n First = omega arith
      share n Second = omega arith

  -- of any no more are accepted than there are
  pub own_most : (w : Wavelength) (ts : List Turn) (p : Floods) → accepted_on w ts p ≤ length (links_on w ts)
  own_most w ts p = ordering.accepted_most (g w) (c w) (links_on w ts) (on w p)

  accepted_most : (ts : List Turn) (p : Floods) → accepted g c ts p ≤ length ts
  accepted_most ts p = omega (arith, accepted_both ts p, own_most First ts p, own_most Second ts p, links_all ts)

  -- where all are accepted, the first is, and then the others are
  pub accepted-first : (t : Turn) (ts : List Turn) (p : Floods) → accepted g c (t ∷ ts) p ≡ suc (length ts)
      → (accepts g t p ≡ true) × (accepted g c ts (step g c t p) ≡ length ts)
  unfolding accepted
  accepted-first t ts p e = ⊎_elim
      (λ a. (a, omega (arith, ap bit a)))
      (λ a. absurd (omega (arith, ap bit a, accepted_most ts (step g c t p))))
      (known (accepts g t p))
