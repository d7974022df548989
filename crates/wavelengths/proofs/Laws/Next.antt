-- The next delivery of a run on both wavelengths is, on its wavelength, the next of that flood's own run: the lowest link of all that is under way is the
-- lowest of its own. Assumes nothing.
use Rattle.std.specs.Prelude.{ℕ, ◌<◌, max, ◌≡◌, ◌⊎◌, Bool, false, cond, ◌&&◌, ◌||◌, not}
use Rattle.std.proofs.Common.{sym, ap, ◌∙◌, inl, inr, lt-ltb}
use Rattle.std.proofs.Math.Path.{subst}
use Rattle.std.proofs.Math.Logic.{⊎_elim}
use Rattle.std.proofs.Math.Logic.Iff
use Rattle.std.proofs.Math.Bool.{true}
use native.Mathlib.Omega.{arith}
use Rattle.scan.specs.Test.{Says, known, clash, and_says, or_says, or_false, lt_says}
use Rattle.scan.specs.Lowest.{any, lowest, lowest_is, any_found, lowest_found, None}
use Rattle.scan.specs.Entry.{at}
use Rattle.flood.specs.Digraph.{Digraph}
use Rattle.flood.specs.declared.Flood.{Flood}
use Rattle.flood.specs.Machine as machine
use Rattle.flood.specs.Machine.{under_way}
use Rattle.flood.specs.Laws.Tests.{accepts_says}
use Rattle.flood.specs.Laws.Run as own
use Rattle.wavelengths.specs.declared.Floods.{Floods}
use Rattle.wavelengths.specs.declared.Wavelength.TheVariants.{First, Second}
use Rattle.wavelengths.specs.Wavelength.{Wavelength, same, on}
use Rattle.wavelengths.specs.Merge.{turn, busy, accepts, at_rest, next}
use Rattle.wavelengths.proofs.Laws.Wavelength.{same_is}

-- an accepted link below which none is accepted is the flood's own next
own-next : (g : Digraph) (f : Flood) (j : ℕ) → machine.accepts g j f ≡ true → None (λ i. machine.accepts g i f) j → (machine.at_rest g f ≡ false) × (own.next g f ≡ j)
unfolding machine.at_rest machine.some machine.first machine.accepts
own-next g f j t h =
    let (l, _) = (accepts_says g j f).0 t in
    let passes : under_way (at f.states j) ≡ true = sym (ap (λ (b : Bool). b && under_way (at f.states j)) (lt-ltb j g.links l)) ∙ t in
    let none : None (λ i. under_way (at f.states i)) j = λ i b. sym (ap (λ (b : Bool). b && under_way (at f.states i)) (lt-ltb i g.links (omega arith))) ∙ h i b in
    (ap not (any_found (λ i. under_way (at f.states i)) g.links j l passes), lowest_found (λ i. under_way (at f.states i)) g.links j l none passes)

module _ (g : Wavelength → Digraph) (p : Floods) where
  -- both rest
  pub rest_says : Says (at_rest g p) ((machine.at_rest (g First) p.first ≡ true) × (machine.at_rest (g Second) p.second ≡ true))
  unfolding at_rest
  rest_says = and_says {s = machine.at_rest (g First) p.first} {t = machine.at_rest (g Second) p.second} Iff.rfl Iff.rfl

  -- link i is under way on either wavelength
  abbrev pub either : ℕ → Bool
  either i = busy g First p i || busy g Second p i

  abbrev bound : ℕ
  bound = max (g First).links (g Second).links

  busy_below : (w : Wavelength) (i : ℕ) → busy g w p i ≡ true → i < bound
  unfolding busy
  busy_below First i t = let (l, _) = (accepts_says (g First) i (on First p)).0 t in omega arith
  busy_below Second i t = let (l, _) = (accepts_says (g Second) i (on Second p)).0 t in omega arith

  either_says : (i : ℕ) → Says (either i) ((busy g First p i ≡ true) ⊎ (busy g Second p i ≡ true))
  either_says i = or_says {s = busy g First p i} {t = busy g Second p i} Iff.rfl Iff.rfl

  on-either : (w : Wavelength) (i : ℕ) → busy g w p i ≡ true → either i ≡ true
  on-either First i t = (either_says i).1 (inl t)
  on-either Second i t = (either_says i).1 (inr t)

  on_neither : (w : Wavelength) (i : ℕ) → either i ≡ false → busy g w p i ≡ false
  on_neither First i f = (or_false (busy g First p i) (busy g Second p i) f).0
  on_neither Second i f = (or_false (busy g First p i) (busy g Second p i) f).1

  -- what is lowest of all is the next
  pub next-first : (j : ℕ) → busy g First p j ≡ true → None either j → next g p ≡ turn j First
  unfolding next
  next-first j t h = rw (lowest_found either bound j (busy_below First j t) h (on-either First j t)) (ap (λ (b : Bool). turn j (cond b First Second)) t)

  pub next_second : (j : ℕ) → busy g First p j ≡ false → busy g Second p j ≡ true → None either j → next g p ≡ turn j Second
  unfolding next
  next_second j f t h = rw (lowest_found either bound j (busy_below Second j t) h (on-either Second j t)) (ap (λ (b : Bool). turn j (cond b First Second)) f)

  -- where something is under way, so is the next, and nothing below it
  busy_somewhere : at_rest g p ≡ false → (w : Wavelength) × (i : ℕ) × (busy g w p i ≡ true)
  unfolding at_rest busy
  busy_somewhere r = go (known (machine.at_rest (g First) p.first))
    where
      go : (machine.at_rest (g First) p.first ≡ true) ⊎ (machine.at_rest (g First) p.first ≡ false) → (w : Wavelength) × (i : ℕ) × (busy g w p i ≡ true)
      go (inl e) = (Second, own.next (g Second) p.second, own.next-accepted (g Second) p.second (sym (ap (λ (b : Bool). b && machine.at_rest (g Second) p.second) e) ∙ r))
      go (inr e) = (First, own.next (g First) p.first, own.next-accepted (g First) p.first e)

  module _ (r : at_rest g p ≡ false) where
    lowest-busy : (lowest either bound < bound) × (either (lowest either bound) ≡ true)
    unfolding any
    lowest-busy =
        let (w, i, t) = busy_somewhere r in
        let l = (lt_says (lowest either bound) bound).0 (any_found either bound i (busy_below w i t) (on-either w i t)) in
        (l, (lowest_is either bound).passes l)

    none_below : None either (next g p).link
    unfolding next
    none_below i h = (lowest_is either bound).before i h

    pub next-accepted : accepts g (next g p) p ≡ true
    unfolding next accepts
    next-accepted = ⊎_elim
        (λ t. rw t t)
        (λ f. rw f (⊎_elim (λ t. clash t f) (λ t. t) ((either_says (lowest either bound)).0 lowest-busy.1)))
        (known (busy g First p (lowest either bound)))

    -- on its wavelength it is the flood's own next
    pub next-own : (w : Wavelength) → same w (next g p).wavelength ≡ true → (machine.at_rest (g w) (on w p) ≡ false) × (own.next (g w) (on w p) ≡ (next g p).link)
    unfolding accepts busy
    next-own w e =
        let busy-there : busy g w p (next g p).link ≡ true = subst (λ (v : Wavelength). busy g v p (next g p).link ≡ true) (sym (same_is w (next g p).wavelength e)) next-accepted in
        own-next (g w) (on w p) (next g p).link busy-there (λ i h. on_neither w i (none_below i h))
