-- The two wavelengths: which is which, what each has, and the floods with another one on one of them. By cases on the wavelength. Assumes nothing.
use Rattle.std.specs.Prelude.{◌≡◌, refl, true, false, cond}
use Rattle.scan.specs.Test.{clash}
use Rattle.flood.specs.Digraph.{Digraph}
use Rattle.flood.specs.declared.Flood.{Flood}
use Rattle.flood.specs.Path.{Strong}
use Rattle.flood.specs.Laws.Cut.{reverse_strong}
use Rattle.wavelengths.specs.declared.Floods.{Floods}
use Rattle.wavelengths.specs.declared.Wavelength.TheVariants.{First, Second}
use Rattle.wavelengths.specs.Wavelength.{Wavelength, each, same, is_wavelength, wavelength_of, number_of, arcs_on, on, put}

pub same_is : (w v : Wavelength) → same w v ≡ true → w ≡ v
same_is First First e = refl
same_is First Second e = clash e refl
same_is Second First e = clash e refl
same_is Second Second e = refl

pub same_self : (w : Wavelength) → same w w ≡ true
same_self First = refl
same_self Second = refl

-- what is given on each wavelength, where each is known
pub each_known : {A : Type 0} (f : Wavelength → A) {a b : A} → a ≡ f First → b ≡ f Second → each a b ≡ f
each_known {A} f {a} {b} p q = λ i w. on-each w i
  where
    on-each : (w : Wavelength) → each a b w ≡ f w
    on-each First = p
    on-each Second = q

-- what is found of the flood on each wavelength, on one of them
pub each_on : {A : Type 0} (found : Flood → A) (w : Wavelength) (p : Floods) → each (found p.first) (found p.second) w ≡ found (on w p)
each_on found First p = refl
each_on found Second p = refl

-- the number of a wavelength names it
pub wavelength_named : (w : Wavelength) → (is_wavelength (number_of w) ≡ true) × (wavelength_of (number_of w) ≡ w)
wavelength_named First = (refl, refl)
wavelength_named Second = (refl, refl)

-- the arcs are as strong on each, those on wavelength 2 being those on 1 turned round
pub arcs_strong : (w : Wavelength) {g : Digraph} → Strong g → Strong (arcs_on w g)
arcs_strong First s = s
arcs_strong Second s = reverse_strong s

-- ---- another flood on one of them

pub on-put : (w v : Wavelength) (f : Flood) (p : Floods) → on w (put v f p) ≡ cond (same w v) f (on w p)
on-put First First f p = refl
on-put First Second f p = refl
on-put Second First f p = refl
on-put Second Second f p = refl

pub on-put-own : (w : Wavelength) (f : Flood) (p : Floods) → on w (put w f p) ≡ f
on-put-own First f p = refl
on-put-own Second f p = refl

-- a wavelength's own flood, put there, changes nothing
pub put-own : (w : Wavelength) (p : Floods) → put w (on w p) p ≡ p
put-own First p = refl
put-own Second p = refl

pub on-put_other : (w v : Wavelength) (f : Flood) (p : Floods) → same w v ≡ false → on w (put v f p) ≡ on w p
on-put_other w v f p e = rw (on-put w v f p, e)
