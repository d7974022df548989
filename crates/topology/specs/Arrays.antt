-- The arrays of a wavelength's back-up arcs, by the ends of the links as numbers and their directions. Definitions only.
use Rattle.std.specs.Prelude.{ℕ, min, cond, List, eqb}
use Rattle.scan.specs.Entry.{at}
use Rattle.scan.specs.Fill.{filled}
use Rattle.ends.specs.Ends.{low_of, high_of}
use Rattle.wavelengths.specs.declared.Wavelength.{Wavelength}
use Rattle.wavelengths.specs.Wavelength.{start_on, end_on}

-- where the back-up arc of a link with the ends e and the direction d starts on wavelength 1, and where it ends
abbrev pub first_tail : ℕ → ℕ → ℕ
first_tail e d = cond (eqb d 0) (high_of e) (low_of e)

abbrev pub first_head : ℕ → ℕ → ℕ
first_head e d = cond (eqb d 0) (low_of e) (high_of e)

-- and on wavelength w
abbrev pub tail_by : Wavelength → ℕ → ℕ → ℕ
tail_by w e d = start_on w (first_tail e d) (first_head e d)

abbrev pub head_by : Wavelength → ℕ → ℕ → ℕ
head_by w e d = end_on w (first_tail e d) (first_head e d)

-- an array of 256 entries whose first become the tails, or the heads
abbrev pub tails_into : Wavelength → ℕ → List ℕ → List ℕ → List ℕ → List ℕ
tails_into w links ends directions l = filled (λ i. tail_by w (at ends i) (at directions i)) (min links 256) l

abbrev pub heads_into : Wavelength → ℕ → List ℕ → List ℕ → List ℕ → List ℕ
heads_into w links ends directions l = filled (λ i. head_by w (at ends i) (at directions i)) (min links 256) l
