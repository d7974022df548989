-- 02's two wavelengths: which number names each, and which arcs and which flood each has. Definitions only.
use Rattle.std.specs.Prelude.{ℕ, Bool, true, false, cond, ◌||◌, eqb}
use Rattle.flood.specs.Digraph.{Digraph}
use Rattle.flood.specs.declared.Flood.{Flood}
use Rattle.wavelengths.specs.declared.Floods.{Floods}
pub use Rattle.wavelengths.specs.declared.Wavelength.{Wavelength}
use Rattle.wavelengths.specs.declared.Wavelength.TheVariants.{First, Second}

-- what each wavelength has: a on 1, b on 2
abbrev pub each : {A : Type 0} → A → A → Wavelength → A
each a b First = a
each a b Second = b

abbrev pub same : Wavelength → Wavelength → Bool
same w v = each (each true false v) (each false true v) w

-- ---- by number

-- a number that names a wavelength; 14 is for any other
abbrev pub is_wavelength : ℕ → Bool
is_wavelength n = eqb n 1 || eqb n 2

-- the wavelength that it names. Any other number than 2 is taken as 1, which shows nowhere: 14 comes first
abbrev pub wavelength_of : ℕ → Wavelength
wavelength_of n = cond (eqb n 2) Second First

abbrev pub number_of : Wavelength → ℕ
number_of = each 1 2

-- ---- what each has

-- where an arc that leads from a to b on wavelength 1 starts, and where it ends: wavelength 2 carries primary streams against the plan, so that there every
-- arc is turned round
abbrev pub start_on : {A : Type 0} → Wavelength → A → A → A
start_on w a b = each a b w

abbrev pub end_on : {A : Type 0} → Wavelength → A → A → A
end_on w a b = each b a w

-- its arcs, by those of wavelength 1
abbrev pub arcs_on : Wavelength → Digraph → Digraph
arcs_on w g = record { nodes = g.nodes; links = g.links; tail = start_on w g.tail g.head; head = end_on w g.tail g.head }

-- its flood, and the two with another one there
abbrev pub on : Wavelength → Floods → Flood
on w p = each p.first p.second w

abbrev pub put : Wavelength → Flood → Floods → Floods
put First f p = record { first = f; second = p.second }
put Second f p = record { first = p.first; second = f }

abbrev pub pair : Flood → Flood → Floods
pair f h = record { first = f; second = h }
