-- What rests after a cut of one of two links. Assumes nothing.
use Rattle.std.specs.Prelude.{ℕ, ◌-◌, ◌≡◌, ◌↔◌, length}
use mathlib.Core.List.{List, [], ◌∷◌}
use Rattle.wavelengths.specs.declared.Wavelength.{Wavelength}
use Rattle.wavelengths.specs.Merge.{Turn, links_on}
use Rattle.recovery.specs.declared.Session.{Session}
use Rattle.recovery.specs.Calls.{route_of}
use Rattle.history.specs.Demand.{AtRest}

-- wavelength w is at rest exactly where one of the deliveries ts is on it, and its route is the other link then
abbrev pub Rests : Session → ℕ → List Turn → Wavelength → Type 0
Rests s k ts w = (AtRest s w ↔ (length (links_on w ts) ≡ 1)) × (AtRest s w → route_of s w ≡ (1 - k) ∷ [])
