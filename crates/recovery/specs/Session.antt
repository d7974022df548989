-- A session by its floods. Definitions only.
use Rattle.wavelengths.specs.declared.Floods.{Floods}
use Rattle.wavelengths.specs.Wavelength.{pair}
use Rattle.mesh.specs.declared.Mesh.{Mesh}
use Rattle.mesh.specs.declared.Plan.{Plan}
use Rattle.formed.specs.Cut.{Cut}
use Rattle.recovery.specs.declared.Session.{Session}

-- its flood on each wavelength
abbrev pub floods : Session → Floods
floods s = pair s.first s.second

-- the session with these pieces
abbrev pub session_of : Mesh → Plan → Cut → Floods → Session
session_of m p c f = record { mesh = m; plan = p; cut = c; first = f.first; second = f.second }
