-- `recovery::Session::fresh` meets its contract: its floods are quiet.
use Rattle.wavelengths.specs.Wavelength.{pair}
use Rattle.recovery.specs.Session.{session_of}
use Rattle.formed.specs.Cut as cuts
use Rattle.recovery.proofs.Session.fresh.Goals as goal

pub returns : goal.returns
returns c =
    let a = c.args in
    λ i. session_of a.mesh a.plan cuts.Nothing (pair (c.quiet-first.ensures i) (c.quiet-second.ensures i))
