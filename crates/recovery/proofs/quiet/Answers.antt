-- `recovery::quiet` meets its contract.
use mathlib.Core.Path.{refl}
use Rattle.flood.specs.Machine.{fresh}
use Rattle.recovery.proofs.quiet.Goals as goal

pub returns : goal.returns
unfolding fresh
returns c = refl
