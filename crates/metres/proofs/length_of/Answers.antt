-- `metres::length_of` meets its contract: each return rewrites with the test that led there.
use Rattle.metres.proofs.length_of.Goals as goal

pub returns : goal.returns
returns c = rw c.if-unmeasured.false
