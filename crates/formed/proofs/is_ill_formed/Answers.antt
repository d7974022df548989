-- `formed::is_ill_formed` meets its contract: each test is the definition's.
use Rattle.formed.specs.Pieces.{ill_formed}
use Rattle.formed.proofs.is_ill_formed.Goals as goal

pub returns : goal.returns
unfolding ill_formed
returns c = rw (c.has_bad_entry.ensures, c.is_misplaced.ensures, c.has_stray.ensures)
