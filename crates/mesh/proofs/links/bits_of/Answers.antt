-- `mesh::links::bits_of` meets its contract: joined bits are 0 just where each field is.
use lib.Dec.{lit<}
use Rattle.scan.specs.Bits.{or-zero, times_zero}
use Rattle.mesh.proofs.links.bits_of.Goals as goal

pub returns : goal.returns
returns c = simp (or-zero, times_zero 256 (lit< tt), times_zero 65536 (lit< tt), times_zero 4294967296 (lit< tt))
