-- `ends::fit` meets its contract: the test that passes on each entry says that its ends fit.
use Rattle.std.proofs.Common.{arith}
use Rattle.std.proofs.lemmas.Bool.Decides.{nat_tests}
use Rattle.ends.proofs.fit.Goals as goal

pub returns : goal.returns
returns c = λ e i h. let t = c.each_passes.ensures e i (omega arith) (omega (arith, c.lower.ensures)) in grind (arith, nat_tests, t)
