-- `ends::rise_within` meets its contract: the test that passes on each entry says that it rises.
use Prim.Native.Nat.{◌-◌}
use mathlib.Core.Path.{◌≡◌}
use mathlib.Core.Bool.{true, ◌||◌}
use lib.Dec.{eqb, leb}
use Rattle.std.proofs.Common.{rules}
use Rattle.scan.specs.Entry.{at}
use Rattle.ends.specs.Laws.Rising.{rises}
use Rattle.ends.proofs.rise_within.Goals as goal

pub returns : goal.returns
returns c =
    λ e i l h.
    let t = c.each_passes.ensures e i l h in
    let passes : (eqb (at c.args.ends.now i) 0 || leb (at c.args.ends.now (i - 1)) (at c.args.ends.now i)) ≡ true = search rules in
    rises c.args.ends.now i passes
