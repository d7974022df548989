-- `faults::has_bad_entry` meets its contract: some entry of an array is above the highest just where the largest is.
use mathlib.Core.Path.{ap, ◌∙◌}
use mathlib.Core.Bool.{◌||◌}
use lib.Dec.{ltb}
use Rattle.faults.proofs.Laws.Scans.{below_larger, overflows-each}
use Rattle.faults.proofs.has_bad_entry.Goals as goal

pub returns : goal.returns
returns c =
    let a = c.args in
    rw (
      c.is_above.ensures ∙ c.largest-3.ensures 1,
      c.is_above-2.ensures ∙ ap (ltb 4) c.max-top.ensures ∙ below_larger 4 c.largest.result c.largest-2.result ∙ (λ i. c.largest.ensures 4 i || c.largest-2.ensures 4 i),
      c.has_leftover.ensures,
    ) (overflows-each a.links a.directions.now a.first.now a.second.now)
