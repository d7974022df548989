-- `rows::Rows::spread` meets its contract. The loop's invariant is `Spreading`; each turn adds a node to those that are done, so that the measure falls.
use Prim.Native.Nat.{◌%◌, ◌^◌, ◌-◌}
use Rattle.rows.specs.Rows.{Spreading}
use Rattle.rows.proofs.Rows.spread.Given as goal

abbrev pub invariant-loop-search : goal.invariant-loop-search
invariant-loop-search l = Spreading l.self.0 (l.u % 64) l.search.seen l.search.done

abbrev pub decreases-loop-search : goal.decreases-loop-search
decreases-loop-search l = 2 ^ 64 - l.search.done
