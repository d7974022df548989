-- `rows::Arcs::leads` meets its contract. The loop's invariant: both searches are `Spreading`; each turn adds a node to those that the search ahead has done, so
-- that the measure falls.
use Prim.Native.Nat.{◌%◌, ◌^◌, ◌-◌}
use Rattle.rows.specs.Rows.{Spreading}
use Rattle.rows.proofs.Arcs.leads.Given as goal

abbrev pub invariant-loop-ahead : goal.invariant-loop-ahead
invariant-loop-ahead l =
    Spreading l.self.leaving.0 (l.u % 64) l.ahead.seen l.ahead.done × Spreading l.self.entering.0 (l.v % 64) l.back.seen l.back.done

abbrev pub decreases-loop-ahead : goal.decreases-loop-ahead
decreases-loop-ahead l = 2 ^ 64 - l.ahead.done
