-- `script::run_calls` is safe: before each call there is room to hold it.
use Prim.Native.Nat.{◌<◌}
use Rattle.script.specs.declared.TheConstants.{MOST_CALLS}
use Rattle.script.proofs.run_calls.Given as goal

abbrev pub invariant-loop : goal.invariant-loop
invariant-loop l = l.held < MOST_CALLS
