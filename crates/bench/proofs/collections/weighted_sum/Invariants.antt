-- `bench::collections::weighted_sum` is safe: each of at most 127 nodes adds at most 127 times 255.
use Prim.Native.Nat.{◌*◌, ◌≤◌}
use Rattle.bench.proofs.collections.weighted_sum.Given as goal

abbrev pub invariant-loop-i : goal.invariant-loop-i
invariant-loop-i l = l.sum ≤ 32385 * l.i
