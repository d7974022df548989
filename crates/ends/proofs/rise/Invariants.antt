-- `ends::rise` meets its contract. Each entry below block b rises; the last block may start before that, and ends with the last entry.
use Prim.Native.Nat.{ℕ, ◌*◌, ◌<◌, ◌≤◌}
use Rattle.ends.specs.Ends.{Rising}
use Rattle.ends.proofs.rise.Given as goal

abbrev pub invariant-loop-b : goal.invariant-loop-b
invariant-loop-b l = (j : ℕ) → 0 < j → j ≤ l.b * 16 → j < 256 → Rising l.ends j
