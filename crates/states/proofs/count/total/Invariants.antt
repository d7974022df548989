-- `states::count::total` meets its contract. The loop keeps the sum over the first links, at most 127 for each.
use Prim.Native.Nat.{◌*◌, ◌≤◌}
use mathlib.Core.Path.{◌≡◌}
use Rattle.scan.specs.Entry.{at}
use Rattle.scan.specs.Total.{total}
use Rattle.states.proofs.count.total.Given as goal

abbrev pub invariant-loop-v : goal.invariant-loop-v
invariant-loop-v g l = (l.n ≤ 127 * l.v-index) × (l.n ≡ total (λ j. g.value (at l.states j)) l.v-index)
