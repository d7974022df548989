-- `flooding::walk::follow` meets its contract. The loop keeps that all links of the route but those from `node` on are stored in `row`.
use Prim.Native.Nat.{ℕ, min}
use Rattle.flooding.specs.Laws.Follow.{Following}
use Rattle.flooding.proofs.walk.follow.Given as goal

abbrev pub invariant-loop-n : goal.invariant-loop-n
invariant-loop-n l = (m : ℕ) → Following m l.arcs.tails l.arcs.heads (min l.arcs.count 256) l.flood.states l.arcs.source l.row l.n l.node
