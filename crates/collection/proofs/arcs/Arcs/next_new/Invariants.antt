-- `arcs::Arcs::next_new` meets its contract. The loop keeps that the arcs before a lead to no new node.
use Prim.Native.Nat.{◌-◌, ◌/◌}
use Rattle.collection.specs.Walked.{net_in, Passed}
use Rattle.collection.proofs.arcs.Arcs.next_new.Given as goal

abbrev pub invariant-loop-a : goal.invariant-loop-a
invariant-loop-a l = Passed (net_in l.self) l.seen l.arc l.a

abbrev pub decreases-loop-a : goal.decreases-loop-a
decreases-loop-a l = l.self.links - l.a / 2
