-- `arcs::Arcs::chain_all` meets its contract: `Chaining` holds between the turns, and each turn puts the two arcs of a link before those that leave its ends.
use mathlib.Core.Path.{◌≡◌}
use Rattle.collection.proofs.Laws.Arcs.{Chaining}
use Rattle.collection.proofs.arcs.Arcs.chain_all.Given as goal

abbrev pub invariant-loop-i : goal.invariant-loop-i
invariant-loop-i l = record {
  counted : l.self.links ≡ l.m.count;
  chaining : Chaining l.m l.i l.self.next l.self.to;
}
