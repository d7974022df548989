use mathlib.Core.Path.{refl, ◌∙◌, ap}
use Rattle.collection.specs.declared.arcs.Arcs.{Arcs}
use Rattle.collection.proofs.Laws.Arcs.{chaining_start, chaining_turn, chaining_all}
use Rattle.collection.proofs.arcs.Arcs.chain_all.Goals as goal

pub loop-i-init : goal.loop-i-init
loop-i-init c = rw c.requires.empty (record { counted = refl; chaining = chaining_start c.requires.formed })

pub loop-i-preserved : goal.loop-i-preserved
loop-i-preserved c =
    let i = c.loop-i.invariant in
    let one = c.chain.ensures in
    let two = c.chain-in-loop-i.ensures in
    record {
      counted = ap (λ (a : Arcs). a.links) two ∙ ap (λ (a : Arcs). a.links) one ∙ i.counted;
      chaining = chaining_turn c.loop-i-test.true i.chaining (ap (λ (a : Arcs). a.next) one, ap (λ (a : Arcs). a.to) one) (ap (λ (a : Arcs). a.next) two, ap (λ (a : Arcs). a.to) two);
    }

pub returns-clause-chained : goal.returns-clause-chained
returns-clause-chained c = chaining_all c.loop-i-test.false c.loop-i.invariant.chaining
