use native.Mathlib.Omega.{arith}
use Rattle.collection.proofs.Laws.Chain.{head_below, next-later, passed_none, passed_more, passed_hit, passed_all}
use Rattle.collection.proofs.arcs.Arcs.next_new.Goals as goal

pub loop-a-init : goal.loop-a-init
loop-a-init c = let s = c.args.self.now in passed_none 64 s.links s.to c.args.seen.now c.args.arc

pub bounds-seen-self : goal.bounds-seen-self
bounds-seen-self c = let s = c.args.self.now in head_below 64 s.links s.to c.requires.fits c.loop-a.a c.loop-a-test.true

pub returns-then-not-seen-self : goal.returns-then-not-seen-self
returns-then-not-seen-self c =
    let s = c.args.self.now in
    passed_hit 64 s.links s.to c.args.seen.now c.loop-a.invariant c.loop-a-test.true c.if-not-seen-self.true

pub loop-a-smaller : goal.loop-a-smaller
loop-a-smaller c = let s = c.args.self.now in omega (arith, next-later 64 s.links s.to c.requires c.loop-a.a c.loop-a-test.true)

pub loop-a-preserved : goal.loop-a-preserved
loop-a-preserved c =
    let s = c.args.self.now in
    passed_more 64 s.links s.to c.args.seen.now c.loop-a.invariant s.next c.requires c.loop-a-test.true c.if-not-seen-self.false

pub returns : goal.returns
returns c = let s = c.args.self.now in passed_all 64 s.links s.to c.args.seen.now c.loop-a.invariant c.loop-a-test.false
