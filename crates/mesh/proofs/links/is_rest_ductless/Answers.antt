use mathlib.Core.Path.{refl}
use native.Mathlib.Omega.{arith}
use lib.Dec.{eqb}
use Rattle.scan.specs.Entry.{at}
use Rattle.scan.specs.Joining.{joined_none, joined-turn, joined-all}
use Rattle.mesh.proofs.links.is_rest_ductless.Goals as goal

pub loop-j-init : goal.loop-j-init
loop-j-init c = joined_none (λ d. eqb d 0) c.args.m.now.ducts c.args.m.now.count c.min-j.result (omega arith)

pub loop-j-preserved : goal.loop-j-preserved
loop-j-preserved c =
    let m = c.args.m.now in
    let lo = c.loop-j in
    joined-turn (λ d. eqb d 0) m.ducts m.count 0 lo.j lo.ducts (at m.ducts lo.j) lo.invariant (omega arith) refl

pub returns : goal.returns
returns c = joined-all (λ d. eqb d 0) c.args.m.now.ducts c.args.m.now.count c.loop-j.j c.loop-j.ducts c.loop-j.invariant (omega arith)
