use mathlib.Core.Path.{◌≡◌, sym}
use native.Mathlib.Omega.{arith}
use Rattle.heaviest.proofs.Laws.Spans.{stored_none, stored_next, stored-all}
use Rattle.heaviest.proofs.spans.spans.Goals as goal

pub loop-i-init : goal.loop-i-init
loop-i-init c = rw c.zero_link-links.ensures (sym (stored_none c.args.m))

pub loop-i-preserved : goal.loop-i-preserved
loop-i-preserved c =
    let m = c.args.m in
    let i = c.loop-i.i in
    rw (c.span.ensures, c.span-in-loop-i.ensures, c.loop-i.invariant) (stored_next m i)

pub returns : goal.returns
returns c =
    let l = c.loop-i in
    let m = c.args.m in
    let e : l.i ≡ m = omega arith in
    rw (c.span-2.ensures, l.invariant, e) (stored-all m c.requires)
