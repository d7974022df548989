use Prim.Native.Nat.{ℕ, min}
use mathlib.Core.Path.{◌≡◌, sym, ap, ◌∙◌}
use mathlib.Core.Bool.{Bool, ◌||◌}
use native.Mathlib.Omega.{arith}
use borrow.Author.Tests.{lt-ltb, le-ltb}
use lib.Dec.{ltb}
use Rattle.scan.specs.Lowest.{every, every_says, every-turn}
use Rattle.scan.specs.Sweep.{sweep_none, sweep-turn}
use Rattle.scan.specs.Fill.{filled}
use Rattle.legacy.specs.declared.OldMesh.{OldMesh}
use Rattle.legacy.specs.Record.{link, ends_of, is_zero, rest_zero}
use Rattle.legacy.proofs.Ranges.{lent_in_range}
use Rattle.legacy.proofs.links.split.Goals as goal

-- entry i is a link's, or zero
abbrev rest : OldMesh → ℕ → Bool
rest m i = ltb i m.count || is_zero (link m i)

pub loop-i-init : goal.loop-i-init
loop-i-init c = (sym (sweep_none _ c.args.ends.now), λ h. absurd (omega arith))

pub loop-i-preserved : goal.loop-i-preserved
loop-i-preserved c =
    let lo = c.loop-i in
    (sweep-turn _ c.args.ends.now lo.ends lo.i lo.invariant.0 _ c.ends_of.ensures, λ h. lent_in_range c.args.m.now c.type_inv.m)

pub loop-i-2-init : goal.loop-i-2-init
loop-i-2-init c =
    let m = c.args.m.now in
    let all : c.loop-i.i ≡ c.min-count.result = omega arith in
    (omega arith, sym ((every_says (rest m) _).1 (λ j h. rw (lt-ltb j m.count (omega arith)))), λ h. c.loop-i.invariant.1 (omega arith))

pub loop-i-2-preserved : goal.loop-i-2-preserved
loop-i-2-preserved c =
    let m = c.args.m.now in
    let lo = c.loop-i-2 in
    (omega arith, every-turn (rest m) lo.i lo.zeros _ lo.invariant.1 (rw (le-ltb lo.i m.count (omega arith)) c.is_zero-zeros.ensures), λ h. lent_in_range m c.type_inv.m)

pub returns : goal.returns
unfolding rest_zero
returns c =
    let m = c.args.m.now in
    let whole : c.loop-i-2.i ≡ 256 = omega arith in
    let all : c.loop-i.i ≡ min m.count 256 = omega arith in record {
      rest = c.loop-i-2.invariant.1 ∙ ap (every (rest m)) whole;
      ends = c.loop-i.invariant.0 ∙ ap (λ (n : ℕ). filled (λ j. ends_of (link m j)) n c.args.ends.now) all;
      ranges = c.loop-i-2.invariant.2 (omega arith);
    }
