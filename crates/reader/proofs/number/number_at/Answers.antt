use Prim.Native.Nat.{ℕ, suc, ◌+◌, ◌*◌, ◌-◌, ◌^◌, ◌≤◌, ◌<◌}
use mathlib.Core.Path.{◌≡◌}
use mathlib.Core.List.{List}
use native.Mathlib.Nat.{pow-le-pow_right}
use native.Mathlib.Omega.{arith}
use lib.Dec.{lit<}
use lib.ListN.{get_or}
use Rattle.scan.specs.Bytes.{number, AreBytes, number_below}
use Rattle.reader.proofs.number.number_at.Goals as goal

-- one turn: one byte more in front, counted down from i
number-turn : (s : List ℕ) (at w i x : ℕ) → AreBytes s → 0 < i → i ≤ w → x ≡ number (w - i) s (at + i)
    → (get_or s (at + (i - 1)) 0 + 256 * x ≡ number (w - (i - 1)) s (at + (i - 1))) × (get_or s (at + (i - 1)) 0 + 256 * x < 256 ^ (w - (i - 1)))
number-turn s at w i x small some h e =
    let more : w - (i - 1) ≡ suc (w - i) = omega arith in
    let next : at + (i - 1) + 1 ≡ at + i = omega arith in
    let turn : get_or s (at + (i - 1)) 0 + 256 * x ≡ number (w - (i - 1)) s (at + (i - 1)) = rw (more, next, e) in
    (turn, rw turn (number_below (w - (i - 1)) s (at + (i - 1)) small))

-- three bytes at most, so that one more still fits 32 bits
below-three : (x k : ℕ) → x < 256 ^ k → k ≤ 3 → x < 256 ^ 3
below-three x k h l = omega (arith, pow-le-pow_right {n = 256} (lit< tt) {i = k} {j = 3} l)

pub overflow_mul-x : goal.overflow_mul-x
overflow_mul-x c = omega (arith, below-three c.loop-i.x _ c.loop-i.invariant.1 (omega arith))

pub overflow_add-x-in-loop-i : goal.overflow_add-x-in-loop-i
overflow_add-x-in-loop-i c =
    let lo = c.loop-i in
    omega (arith, below-three lo.x _ lo.invariant.1 (omega arith), c.type_inv.s (c.args.at + (lo.i - 1)))

pub loop-i-preserved : goal.loop-i-preserved
loop-i-preserved c =
    let a = c.args in
    let lo = c.loop-i in
    let small : AreBytes a.s.now = λ j. omega (arith, c.type_inv.s j) in
    number-turn a.s.now a.at a.w lo.i lo.x small c.loop-i-test.true (omega arith) lo.invariant.0
