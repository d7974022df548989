-- `reader::number::number_at` meets its contract. The loop keeps that x is the number in the bytes from at + i on; a byte more before
-- them is one step of `number`.
use Prim.Native.Nat.{◌+◌, ◌-◌, ◌^◌, ◌<◌}
use mathlib.Core.Path.{◌≡◌}
use Rattle.scan.specs.Bytes.{number}
use Rattle.reader.proofs.number.number_at.Given as goal

abbrev pub invariant-loop-i : goal.invariant-loop-i
invariant-loop-i l = (l.x ≡ number (l.w - l.i) l.s (l.at + l.i)) × (l.x < 256 ^ (l.w - l.i))
