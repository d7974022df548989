use native.Mathlib.Omega.{arith}
use native.Mathlib.Nat.{add-zero, sub-zero}
use mathlib.Core.Path.{refl}
use mathlib.Core.List.{[], ◌∷◌}
use Prim.Native.Nat.{◌+◌, ◌-◌, ◌/◌, ◌%◌}
use Rattle.scan.specs.Bytes.{bytes, length-bytes, bytes_next}
use Rattle.scan.specs.Storing.{storing_all, storing_next}
use Rattle.writer.proofs.number.Pen.put_bytes.Goals as goal

pub loop-i-init : goal.loop-i-init
loop-i-init c =
    let a = c.args in
    let pen = a.self.now in record {
      output = refl;
      place = refl;
      left = rw (add-zero pen.at, sub-zero a.w) (storing_all pen.out.now pen.at (bytes a.w a.v) (simp length-bytes c.requires));
    }

pub loop-i-preserved : goal.loop-i-preserved
loop-i-preserved c =
    let w = c.args.w in
    let lo = c.loop-i in
    let kept = lo.invariant in
    let next = bytes_next w lo.i lo.x c.loop-i-test.true in record {
      output = kept.output;
      place = kept.place;
      left = rw kept.place (storing_next kept.left (lo.x % 256 ∷ []) (bytes (w - (lo.i + 1)) (lo.x / 256)) next refl (omega arith));
    }
