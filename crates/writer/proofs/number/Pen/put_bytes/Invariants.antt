-- `writer::number::Pen::put_bytes` meets its contract. The loop keeps that the bytes of x from `at` + i on are left to store.
use Prim.Native.Nat.{◌+◌, ◌-◌}
use mathlib.Core.Path.{◌≡◌}
use Rattle.scan.specs.Bytes.{bytes}
use Rattle.scan.specs.Storing.{Storing}
use Rattle.writer.proofs.number.Pen.put_bytes.Given as goal

abbrev pub invariant-loop-i : goal.invariant-loop-i
invariant-loop-i l =
    let before = l.initial.self in record {
      output : l.self.out.ghost_name ≡ before.out.ghost_name;
      place : l.self.at ≡ before.at;
      left : Storing before.out.now before.at (bytes l.w l.v) l.self.out.now (before.at + l.i) (bytes (l.w - l.i) l.x);
    }
