-- `codec::locate::record_start` meets its contract. The loop keeps that record i starts at `at`.
use mathlib.Core.Path.{◌≡◌}
use Rattle.codec.specs.Book.{record_start}
use Rattle.codec.proofs.locate.record_start.Given as goal

abbrev pub invariant-loop-i : goal.invariant-loop-i
invariant-loop-i l = l.at ≡ record_start l.book l._i
