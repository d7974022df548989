-- `heaviest::spans::spans` meets its contract: each turn stores the links of one middle node.
use mathlib.Core.Path.{◌≡◌}
use Rattle.heaviest.proofs.Laws.Spans.{stored}
use Rattle.heaviest.proofs.spans.spans.Given as goal

abbrev pub invariant-loop-i : goal.invariant-loop-i
invariant-loop-i l = l.links ≡ stored l.m l.i
