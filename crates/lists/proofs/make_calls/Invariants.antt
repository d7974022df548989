-- `lists::make_calls` meets its contract. The loop's invariant: to make the calls that are left, and to store their answers behind those that are
-- stored, gives what all calls give.
use Prim.Native.Nat.{◌*◌}
use mathlib.Core.Path.{◌≡◌}
use Rattle.history.specs.History.{after}
use Rattle.lists.specs.Laws.Lists.{left, stored}
use Rattle.lists.proofs.make_calls.Given as goal

abbrev pub invariant-loop-i : goal.invariant-loop-i
invariant-loop-i l =
    (after (left l.letters l.numbers l.calls l.i) l.session ≡ after (left l.letters l.numbers l.calls 0) l.initial.session)
    × (stored (left l.letters l.numbers l.calls l.i) l.session l.out (4 * l.i) ≡ stored (left l.letters l.numbers l.calls 0) l.initial.session l.initial.out 0)
