use Prim.Native.Nat.{ℕ}
use mathlib.Core.Path.{◌≡◌, refl, sym, ◌∙◌}
use mathlib.Core.Bool.{not}
use lib.Dec.{eqb}
use Rattle.std.specs.Prelude.{Option, Some, None}
use Rattle.std.specs.Option.{option_eq}
use Rattle.nets.specs.Nets.{stays}
use Rattle.nets.specs.Laws.Ways.{rows_none, rows_put, rows_skip}
use Rattle.nets.proofs.ways.Goals as goal
use Rattle.nets.proofs.ways.Goals.{then-ne, else-ne}

-- what the code tests
tested : (gap : Option ℕ) (k : ℕ) → stays gap k ≡ not (option_eq eqb gap (Some k))
tested None k = refl
tested (Some gap) k = refl

pub loop-k-init : goal.loop-k-init
loop-k-init c = rows_none _ _

pub loop-k-preserved : goal.loop-k-preserved
loop-k-preserved c =
    let a = c.args in
    let l = c.loop-k in
    let stay = tested a.gap l.k ∙ sym c.ne.ensures in
    elim c.if-ne.branch [
      | then-ne w ↦ rw w.table-is (rows_put a.m.now a.gap l.k l.invariant (stay ∙ w.if-ne.true) w.put_arc.ensures w.put_arc-then-ne.ensures)
      | else-ne w ↦ rw w.table-is (rows_skip a.m.now a.gap l.k l.invariant (stay ∙ w.if-ne.false))
    ]
