-- `bridges::is_bridge` meets its contract: the search from the low end on the rows without the link finds its high end or not.
use mathlib.Core.Path.{◌∙◌, ap}
use mathlib.Core.Bool.{not}
use Rattle.std.specs.Prelude.{Some}
use Rattle.mesh.specs.Laws.Checked.{passes}
use Rattle.nets.specs.Laws.Fits.{fits}
use Rattle.nets.specs.Laws.Ways.{rows_ways}
use Rattle.bridges.proofs.Laws.Bridges.{bridge_is}
use Rattle.bridges.proofs.is_bridge.Goals as goal

pub returns : goal.returns
returns c =
    λ ok h.
    let m = c.args.m.now in
    ap not c.has_node.ensures
    ∙ bridge_is (fits m ok) (passes m ok).nodes_most h (rows_ways m ok (Some c.args.k) c.ways-table.ensures) c.spread-reached.ensures
