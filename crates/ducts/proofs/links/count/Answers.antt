-- `ducts::links::count` meets its contract: of all links it counts those that pass the test.
use mathlib.Core.Path.{◌∙◌, ap}
use lib.ListN.{length}
use Rattle.std.proofs.Common.{rules, tests, arith}
use Rattle.std.proofs.lemmas.Iterator.{YieldsList-from_range}
use Rattle.std.proofs.lemmas.Iterator.Consumers.{YieldsList-from_filter, count_from_yields_List}
use Rattle.mesh.specs.WellFormed.{duct}
use Rattle.ducts.specs.Sharing.{shares, sharing}
use Rattle.ducts.proofs.Laws.Listed.{filter-range}
use Rattle.ducts.proofs.links.count.Goals as goal

pub returns : goal.returns
unfolding sharing
returns c =
    let m = c.args.m.now in
    let p = shares (duct m) c.args.k in
    let all = YieldsList-from_range 0 m.count m.count c.filter.ensures.source (omega arith) in
    count_from_yields_List c.filter.result _ c.count.ensures.ran (YieldsList-from_filter _ p all c.filter.ensures.closure (λ x r q k. search (rules, tests)))
    ∙ ap length (filter-range p m.count)
