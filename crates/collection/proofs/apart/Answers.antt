-- `collection::apart` meets its contract: the search behind refusal 20 finds the place on the links of the mesh.
use mathlib.Core.Path.{◌≡◌, sym, ◌∙◌}
use borrow.Author.Rules.{rules}
use Rattle.graph.specs.Plan.{unreached}
use Rattle.nets.specs.Nets.{net_of, lowest_of}
use Rattle.nets.specs.Laws.Finds.{finds_unreached, lowest_of-says}
use Rattle.collection.proofs.apart.Goals as goal
use Rattle.collection.proofs.apart.Goals.{After-lowest_unreached}

found : (c : After-lowest_unreached) → c.lowest_unreached.result ≡ lowest_of (unreached (net_of c.args.m.now)) c.args.m.now.nodes
found c = finds_unreached c.args.m.now c.requires.0 c.ways-table.ensures c.lowest_unreached.ensures

pub unwrap-requires : goal.unwrap-requires
unwrap-requires c = rw (found c, c.requires.1) (search rules)

pub returns : goal.returns
returns c = (lowest_of-says _ _ (sym c.unwrap.ensures ∙ found (goal.at.returns c).After-lowest_unreached)).1
