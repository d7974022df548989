-- `bridges::all_parts` meets its contract. The loop's invariant: the entries of the nodes before v are filled.
use mathlib.Core.Path.{◌≡◌}
use Rattle.scan.specs.Fill.{filled}
use Rattle.graph.specs.Net.{Net, Fits, both_ways}
use Rattle.nets.specs.Nets.{Table}
use Rattle.bridges.specs.Survey.{part_of, no_parts}
use Rattle.bridges.proofs.all_parts.Given as goal

abbrev pub invariant-loop-v : goal.invariant-loop-v
invariant-loop-v l = (G : Net) → Fits G → l.nodes ≡ G.nodes → Table G both_ways l.table.0 → l.parts ≡ filled (part_of G) l.v no_parts
