-- `bridges::all_bridges` meets its contract. The loop's invariant: the entries of the links before k are filled.
use mathlib.Core.Path.{◌≡◌}
use Rattle.scan.specs.Total.{bit}
use Rattle.scan.specs.Fill.{filled}
use Rattle.mesh.specs.Answer.{Accepted}
use Rattle.mesh.specs.Mesh.{mesh_answer}
use Rattle.graph.specs.Greedy.{bridge}
use Rattle.nets.specs.Nets.{net_of}
use Rattle.bridges.specs.Survey.{no_bridges}
use Rattle.bridges.proofs.all_bridges.Given as goal

abbrev pub invariant-loop-k : goal.invariant-loop-k
invariant-loop-k l = mesh_answer l.m ≡ Accepted → l.bridges ≡ filled (λ i. bit (bridge (net_of l.m) i)) l.k no_bridges
