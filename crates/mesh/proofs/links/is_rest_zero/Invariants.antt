-- `mesh::links::is_rest_zero` meets its contract. The loop keeps that all entries past the last link are zero just where those before i were and those from i
-- on are.
use Rattle.scan.specs.Joining.{Joined}
use Rattle.mesh.specs.Mesh.{is_zero}
use Rattle.mesh.proofs.links.is_rest_zero.Given as goal

abbrev pub invariant-loop-i : goal.invariant-loop-i
invariant-loop-i l = Joined is_zero l.m.links l.m.count l.i l.bits
