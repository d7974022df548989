-- `mesh::links::is_rest_ductless` meets its contract. The loop keeps that all duct numbers past the last link are zero just where those before j were and those
-- from j on are.
use lib.Dec.{eqb}
use Rattle.scan.specs.Joining.{Joined}
use Rattle.mesh.proofs.links.is_rest_ductless.Given as goal

abbrev pub invariant-loop-j : goal.invariant-loop-j
invariant-loop-j l = Joined (λ d. eqb d 0) l.m.ducts l.m.count l.j l.ducts
