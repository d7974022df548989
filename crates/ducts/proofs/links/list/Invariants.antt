-- `ducts::links::list` meets its contract. The loop keeps that those of the links below i that share the duct stand at the front of the output.
use Rattle.mesh.specs.WellFormed.{duct}
use Rattle.scan.specs.Listed.{Stored}
use Rattle.ducts.specs.Sharing.{shares}
use Rattle.ducts.proofs.links.list.Given as goal

abbrev pub invariant-loop-i : goal.invariant-loop-i
invariant-loop-i l = Stored (shares (duct l.m) l.k) l.i l.n l.initial.out l.out
