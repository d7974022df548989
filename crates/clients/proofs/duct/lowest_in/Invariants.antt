-- `clients::duct::lowest_in` meets its contract. The loop keeps that none of the links below i has the duct number.
use lib.Dec.{eqb}
use Rattle.scan.specs.Entry.{at}
use Rattle.scan.specs.Lowest.{None}
use Rattle.clients.proofs.duct.lowest_in.Given as goal

abbrev pub invariant-loop-i : goal.invariant-loop-i
invariant-loop-i l = None (λ j. eqb (at l.m.ducts j) l.duct) l.i
