-- What lent arrays describe, and tests on a link in them. Definitions only.
use Rattle.std.specs.Prelude.{ℕ, min, Bool, not, ◌&&◌, List, eqb, leb}
use Rattle.scan.specs.Entry.{at}
use Rattle.flood.specs.declared.Arcs.{Arcs}
use Rattle.flood.specs.Digraph.{Digraph, Failure}
use Rattle.flood.specs.Machine.{Flood, under_way, live}

-- ---- the arrays

-- n nodes, and `links` links from their tails to their heads
abbrev pub graph : ℕ → List ℕ → List ℕ → ℕ → Digraph
graph n tails heads links = record { nodes = n; links = links; tail = at tails; head = at heads }

-- from x to y; a link is blocked where its start is not its tail
abbrev pub failure : List ℕ → List ℕ → ℕ → ℕ → Failure
failure tails starts x y = record { source = x; target = y; blocked = λ i. not (eqb (at starts i) (at tails i)) }

-- the digraph of n nodes with the first 256 of these arcs, and the failure in it
abbrev pub graph_on : ℕ → Arcs → Digraph
graph_on n a = graph n a.tails a.heads (min a.count 256)

abbrev pub failure_on : Arcs → Failure
failure_on a = failure a.tails a.starts a.source a.target

abbrev pub flood : List ℕ → List Bool → Flood
flood states reached = record { states = states; reached = reached }

-- ---- tests on link i

-- it leaves a, and is offered, taken or refused
abbrev pub held : List ℕ → List ℕ → ℕ → ℕ → Bool
held tails states a i = eqb (at tails i) a && live (at states i)

-- it is taken, and one end, of those given, is a
abbrev pub taken : List ℕ → List ℕ → ℕ → ℕ → Bool
taken ends states a i = eqb (at ends i) a && eqb (at states i) 2

-- it is offered or refused
abbrev pub busy : List ℕ → ℕ → Bool
busy states i = under_way (at states i)

-- and is not below `from`
abbrev pub busy_from : List ℕ → ℕ → ℕ → Bool
busy_from states from i = leb from i && busy states i

-- it leaves a and may be offered
abbrev pub leaving : List ℕ → List ℕ → ℕ → ℕ → Bool
leaving tails starts a i = eqb (at tails i) a && eqb (at starts i) a

-- and is quiet, in state v
abbrev pub opening : List ℕ → List ℕ → ℕ → ℕ → ℕ → Bool
opening tails starts a i v = leaving tails starts a i && eqb v 0
