-- What one cut leads to on wavelength 1, on a mesh and its plan. Definitions only.
use Rattle.std.specs.Prelude.{ℕ, Err, Ok}
use Rattle.metres.specs.Known.{Length}
use Rattle.metres.specs.Known as lengths
use Rattle.mesh.specs.declared.Mesh.{Mesh}
use Rattle.planner.specs.Plan.{planned}
use Rattle.flood.specs.Topology.{had_of}
use Rattle.recovery.specs.declared.Session.{Session}
use Rattle.recovery.specs.Answers.{Status}
use Rattle.recovery.specs.Answers as outcomes
use Rattle.recovery.specs.Calls.{started, after_cut, after_run, status_of, routed}
use Rattle.one_cut.specs.declared.Recovered.{Recovered}

-- a session on the mesh m and its plan, after the cut of link k and a run with the largest allowance there is
abbrev pub ran : Mesh → ℕ → Session
ran m k = (after_run (after_cut (started m (planned m).plan).session k).session 4294967295).session

-- a length as a number of metres, and 4294967295 where it is not known
abbrev pub metres_of : Length → ℕ
metres_of (lengths.Metres n) = n
metres_of lengths.NotKnown = 4294967295

-- the route length that a status gives, 0 where the status refuses
abbrev pub status_metres : Status → ℕ
status_metres (Ok l) = metres_of l.route
status_metres (Err r) = 0

-- what a cut of link k leads to on wavelength 1: its route, how many deliveries were made on it, by the states of its links, and the metres of its route
abbrev pub recovered : Mesh → ℕ → Recovered
recovered m k = record {
  route = (routed (ran m k) 1).route;
  deliveries = had_of (ran m k).mesh.count (ran m k).first.states;
  metres = status_metres (status_of (ran m k) k 1);
}
