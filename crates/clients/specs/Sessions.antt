-- Where the lists of demand 3 begin, and what one cut leads to. Definitions only.
use Rattle.std.specs.Prelude.{ℕ, [], ◌∷◌}
use Rattle.mesh.specs.declared.Mesh.{Mesh}
use Rattle.flood.specs.Topology.{had_of}
use Rattle.planner.specs.Plan.{planned}
use Rattle.recovery.specs.declared.Session.{Session}
use Rattle.recovery.specs.Calls.{started, routed}
use Rattle.history.specs.History.{Call, by_value, cut, run, status, reply, after}
use Rattle.history.specs.Demand.{started_on}
use Rattle.clients.specs.declared.Begun.{Begun}
use Rattle.clients.specs.declared.Recovered.{Recovered}

-- the session that a start on m and its plan gives, that plan, and the answers of planning and of the start
abbrev pub begun : Mesh → Begun
begun m = record {
  session = started_on m;
  plan = (planned m).plan;
  planning = (planned m).answer;
  starting = (started m (planned m).plan).answer;
}

-- a run with the largest allowance there is
abbrev pub unhindered : Call
unhindered = run 4294967295

-- the list of calls "cut k, run, status k", of which wavelength 1 is shown (02, request 2): how many deliveries were made on it, by the states of its links,
-- what the run reports of both wavelengths, the status, and what the route query answers after them
unfoldable pub recovered : Session → ℕ → Recovered
recovered s k =
    let ran : Session = after (cut by_value k ∷ unhindered ∷ []) s in
    record {
      deliveries = had_of ran.mesh.count ran.first.states;
      report = reply unhindered (after (cut by_value k ∷ []) s);
      status = reply (status k 1) ran;
      routed = routed (after (cut by_value k ∷ unhindered ∷ status k 1 ∷ []) s) 1;
    }
