-- What a call answers, by what a function on the pieces of the session gives. Definitions only.
use Rattle.std.specs.Prelude.{Result, Ok, Err, []}
use Rattle.mesh.specs.declared.Reason.{Reason}
use Rattle.mesh.specs.Answer.{Answer, Accepted}
use Rattle.flood.specs.declared.Route.{Route}
use Rattle.flood.specs.Topology.{as_route}
use Rattle.backup.specs.declared.Acted.{Acted}
use Rattle.recovery.specs.declared.Session.{Session}
use Rattle.recovery.specs.declared.Change.{Change}
use Rattle.recovery.specs.declared.Delivered.{Delivered}
use Rattle.recovery.specs.declared.Delivered.TheVariants as delivered
use Rattle.recovery.specs.declared.Routed.{Routed}
use Rattle.recovery.specs.Calls.{acted}

-- what a call gives that leaves the session s and answers so
abbrev pub change_to : Session → Answer → Change
change_to s a = record { session = s; answer = a }

-- a delivery: what became of its link, or the refusal
abbrev pub delivered_by : Result Acted Reason → Delivered
delivered_by (Ok a) = acted a.tail a.head a.state
delivered_by (Err r) = delivered.Refused r.number r.place

-- the route query: the route, or none beside the refusal
abbrev pub routed_by : Result Route Reason → Routed
routed_by (Ok p) = record { route = p; answer = Accepted }
routed_by (Err r) = record { route = as_route []; answer = Err r }
