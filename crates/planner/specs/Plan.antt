-- What planning a mesh gives (01, "The plan" and "Order"). Definitions only.
use Rattle.std.specs.Prelude.{ℕ, ◌-◌, not, List, [], ◌++◌, length, replicate, Err, Ok, Result}
use Rattle.std.proofs.Math.Option.{Option, none, some}
use Rattle.scan.specs.Lowest.{lowest, any}
use Rattle.graph.specs.Plan.{unreached, parts, plan}
use Rattle.mesh.specs.declared.Mesh.{Mesh}
use Rattle.mesh.specs.declared.Plan.{Plan}
use Rattle.mesh.specs.declared.Reason.{Reason}
use Rattle.mesh.specs.Answer.{Answer, Accepted, Refused}
use Rattle.mesh.specs.Mesh.{must, and_then, mesh_answer}
use Rattle.nets.specs.Nets.{net_of}
use Rattle.planner.specs.declared.Planned.{Planned}

-- planning: the mesh checks; 20 with the lowest node that node 0 does not reach; 21 with the lowest link whose removal parts the mesh
unfoldable pub plan_answer : Mesh → Answer
plan_answer m =
    and_then (mesh_answer m)
    (must (not (any (unreached (net_of m)) m.nodes)) 20 (lowest (unreached (net_of m)) m.nodes)
    (must (not (any (parts (net_of m)) m.count)) 21 (lowest (parts (net_of m)) m.count)
    Accepted))

-- directions as a plan: zero past the last link
abbrev pub padded : List ℕ → Plan
padded p = record { directions = p ++ replicate (256 - length p) 0 }

-- 01's refused plan: all zeros
abbrev pub zero_plan : Plan
zero_plan = padded []

abbrev pub or_none : Option (List ℕ) → List ℕ
or_none (some p) = p
or_none none = []

abbrev pub planned_as : Answer → Plan → Planned
planned_as Accepted p = record { plan = p; answer = Accepted }
planned_as (Err r) p = record { plan = zero_plan; answer = Refused r.number r.place }

-- the same of a plan or the reason why there is none
abbrev pub planned_by : Result Plan Reason → Planned
planned_by (Ok p) = planned_as Accepted p
planned_by (Err r) = planned_as (Refused r.number r.place) zero_plan

-- the answer and the plan, of all admissible assignments the first; all zeros on a refusal
unfoldable pub planned : Mesh → Planned
planned m = planned_as (plan_answer m) (padded (or_none (plan (net_of m))))
