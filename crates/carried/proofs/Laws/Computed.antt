-- P7 carried over, computed. Serves `carried_bench` of Main. Assumes nothing.
use Rattle.std.specs.Prelude.{refl}
use Rattle.scan.specs.All.{all}
use Rattle.scan.specs.Lowest.{lowest, lowest_from, any, every}
use Rattle.scan.specs.Sweep.{sweep, sweep_from}
use Rattle.scan.specs.Total.{total, count}
use Rattle.graph.specs.Reach.{mark_way, mark_link, mark_links, rounds, reached, reaches}
use Rattle.graph.specs.Plan.{connects, unreached, parts, assignments, first_that, plan}
use Rattle.metres.specs.Length.{length_of, route_length}
use Rattle.mesh.specs.Mesh.{ends_answer, links_answer, mesh_answer}
use Rattle.mesh.specs.Parts.{entries_answer, parts_answer}
use Rattle.planner.specs.Plan.{plan_answer, planned}
use Rattle.flood.specs.Machine as machine
use Rattle.flood.specs.Machine.{fresh, under_way, live, offer, feeds, first, some, leaves, opens, arrive, retreat, withdraw, activity}
use Rattle.flood.specs.Machine.{holds as held}
use Rattle.flood.specs.Topology.{carries, route_from}
use Rattle.wavelengths.specs.Merge.{links_on, busy, at_rest, accepts, next, begin, step, play, accepted, order, run}
use Rattle.faults.specs.Faults.{is_over, overflows, is_stray, strays}
use Rattle.formed.specs.Formed.{plan_fault, flood_fault, floods_fault, start_answer, record_answer}
use Rattle.refusals.specs.Refusals.{status_answer, run_answer, route_answer}
use Rattle.recovery.specs.Calls.{after_run, status_of, route_of, routed}
use Rattle.legacy.specs.Record as old
use Rattle.legacy.specs.Record.{rest_zero, ill_formed}
use Rattle.legacy.specs.Calls as oldCalls
use Rattle.legacy.specs.History as oldLists
use Rattle.upgrade.specs.Carried.{carried}
use Rattle.history.specs.History.{after, answers}
use Rattle.history.specs.Rules.{turn_rule, offered_rule, refused_rule, run_turns, turns_rule, rule_next}
use Rattle.history.specs.Log.{logged}
use Rattle.carried.specs.Bench.{Holds}

pub computed : Holds
unfolding all lowest lowest_from any every sweep sweep_from total count mark_way mark_link mark_links rounds reached reaches connects unreached parts assignments first_that plan
    length_of route_length ends_answer links_answer mesh_answer entries_answer parts_answer plan_answer planned
    fresh under_way live offer feeds first some leaves opens arrive retreat withdraw activity held machine.at_rest machine.accepts machine.begin machine.step
    machine.play machine.accepted machine.order machine.run carries route_from
    links_on busy at_rest accepts next begin step play accepted order run is_over overflows is_stray strays
    plan_fault flood_fault floods_fault start_answer record_answer status_answer run_answer route_answer after_run status_of route_of routed
    old.mesh_answer old.record_answer rest_zero ill_formed oldCalls.next oldLists.after oldLists.logged carried after answers
    turn_rule offered_rule refused_rule run_turns turns_rule rule_next logged
computed = record {
  plans = record { checked = refl; accepted = refl };
  route_kept = refl;
  no_length = refl;
  begun = refl;
  delivered = refl;
  first-length = refl;
  second_route = refl;
  second_length = refl;
}
