-- The table of bench examples: one test that is computed over all rows, and one lemma that gives each row. Serves `bench` of Main.
-- Assumes nothing.
use Rattle.std.specs.Prelude.{◌≡◌, refl, Bool, true, ◌&&◌}
use Rattle.std.proofs.Common.{◌∙◌, ap, ⊎_elim}
use Rattle.std.proofs.Math.Bool.{and-eq-true_iff}
use mathlib.Core.List.Memᴰ
use mathlib.Core.List.{List, [], ◌∷◌, Memᴰ}
use Rattle.scan.specs.All.{all}
use Rattle.scan.specs.Passing.{passing}
use Rattle.scan.specs.Lowest.{lowest, lowest_from, any, every}
use Rattle.graph.specs.Reach.{mark_way, mark_link, mark_links, rounds, reached, reaches}
use Rattle.graph.specs.Plan.{connects, unreached, parts, assignments, first_that, plan}
use Rattle.mesh.specs.Mesh.{ends_answer, links_answer, mesh_answer}
use Rattle.fields.specs.Record.{record_length, fields_at, record_answer}
use Rattle.codec.specs.Book.{header_answer, records_answer, fields_from, book_answer, mesh_of, decoded}
use Rattle.planner.specs.Plan.{plan_answer, planned}
use Rattle.scan.specs.Sweep.{sweep, sweep_from}
use Rattle.scan.specs.Total.{total, count}
use Rattle.flood.specs.Machine as machine
use Rattle.flood.specs.Machine.{fresh, under_way, live, offer, feeds, first, some, leaves, opens, arrive, retreat, withdraw}
use Rattle.flood.specs.Machine.{holds as holds'}
use Rattle.wavelengths.specs.Merge.{links_on, busy, at_rest, accepts, next, begin, step, play, accepted, order, run}
use Rattle.faults.specs.Faults.{is_over, overflows, is_stray, strays}
use Rattle.formed.specs.Formed.{plan_fault, flood_fault, floods_fault, start_answer}
use Rattle.formed.specs.Formed.{record_answer as recordSession}
use Rattle.refusals.specs.Refusals.{cut_answer, deliver_answer, run_answer, route_answer}
use Rattle.recovery.specs.Calls.{started, after_cut, after_delivery, after_run, route_of, routed}
use Rattle.flood.specs.Topology.{carries, route_from}
use Rattle.history.specs.History.{after}
use Rattle.guarantees.specs.Bench.{Row, table, turns, turns_on_first, taken_in, calls_of, start_of, end_of, Holds}
use Rattle.guarantees.proofs.Laws.Same.{same_decoded, same-decoded, same_planned, same-planned, same_numbers, same-numbers}
use Rattle.guarantees.proofs.Laws.Same.{same_replies, same_replies_lem, same_routed, same-routed}

-- the row holds of the definitions
abbrev holds : Row → Bool
holds r =
    same_decoded (decoded r.book) r.reading
    && (same_planned (planned (decoded r.book).mesh) r.planning
    && (same_replies r.recovery.answered (start_of r)
    && (same_numbers (turns_on_first (calls_of r) (start_of r)) r.recovery.delivered
    && (same_numbers (taken_in (end_of r)) r.recovery.taken
    && same_routed (routed (end_of r) 1) r.recovery.routing))))

abbrev all_hold : List Row → Bool
all_hold [] = true
all_hold (r ∷ rs) = holds r && all_hold rs

each : (rs : List Row) → all_hold rs ≡ true → (r : Row) → Memᴰ r rs → holds r ≡ true
each [] e r o = absurd (Memᴰ.not-nil o)
each (q ∷ rs) e r o =
    let (first, rest) = (and-eq-true_iff (holds q) _).0 e in
    ⊎_elim (λ p. ap holds p ∙ first) (λ p. each rs rest r p) (Memᴰ.cases_cons o)

-- the whole table, computed
computed : all_hold table ≡ true
unfolding decoded book_answer header_answer records_answer record_answer record_length fields_at fields_from mesh_of ends_answer
    planned plan_answer mesh_answer links_answer all lowest lowest_from any every unreached parts connects reaches reached rounds mark_links mark_link mark_way
    plan first_that assignments
    started start_answer plan_fault flood_fault floods_fault overflows is_over strays is_stray recordSession after_cut cut_answer after_delivery deliver_answer after_run run_answer
    turns passing after fresh machine.begin offer sweep sweep_from leaves opens machine.step arrive withdraw retreat machine.accepts under_way live holds' feeds first some
    machine.at_rest links_on busy at_rest accepts next begin step play accepted order run total count carries route_from route_of route_answer routed
computed = refl

pub row-holds : (r : Row) → Memᴰ r table → Holds r
row-holds r o =
    let m = (decoded r.book).mesh in
    let (read, e1) = (and-eq-true_iff (same_decoded (decoded r.book) r.reading) _).0 (each table computed r o) in
    let (plan, e2) = (and-eq-true_iff (same_planned (planned m) r.planning) _).0 e1 in
    let (said, e3) = (and-eq-true_iff (same_replies r.recovery.answered (start_of r)) _).0 e2 in
    let (turn, e4) = (and-eq-true_iff (same_numbers (turns_on_first (calls_of r) (start_of r)) r.recovery.delivered) _).0 e3 in
    let (took, path) = (and-eq-true_iff (same_numbers (taken_in (end_of r)) r.recovery.taken) _).0 e4 in
    record {
      reads = same-decoded (decoded r.book) r.reading read;
      plans = same-planned (planned m) r.planning plan;
      replies = same_replies_lem r.recovery.answered (start_of r) said;
      delivers = same-numbers (turns_on_first (calls_of r) (start_of r)) r.recovery.delivered turn;
      takes = same-numbers (taken_in (end_of r)) r.recovery.taken took;
      routes = same-routed (routed (end_of r) 1) r.recovery.routing path;
    }
