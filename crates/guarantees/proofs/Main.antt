-- The theorem page: what is claimed of the library, each theorem stated in full over the definitions that the contracts cite, and proved
-- by citing one lemma. README.md leads from each demand to its theorem here.
use Rattle.std.specs.Prelude.{ℕ, suc, ◌+◌, ◌-◌, ◌*◌, ◌≤◌, ◌<◌, ◌≡◌, refl, Bool, true, false, ◌⊎◌, ◌↔◌, ◌≢◌, length, replicate, take, drop}
use mathlib.Core.List.{List, [], ◌∷◌, ◌++◌, map, Memᴰ}
use Rattle.std.proofs.Common.{arith, lt-ltb, le-ltb}
use Rattle.scan.specs.Entry.{at, has}
use Rattle.scan.specs.Total.{bit, count}
use Rattle.scan.specs.Bytes.{AreBytes}
use Rattle.mesh.specs.declared.Mesh.{Mesh}
use Rattle.mesh.specs.Answer.{Accepted, Refused}
use Rattle.mesh.specs.Mesh.{zero_mesh, follows, ends_answer, mesh_answer}
use Rattle.mesh.specs.WellFormed.{WellFormed, InRange, link, duct, SameEnds, OnlyLink}
use Rattle.mesh.specs.Refusal.{Below, Refusal, previous}
use Rattle.mesh.specs.Laws.Ends.{order-refused}
use Rattle.mesh.specs.Laws.Checked.{checks}
use Rattle.mesh.specs.Laws.Refused.{refused_only}
use Rattle.fields.specs.Record.{record_of}
use Rattle.fields.specs.Entries.{entry}
use Rattle.codec.specs.Book.{longest_book, book_of, encoded, output_after, decoded, span_answer, record_part}
use Rattle.codec.proofs.Laws.Written.{decoded_output, book_most}
use Rattle.codec.proofs.Laws.Read.{decoded-accepted, decoded_in_range, output_decoded, one_book, accepted_most}
use Rattle.codec.proofs.Laws.Encoding.{encoded_done, encoded_short, encoded-refused}
use Rattle.codec.proofs.Laws.Prefix.{decoded-take}
use Rattle.codec.proofs.Laws.Shown.{record_shown}
use Rattle.graph.specs.Net.{Leads, Strong, Parted, both_ways, without, First}
use Rattle.graph.specs.Laws.First.{first_unique}
use Rattle.nets.specs.Nets.{net_of, NoPath}
use Rattle.nets.specs.Laws.Fits.{fits}
use Rattle.planner.specs.Plan.{padded, planned}
use Rattle.planner.specs.Meaning.{LinkParts, FirstPlan}
use Rattle.planner.specs.Laws.Meaning.{plan-refuses, plan-first, plan-numbers}
use Rattle.bridges.specs.Survey.{surveyed}
use Rattle.bridges.specs.Meaning.{PartOf, Bridges, verdict}
use Rattle.bridges.proofs.Laws.Meaning as surveying
use Rattle.covetureen.specs.Interface.{link_answer}
use Rattle.mesh.specs.declared.Plan.{Plan}
use Rattle.wavelengths.specs.declared.Wavelength.{Wavelength}
use Rattle.wavelengths.specs.declared.Wavelength.TheVariants as wavelengths
use Rattle.formed.specs.Cut.{Link}
use Rattle.recovery.specs.declared.Session.{Session}
use Rattle.formed.specs.Formed.{start_answer}
use Rattle.formed.specs.WellFormed as formed
use Rattle.formed.specs.WellFormed.{PlanFormed}
use Rattle.formed.specs.Laws.Forming.{start_formed, refused-start}
use Rattle.recovery.specs.Formed.{Formed, record_answer}
use Rattle.recovery.specs.Laws.Forming.{record_formed, refused_record}
use Rattle.recovery.specs.Calls.{digraph, started, routed, routed_as}
use Rattle.recovery.specs.Calls as recovery
use Rattle.history.specs.History.{Call, reply, next, refused, refused_at}
use Rattle.history.specs.Rules.{start}
use Rattle.history.specs.Log.{made_on, deliveries_on}
use Rattle.history.specs.Offered.{none_offered, offered}
use Rattle.history.specs.Demand.{Sized, CallFollows, Demand3, AtRest, Routes, Measured, had_on, digraph_on, ended, log, offered_on, EverOffered, Undisturbed, RunsAlone, RunsOut}
use Rattle.history.proofs.Laws.Refused.{refused_keeps, record_refusal-answers}
use Rattle.history.proofs.Laws.Ruled.{call_as_ruled}
use Rattle.history.proofs.Laws.Recovered.{demand_3}
use Rattle.history.proofs.Laws.Routed.{demand_route}
use Rattle.history.proofs.Laws.Measured.{demand_length}
use Rattle.history.proofs.Laws.Undisturbed.{undisturbed, runs_alone}
use Rattle.history.proofs.Laws.Unhindered.{runs_out}
use Rattle.history.proofs.Laws.Counted.{had-made, made_exactly, made_most, made_all, made_most_only, offered-same}
use Rattle.history.proofs.Laws.EverOffered.{offered_ever}
use Rattle.ducts.specs.Sharing.{sharing, shared}
use Rattle.ducts.specs.Sharing as ducts
use Rattle.ducts.specs.Meaning.{Lists}
use Rattle.ducts.specs.Meaning as ductQuery
use Rattle.ducts.proofs.Laws.Sharing.{sharing_lists, sharing-same, sharing-alone, sharing_most}
use Rattle.ducts.proofs.Laws.Query as query
use Rattle.planner.specs.Laws.ByEnds.{planned_by_ends}
use Rattle.planner.specs.Laws.Doubled.{doubled_zero}
use Rattle.topology.specs.Backup.{backup_on}
use Rattle.topology.specs.Laws.ByEnds.{backup_by_ends}
use Rattle.legacy.specs.declared.OldMesh.{OldMesh}
use Rattle.legacy.specs.declared.OldSession.{OldSession}
use Rattle.legacy.specs.Record as oldTest
use Rattle.legacy.specs.WellFormed as oldRecord
use Rattle.legacy.specs.Calls as oldCalls
use Rattle.legacy.specs.Bench as oldRows
use Rattle.legacy.proofs.Laws.Computed as oldComputed
use Rattle.legacy.proofs.Laws.Refused.{call-refused}
use Rattle.upgrade.specs.Carried.{carried}
use Rattle.upgrade.specs.Meaning.{Keeps}
use Rattle.upgrade.proofs.Laws.Forming as oldForming
use Rattle.upgrade.proofs.Laws.Carried.{refused_as_start, carried_keeps, carried_passes, route_kept}
use Rattle.carried.specs.Demand.{Planned, CarriedOver, Replays}
use Rattle.carried.specs.Bench as carriedRows
use Rattle.carried.proofs.Laws.Demand.{demand_carried}
use Rattle.carried.proofs.Laws.Replayed.{replayed-same}
use Rattle.carried.proofs.Laws.Computed as carriedComputed
use Rattle.guarantees.specs.Bench.{Row, table, Holds}
use Rattle.depth_first.specs.Search.{Searches}
use Rattle.depth_first.specs.Crossings.{crossings, crossing, Crosses, times}
use Rattle.depth_first.specs.Folded.{MetBy, Ancestor}
use Rattle.depth_first.proofs.Laws.Unfold.{searches}
use Rattle.depth_first.proofs.Laws.Crossings.{goes_each}
use Rattle.collection.specs.Collection.{no_labels, tree_of, route_of, labels_of, needed, collected}
use Rattle.collection.specs.Collection as collection
use Rattle.collection.specs.Meaning.{Connected}
use Rattle.collection.specs.Meaning as collectionQuery
use Rattle.collection.proofs.Laws.Folded.{collects}
use Rattle.collection.proofs.Laws.Query as asking
use Rattle.heaviest.specs.Asked.{Middles}
use Rattle.heaviest.specs.Asked as drills
use Rattle.heaviest.specs.Drill.{drill, drill_of}
use Rattle.heaviest.specs.Input.{Names, asked}
use Rattle.heaviest.proofs.Laws.Input.{asked-names, refused-names, asked-take}
use Rattle.heaviest.proofs.Laws.Drill.{drill_of_lem, drill_none, drill-accepted, drill_in_range}
use Rattle.drilled.specs.Shape.{alternating}
use Rattle.drilled.proofs.Laws.Plan.{drill-planned}
use Rattle.drilled.proofs.Laws.Calls.{outer_only, drill-calls, two_links}
use Rattle.earlier.specs.Ordered.{strictly_follows, mesh_answer_by, decoded_by, planned_by}
use Rattle.earlier.proofs.Laws.Now.{mesh-now, decoded-now, planned-now}
use Rattle.earlier.proofs.Laws.Earlier.{mesh_still, mesh_exactly, decoded_still, decoded_exactly, planned_still, book-plan}
use Rattle.doubled.proofs.Laws.Bridge.{never_parts}
use Rattle.doubled.proofs.Laws.Parallel.{joined-without}
use Rattle.doubled.proofs.Laws.TwoPlan.{two-planned}
use Rattle.doubled.proofs.Laws.TwoCalls.{two-calls, two_route}
use Rattle.guarantees.specs.DuctBench as ductRows
use Rattle.guarantees.proofs.Laws.DuctsComputed as ductsComputed
use Rattle.guarantees.specs.CollectionBench as collectionRows
use Rattle.guarantees.proofs.Laws.CollectionComputed as collectionComputed
use Rattle.guarantees.specs.DrillBench as drillRows
use Rattle.guarantees.proofs.Laws.DrillComputed as drillComputed
use Rattle.guarantees.specs.DoubledBench as doubledRows
use Rattle.guarantees.specs.SurveyBench as surveyRows
use Rattle.guarantees.specs.OneCut.{CutOnce}
use Rattle.guarantees.proofs.Laws.DoubledComputed as doubledComputed
use Rattle.guarantees.proofs.Laws.SurveyComputed as surveyComputed
use Rattle.guarantees.proofs.Laws.CutOnce.{cut_once}
use Rattle.guarantees.proofs.Laws.Computed.{row-holds}

-- ---- the mesh checks (contract: crates/mesh/src/lib.rt, `check`)

-- the checks accept exactly the well-formed meshes
pub check_accepts : (m : Mesh) → InRange m → (mesh_answer m ≡ Accepted) ↔ WellFormed m
check_accepts m r = checks m r.entries

-- a refusal is given only on its own condition, at its own place
pub check_refuses : (m : Mesh) (number place : ℕ) → mesh_answer m ≡ Refused number place → Refusal m number place
check_refuses = refused_only

-- ---- demand 1: writing (contract: crates/codec/src/lib.rt, `encode`)

-- a mesh that passes the checks is written where its book fits, and the bytes past the book stay as they were
pub encode_accepted : (m : Mesh) (out : List ℕ) → mesh_answer m ≡ Accepted → length (book_of m) ≤ length out
    → (encoded m (length out) ≡ record { length = length (book_of m); answer = Accepted }) × (output_after m out ≡ book_of m ++ drop (length (book_of m)) out)
encode_accepted = encoded_done

-- else it is refused with 11 and the bytes needed, and before that with the mesh's own refusal; then no byte changes
pub encode_short : (m : Mesh) (out : List ℕ) → mesh_answer m ≡ Accepted → length out < length (book_of m)
    → (encoded m (length out) ≡ record { length = 0; answer = Refused 11 (length (book_of m)) }) × (output_after m out ≡ out)
encode_short = encoded_short

pub encode_refused : (m : Mesh) (out : List ℕ) (number place : ℕ) → mesh_answer m ≡ Refused number place
    → (encoded m (length out) ≡ record { length = 0; answer = Refused number place }) × (output_after m out ≡ out)
encode_refused = encoded-refused

-- ---- demand 2: reading and writing are inverse (contracts: crates/codec/src/lib.rt)

-- decoding what was encoded gives the mesh back
pub decode_encode : (m : Mesh) (out : List ℕ) → InRange m → (encoded m (length out)).answer ≡ Accepted
    → decoded (take (encoded m (length out)).length (output_after m out)) ≡ record { mesh = m; answer = Accepted }
decode_encode = decoded_output

-- encoding what was decoded gives the book back, and leaves the bytes past it
pub encode_decode : (s out : List ℕ) → AreBytes s → (decoded s).answer ≡ Accepted → length s ≤ length out
    → (encoded (decoded s).mesh (length out) ≡ record { length = length s; answer = Accepted })
    × (output_after (decoded s).mesh out ≡ s ++ drop (length s) out)
encode_decode = output_decoded

-- each mesh that passes the checks has one book
pub book_unique : (m : Mesh) → InRange m → mesh_answer m ≡ Accepted → (s : List ℕ) → AreBytes s
    → (decoded s ≡ record { mesh = m; answer = Accepted }) ↔ (s ≡ book_of m)
book_unique = one_book

-- what is decoded passes the checks, and its fields are in range
pub decode_checked : (s : List ℕ) → (decoded s).answer ≡ Accepted → mesh_answer (decoded s).mesh ≡ Accepted
decode_checked = decoded-accepted

pub decode_in_range : (s : List ℕ) → AreBytes s → (decoded s).answer ≡ Accepted → InRange (decoded s).mesh
decode_in_range = decoded_in_range

-- showing the record of a link in the book of a mesh is accepted, and its bytes are that link's record after the link before
pub record_stands : (m : Mesh) → InRange m → mesh_answer m ≡ Accepted → (k : ℕ) → k < m.count
    → (span_answer (book_of m) k ≡ Accepted) × (record_part (book_of m) k ≡ record_of (previous m k) (entry m k))
record_stands = record_shown

-- a book has at most 2,820 bytes
pub longest_book_lem : longest_book ≡ 2820
longest_book_lem = refl

pub book-length : (m : Mesh) → mesh_answer m ≡ Accepted → length (book_of m) ≤ longest_book
book-length = book_most

pub accepted-length : (s : List ℕ) → AreBytes s → (decoded s).answer ≡ Accepted → length s ≤ longest_book
accepted-length = accepted_most

-- what stands past the first 4,096 bytes of an input changes nothing: a longer input is refused (`accepted-length`), with the same number at the same
-- place
pub long_input : (s : List ℕ) → decoded (take 4096 s) ≡ decoded s
long_input s = decoded-take 4096 s (omega arith)

-- ---- demand 3, first sentence, and demand 2's plan (contract: crates/planner/src/lib.rt, `plan`)

-- planning refuses a mesh that passes the checks exactly when some two nodes have no path between them, or have none once some one link is
-- taken away
pub plan-refused : (m : Mesh) → mesh_answer m ≡ Accepted
    → ((number : ℕ) × (place : ℕ) × ((planned m).answer ≡ Refused number place))
    ↔ (Parted (net_of m) both_ways ⊎ ((k : ℕ) × (k < m.count) × Parted (net_of m) (without k both_ways)))
plan-refused = plan-refuses

-- when it accepts, its directions are admissible, no admissible assignment stands before them, and the entries past the last link are zero
pub plan-accepted : (m : Mesh) → (planned m).answer ≡ Accepted → FirstPlan m
plan-accepted = plan-first

-- each refusal has its own condition, and its place is the lowest such node or link
pub plan_places : (m : Mesh) (number place : ℕ) → mesh_answer m ≡ Accepted → (planned m).answer ≡ Refused number place
    → ((number ≡ 20) × NoPath (net_of m) place) ⊎ ((number ≡ 21) × LinkParts (net_of m) place)
plan_places = plan-numbers

-- there is only one such assignment
pub plan_unique : (m : Mesh) (p q : List ℕ) → First (net_of m) p → First (net_of m) q → p ≡ q
plan_unique m = first_unique

-- ---- demand 1: a session's record (contracts: crates/recovery/src/lib.rt, the calls of `Session`)

-- a start accepts exactly a well-formed mesh with a well-formed plan; any other is refused on its own condition
pub start-accepts : (m : Mesh) (p : Plan) → InRange m → (start_answer m p ≡ Accepted) ↔ (WellFormed m × PlanFormed m p)
start-accepts m p r = start_formed m p r.entries

pub start-refuses : (m : Mesh) (p : Plan) (number place : ℕ) → start_answer m p ≡ Refused number place → formed.Refusal m (PlanFormed m p) number place
start-refuses m p number place = refused-start m p

-- the test of a session's record accepts exactly the well-formed ones
pub record_accepts : (s : Session) → InRange s.mesh → (record_answer s ≡ Accepted) ↔ Formed s
record_accepts s r = record_formed s r.entries

-- it refuses with the mesh's own refusal, or with 13 at 0 where the mesh is accepted and the record is ill-formed
pub record_refuses : (s : Session) (number place : ℕ) → record_answer s ≡ Refused number place → formed.Refusal s.mesh (Formed s) number place
record_refuses s number place = refused_record s

-- a refused call leaves the session as it was, by value or in place, whatever the session
pub refused_unaltered : (c : Call) (s : Session) → refused c (reply c s) ≡ true → next c s ≡ s
refused_unaltered = refused_keeps

-- a call first tests its record: where that is refused, every call answers with the same number and place
pub call-refuses : (s : Session) (number place : ℕ) → record_answer s ≡ Refused number place → (c : Call) → reply c s ≡ refused_at c number place
call-refuses = record_refusal-answers

-- ---- demand 2: the recovery calls, on every session (contracts: crates/recovery/src/lib.rt and crates/in_place/src/lib.rt)

-- on any session whose record is accepted, whatever led to it, every call, by value or in place, refused or not, does what 01's and 02's rules say: they give
-- its answer, and the cut, states and reached nodes of the session that it returns or leaves, on the same mesh and plan
pub call-follows : (s : Session) → Sized s → record_answer s ≡ Accepted → (c : Call) → CallFollows s c
call-follows = call_as_ruled

-- ---- demand 3, over every list of calls (contracts: crates/recovery/src/lib.rt, the calls of `Session`, and crates/in_place/src/lib.rt, those
-- of them on a session that the host lends; crates/lists/src/lib.rt, `make_calls`, by which programs make such a list)

-- after any list of calls, by value and in place in any mix and refused ones included, from the session that a start on a planned mesh and its plan gives: on
-- each wavelength alone, at most 2 × (L - 1) deliveries of its own since the cut that stands, accepted exactly where a link is under way on it, and with nothing
-- under way on it, whatever the other does, one simple path from its x to its y; the session and every answer are those that 01's and 02's rules make of the
-- list alone
pub demand_three : (m : Mesh) → InRange m → (planned m).answer ≡ Accepted → (calls : List Call) → Demand3 m calls
demand_three m r = demand_3 m r.entries

-- and the route query on that wavelength is then accepted and gives that path, whatever the other does
pub demand_three_route : (m : Mesh) → InRange m → (planned m).answer ≡ Accepted → (calls : List Call) (k : ℕ)
    → (log m calls).cut ≡ Link k → (w : Wavelength) → AtRest (ended m calls) w → Routes (ended m calls) w k
demand_three_route m r = demand_route m r.entries

-- ---- 02, request 1: the fibre length of the route, over every list of calls (contract: crates/recovery/src/lib.rt, `Session::status`)

-- at rest on both wavelengths under a cut, after any list of calls: a status of any link on either wavelength answers, with no link under way, a route length
-- that is known exactly where every link that the route query on that wavelength gives is measured, and is then the sum of their lengths. By
-- `demand_three_route` these links are the one simple path
pub demand_three_length : (m : Mesh) → InRange m → (planned m).answer ≡ Accepted → (calls : List Call) (k : ℕ)
    → (log m calls).cut ≡ Link k → ((w : Wavelength) → AtRest (ended m calls) w) → (w : Wavelength) → Measured (ended m calls) w
demand_three_length m r = demand_length m r.entries

-- ---- 02, request 2: the other wavelength, over every list of calls

-- on wavelength 2 the ends of a link's back-up arc, and so x and y, change places
pub ends_exchanged : (s : Session) (k : ℕ)
    → ((digraph s wavelengths.Second).head k ≡ (digraph s wavelengths.First).tail k) × ((digraph s wavelengths.Second).tail k ≡ (digraph s wavelengths.First).head k)
ends_exchanged s k = (refl, refl)

-- the wavelengths do not disturb each other: what a list makes of one wavelength, its states, its reached nodes and its deliveries in order, is what its calls
-- on that wavelength alone make, the cut that stands and one delivery call for each of these deliveries
pub wavelengths_undisturbed : (m : Mesh) → InRange m → (planned m).answer ≡ Accepted → (calls : List Call) (w : Wavelength) → Undisturbed m calls w
wavelengths_undisturbed m r = undisturbed m r.entries

-- a run's deliveries on one wavelength, taken alone, are those of a run of that wavelength
pub run_alone : (m : Mesh) → InRange m → (planned m).answer ≡ Accepted → (calls : List Call) (w : Wavelength) (a : ℕ) → RunsAlone m calls w a
run_alone m r = runs_alone m r.entries

-- under a cut a run with an allowance of at least four for each link is, on each wavelength, the whole run of that wavelength alone, and nothing is under way
-- after it
pub run-unhindered : (m : Mesh) → InRange m → (planned m).answer ≡ Accepted → (calls : List Call) (k : ℕ)
    → (log m calls).cut ≡ Link k → (a : ℕ) → 4 * m.count ≤ a → (w : Wavelength) → RunsOut m calls w a
run-unhindered m r = runs_out m r.entries

-- the states of a wavelength's links tell how many deliveries were made on it since the cut: so `meshplan` counts those of wavelength 1 (contract:
-- crates/clients/src/session.rt, `recover`; its number by the list of calls: crates/clients/specs/Laws/Shown.antt)
pub deliveries-told : (m : Mesh) → InRange m → (planned m).answer ≡ Accepted → (calls : List Call) (k : ℕ)
    → (log m calls).cut ≡ Link k → (w : Wavelength) → had_on (ended m calls) w ≡ deliveries_on w (log m calls)
deliveries-told m r = had-made m r.entries

-- ---- 02, request 3: upgrading a lit mesh (contracts: crates/legacy/src/lib.rt, `check`; crates/upgrade/src/lib.rt, `carry_over`)

-- the test of the record from before wavelength 2 accepts exactly the well-formed ones, and refuses any other on its own condition, at its own place
pub old_record_accepts : (s : OldSession) → oldRecord.InRange s.mesh → (oldTest.record_answer s ≡ Accepted) ↔ oldRecord.Formed s
old_record_accepts = oldForming.record_formed

pub old_record_refuses : (s : OldSession) → oldRecord.InRange s.mesh → (number place : ℕ)
    → oldTest.record_answer s ≡ Refused number place → oldRecord.Refusal s number place
old_record_refuses s r number place = oldForming.refused_record s r

-- every call from before wavelength 2 was refused just so, but that links with the same ends met 8 (02, request 7)
pub old_call-refuses : (s : OldSession) (number place : ℕ) → oldTest.record_answer s ≡ Refused number place
    → (c : oldCalls.Call) → oldCalls.answer c s ≡ Refused number place
old_call-refuses s number place = call-refused s

-- and so is a carry-over, which gives then what every refused start gives
pub carry_over-refuses : (s : OldSession) (number place : ℕ) → oldTest.record_answer s ≡ Refused number place
    → ((carried s).answer ≡ Refused number place)
    × ((m : Mesh) (p : Plan) (n q : ℕ) → start_answer m p ≡ Refused n q → (carried s).session ≡ (started m p).session)
carry_over-refuses s number place = refused_as_start s

-- else it is accepted: mesh, plan, cut and wavelength 1 are the old ones, no link has a duct, and wavelength 2 is as in a fresh session or as just after the cut that stands
pub carry_over_keeps : (s : OldSession) → oldTest.record_answer s ≡ Accepted → Keeps s (carried s).session
carry_over_keeps = carried_keeps

-- what it gives passes its own record test, whatever led to the old session
pub carry_over_passes : (s : OldSession) → oldRecord.InRange s.mesh → oldTest.record_answer s ≡ Accepted
    → ((carried s).answer ≡ Accepted) × (record_answer (carried s).session ≡ Accepted)
carry_over_passes = carried_passes

-- the recovered route is not dropped: right after it the route query on wavelength 1 gives the answer and the links that the query gave before
pub carry_over_route : (s : OldSession) → oldRecord.InRange s.mesh → oldTest.record_answer s ≡ Accepted
    → routed (carried s).session 1 ≡ routed_as (oldCalls.route_answer s) (oldCalls.route_of s)
carry_over_route = route_kept

-- after any list of old calls from a fresh old session on its mesh's plan, the carry-over, and any list of calls of now: all of demand 3 on each wavelength,
-- where wavelength 1's deliveries since the cut that stands count those before the carry-over, and wavelength 2's start there at 0
pub demand_three_carried : (m : OldMesh) → oldRecord.InRange m → Planned m → (olds : List oldCalls.Call) (calls : List Call) → CarriedOver m olds calls
demand_three_carried = demand_carried

-- and the session and the log are those of one list of calls of now from a start on that mesh and its plan: the cut that stands, a delivery on wavelength 1 for
-- each made since it, and the later calls. So the theorems above on such lists speak of it too
pub carry_over-replayed : (m : OldMesh) → oldRecord.InRange m → Planned m → (olds : List oldCalls.Call) (calls : List Call) → Replays m olds calls
carry_over-replayed = replayed-same

-- ---- 02, request 4: duct numbers (contract: crates/ducts/src/lib.rt, `sharing`; in the book: the theorems on reading and writing above)

-- the query's list holds exactly the links that share the duct of the named link, that one included, each once, in rising order
pub ducts_listed : (m : Mesh) (k : ℕ) → k < m.count → Lists m k (sharing m k)
ducts_listed = sharing_lists

-- it is the same list, in the same order, for every link of the duct
pub ducts_same : (m : Mesh) (k i : ℕ) → k < m.count → Memᴰ i (sharing m k) → sharing m i ≡ sharing m k
ducts_same = sharing-same

-- and the link by itself where it has no duct
pub ducts_alone : (m : Mesh) (k : ℕ) → k < m.count → duct m k ≡ 0 → sharing m k ≡ k ∷ []
ducts_alone = sharing-alone

-- the query accepts exactly a mesh that passes the checks, a link of it and an output with an entry for each link that is listed; these are never more than
-- there are links
pub ducts_accepts : (m : Mesh) (k room : ℕ)
    → ((shared m k room).answer ≡ Accepted) ↔ ((mesh_answer m ≡ Accepted) × (k < m.count) × (length (sharing m k) ≤ room))
ducts_accepts = query.accepts_exactly

pub ducts_most : (m : Mesh) (k : ℕ) → length (sharing m k) ≤ m.count
ducts_most = sharing_most

-- then the answer has the list's number, the list stands at the front of the output, and the entries past it are as they were
pub ducts_written : (m : Mesh) (k : ℕ) (out : List ℕ) → (shared m k (length out)).answer ≡ Accepted
    → ((shared m k (length out)).count ≡ length (sharing m k))
    × (take (length (sharing m k)) (ducts.output_after m k out) ≡ sharing m k)
    × (drop (length (sharing m k)) (ducts.output_after m k out) ≡ drop (length (sharing m k)) out)
ducts_written = query.accepted_writes

-- it refuses exactly on 02's conditions, each at its own place; no link is counted then, and the output stays as it was
pub ducts_refuses : (m : Mesh) (k room number place : ℕ) → ((shared m k room).answer ≡ Refused number place) ↔ ductQuery.Refusal m k room number place
ducts_refuses = query.refuses_exactly

pub ducts_refused : (m : Mesh) (k : ℕ) (out : List ℕ) (number place : ℕ) → (shared m k (length out)).answer ≡ Refused number place
    → ((shared m k (length out)).count ≡ 0) × (ducts.output_after m k out ≡ out)
ducts_refused = query.refusal-told

-- neither the plan nor the back-up arcs depend on ducts, nor on lengths and fibre pairs
pub plan_by_ends : (m m' : Mesh) → SameEnds m m' → mesh_answer m ≡ Accepted → mesh_answer m' ≡ Accepted → planned m ≡ planned m'
plan_by_ends = planned_by_ends

pub arcs_by_ends : (m m' : Mesh) → SameEnds m m' → mesh_answer m ≡ Accepted → mesh_answer m' ≡ Accepted
    → (p : Plan) (w : Wavelength) → backup_on w m p ≡ backup_on w m' p
arcs_by_ends = backup_by_ends

-- a book with ducts read, the query on its mesh, and damaged records with the new field
pub ducts_bench : ductRows.Holds
ducts_bench = ductsComputed.computed

-- ---- 02, request 5: the collection route (contract: crates/collection/src/lib.rt, `collect`)

-- the search is the one that 02 describes: the equations of visiting a node and of following its links, without the number that bounds their definition
pub collection_searches : (m : Mesh) → mesh_answer m ≡ Accepted → Searches (net_of m)
collection_searches m ok = searches (net_of m) (fits m ok)

-- from every root of every mesh that passes the checks and is connected:
module _ (m : Mesh) (ok : mesh_answer m ≡ Accepted) (root : ℕ) (inside : root < m.nodes) (r : InRange m) (c : Connected m) where
  -- 2 × N - 1 entries, the root first and last
  pub collection-entries :
      (length (route_of m root) ≡ 2 * m.nodes - 1) × (at (route_of m root) 0 ≡ root) × (at (route_of m root) (2 * m.nodes - 2) ≡ root)
  collection-entries = let f = collects m ok root inside r c in (f.entries, f.first, f.last)

  -- each entry and the next are the ends of a tree link, which the walk crosses from the one to the other. Crossings are of links, so that two links between the same
  -- nodes are not taken for one
  pub collection_along : (j : ℕ) → suc j < length (route_of m root)
      → Crosses (net_of m) (labels_of m root) (crossing (crossings (net_of m) root (tree_of m root)) j) (at (route_of m root) j) (at (route_of m root) (suc j))
  collection_along = goes_each (collects m ok root inside r c).along

  -- each tree link is crossed once each way, and no other link
  pub collection_crossed : (i : ℕ) (d : Bool) → times i d (crossings (net_of m) root (tree_of m root)) ≡ bit (has (labels_of m root) i)
  collection_crossed = (collects m ok root inside r c).once

  -- the tree links are N - 1 and join all nodes, and past the last link the labels say not
  pub collection-tree :
      (count (has (labels_of m root)) m.count ≡ m.nodes - 1)
      × Strong (net_of m) (λ i d. has (labels_of m root) i)
      × ((i : ℕ) → m.count ≤ i → has (labels_of m root) i ≡ false)
  collection-tree = let f = collects m ok root inside r c in (f.number, f.joined, f.past)

  -- every node but the root is met, and by one path, which leads from the root along tree links; its nodes are the ancestors of that node
  pub collection_met : (w : ℕ) → w < m.nodes → w ≢ root → MetBy (net_of m) (labels_of m root) root (tree_of m root) w
  collection_met = (collects m ok root inside r c).met

  -- every link, so every one that is not of the tree, joins a node to one of its ancestors
  pub collection_ancestors : (i : ℕ) → i < m.count
      → Ancestor (link m i).low (link m i).high root (tree_of m root) ⊎ Ancestor (link m i).high (link m i).low root (tree_of m root)
  collection_ancestors = (collects m ok root inside r c).ancestors

-- the call accepts exactly a mesh that passes the checks and is connected, a root that is a node, and an output with an entry for each of the route
pub collection_accepts : (m : Mesh) (root room : ℕ)
    → ((collected m root room).answer ≡ Accepted) ↔ ((mesh_answer m ≡ Accepted) × (root < m.nodes) × Connected m × (needed m ≤ room))
collection_accepts = asking.accepts_exactly

-- then the answer has the labels and the route's number of entries, the route stands at the front of the output, and the entries past it are as they were
pub collection_written : (m : Mesh) (root : ℕ) (out : List ℕ) → InRange m → (collected m root (length out)).answer ≡ Accepted
    → ((collected m root (length out)).tree ≡ labels_of m root)
    × ((collected m root (length out)).count ≡ needed m)
    × (take (needed m) (collection.output_after m root out) ≡ route_of m root)
    × (drop (needed m) (collection.output_after m root out) ≡ drop (needed m) out)
collection_written = asking.accepted_writes

-- it refuses exactly on 02's conditions, each at its own place; no link is labelled and no entry counted then, and the output stays as it was
pub collection_refuses : (m : Mesh) (root room number place : ℕ)
    → ((collected m root room).answer ≡ Refused number place) ↔ collectionQuery.Refusal m root room number place
collection_refuses = asking.refuses_exactly

pub collection_refused : (m : Mesh) (root : ℕ) (out : List ℕ) (number place : ℕ) → (collected m root (length out)).answer ≡ Refused number place
    → ((collected m root (length out)).tree ≡ no_labels) × ((collected m root (length out)).count ≡ 0) × (collection.output_after m root out ≡ out)
collection_refused = asking.refusal-told

-- document 000's route, with the path to one of its nodes, the same mesh from another root, two nodes with a link, and each refusal
pub collection_bench : collectionRows.Holds
collection_bench = collectionComputed.computed

-- ---- 02, request 6: how many deliveries, over every list of calls

-- under a cut, with nothing under way on a wavelength after any list of calls, whatever the other does: it has had exactly 2 × P - Q deliveries of its own since
-- the cut, where P counts the links that the rules ever offered on it since, and Q the links that the route query on it gives, by `demand_three_route` the one
-- simple path
pub deliveries_exact : (m : Mesh) → InRange m → (planned m).answer ≡ Accepted → (calls : List Call) (k : ℕ)
    → (log m calls).cut ≡ Link k → (w : Wavelength) → AtRest (ended m calls) w
    → deliveries_on w (log m calls) + length (recovery.route_of (ended m calls) w) ≡ 2 * offered_on m calls w
deliveries_exact m r = made_exactly m r.entries

-- a link is counted in P exactly where it is offered after the cut and some first ones of that wavelength's own deliveries since, made alone
pub deliveries-offered : (m : Mesh) → InRange m → (planned m).answer ≡ Accepted → (calls : List Call) (k : ℕ)
    → (log m calls).cut ≡ Link k → (w : Wavelength) (i : ℕ)
    → (offered (digraph_on m) calls start none_offered w i ≡ true) ↔ EverOffered m w k (made_on w (log m calls)) i
deliveries-offered m r = offered_ever m r.entries

-- at every rest under the same cut the same links were ever offered, in whatever order the deliveries were made, so that P is the same; Q need not be
pub deliveries-same : (m : Mesh) → InRange m → (planned m).answer ≡ Accepted → (calls others : List Call) (k : ℕ)
    → (log m calls).cut ≡ Link k → (log m others).cut ≡ Link k → (w : Wavelength) → AtRest (ended m calls) w → AtRest (ended m others) w
    → ((i : ℕ) → i < m.count → offered (digraph_on m) calls start none_offered w i ≡ offered (digraph_on m) others start none_offered w i)
    × (offered_on m calls w ≡ offered_on m others w)
deliveries-same m r = offered-same m r.entries

-- at any time, at rest or not, it has had at most 2 × L - 3 (02, request 7), and after so many nothing is under way on it
pub deliveries_most : (m : Mesh) → InRange m → (planned m).answer ≡ Accepted → (calls : List Call) (k : ℕ)
    → (log m calls).cut ≡ Link k → (w : Wavelength) → deliveries_on w (log m calls) + 3 ≤ 2 * m.count
deliveries_most m r = made_most m r.entries

pub deliveries-all : (m : Mesh) → InRange m → (planned m).answer ≡ Accepted → (calls : List Call) (k : ℕ)
    → (log m calls).cut ≡ Link k → (w : Wavelength) → deliveries_on w (log m calls) + 3 ≡ 2 * m.count → AtRest (ended m calls) w
deliveries-all m r = made_all m r.entries

-- and at most 2 × L - 4 where no other link joins the ends of the cut one, so that every route has two links or more
pub deliveries-single : (m : Mesh) → InRange m → (planned m).answer ≡ Accepted → (calls : List Call) (k : ℕ)
    → (log m calls).cut ≡ Link k → OnlyLink m k → (w : Wavelength) → deliveries_on w (log m calls) + 4 ≤ 2 * m.count
deliveries-single m r = made_most_only m r.entries

-- ---- 02, request 6: the heaviest drill (contracts: crates/heaviest/src/lib.rt, `read` and `drill`)

-- an input asks for m exactly where it is m, from 1 to 62, in decimal without leading zeros, with or without one line feed after it; any other is refused
pub drill-asked : (s : List ℕ) (m : ℕ) → (asked s ≡ Middles m) ↔ Names s m
drill-asked = asked-names

pub drill-refused : (s : List ℕ) → (asked s ≡ drills.Refused) ↔ ((m : ℕ) → ¬ Names s m)
drill-refused = refused-names

-- what stands past the first four bytes of an input changes nothing: the program reads no more
pub drill_long_input : (s : List ℕ) → asked (take 4 s) ≡ asked s
drill_long_input = asked-take 4 (omega arith)

-- for any number other than 1 to 62 the library makes the all-zero mesh, which every call refuses
pub drill_else : (m : ℕ) → (m ≡ 0) ⊎ (62 < m) → drill_of m ≡ zero_mesh
drill_else = drill_none

-- for every m from 1 to 62:
module _ (m : ℕ) (some : 1 ≤ m) (most : m ≤ 62) where
  -- what the library makes is the drill, whose fields are in range and which passes the mesh checks
  pub drill_checked : (drill_of m ≡ drill m) × InRange (drill m) × (mesh_answer (drill m) ≡ Accepted)
  drill_checked = (drill_of_lem m some most, drill_in_range m most, drill-accepted m most)

  -- so its book is written wherever there is room for the longest one
  pub drill-book : (out : List ℕ) → longest_book ≤ length out
      → (encoded (drill m) (length out) ≡ record { length = length (book_of (drill m)); answer = Accepted })
      × (output_after (drill m) out ≡ book_of (drill m) ++ drop (length (book_of (drill m))) out)
  drill-book out room = encoded_done (drill m) out (drill-accepted m most) (omega (arith, book_most (drill m) (drill-accepted m most)))

  -- it is planned, with the directions 0 1 0 1 .. 0
  pub drill-plan : planned (drill m) ≡ record { plan = padded (alternating (2 * m + 1)); answer = Accepted }
  drill-plan = drill-planned m some most

  -- no other link joins the ends of its last one
  pub drill-single : OnlyLink (drill m) (2 * m)
  drill-single = outer_only m some most

  -- while the cut of its last link stands, after any list of calls: a wavelength is at rest exactly after 4 × m - 2 deliveries of its own, on wavelength 1 and on
  -- wavelength 2. It comes to rest in every order: by `demand_three` a further delivery is accepted while a link is under way, and by `deliveries-single` there
  -- are never more than these
  pub drill-deliveries : (calls : List Call) → (log (drill m) calls).cut ≡ Link (2 * m) → (w : Wavelength)
      → AtRest (ended (drill m) calls) w ↔ (deliveries_on w (log (drill m) calls) ≡ 4 * m - 2)
  drill-deliveries = drill-calls m some most

  -- its route has two links then
  pub drill_route : (calls : List Call) → (log (drill m) calls).cut ≡ Link (2 * m) → (w : Wavelength)
      → AtRest (ended (drill m) calls) w → length (recovery.route_of (ended (drill m) calls) w) ≡ 2
  drill_route = two_links m some most

  -- 4 × m - 2 is 2 × L - 4: the bound of `deliveries-single` is reached
  pub drill-reaches : 4 * m - 2 ≡ 2 * (drill m).count - 4
  drill-reaches = omega arith

-- P1's book and that of two middle nodes, inputs of each kind, and the links ever offered on the drill with two middle nodes, by the rules
pub drill_bench : drillRows.Holds
drill_bench = drillComputed.computed

-- ---- 02, request 7: two fibres between the same nodes. What stands above of the mesh checks, the book, the plan, the calls, the carry-over, the duct query and the
-- collection route is for meshes with any number of links between the same nodes

-- of a link with the ends low and high after one with the ends plow and phigh, in a mesh and in a book alike, 8 is the answer exactly where its ends are two of n
-- nodes, the low one first, and its pair is below that of the previous one
pub order-refuses : (n plow phigh low high place : ℕ)
    → (ends_answer n plow phigh low high place ≡ Refused 8 place) ↔ ((low < high) × (high < n) × Below plow phigh low high)
order-refuses = order-refused

-- the checks, reading and planning by an order test on neighbouring pairs: by the test of now they are the library's
pub ordered-now :
    ((m : Mesh) → mesh_answer_by follows m ≡ mesh_answer m)
    × ((s : List ℕ) → decoded_by follows s ≡ decoded s)
    × ((m : Mesh) → planned_by follows m ≡ planned m)
ordered-now = (mesh-now, decoded-now, planned-now)

-- a book that was accepted by the test from before is read as the same mesh
pub earlier_books : (s : List ℕ) → (decoded_by strictly_follows s).answer ≡ Accepted → decoded s ≡ decoded_by strictly_follows s
earlier_books = decoded_still

-- and planned as it was; such a book is exactly one that is accepted now and whose mesh passes the checks by that test
pub earlier_books_planned : (s : List ℕ) → (decoded_by strictly_follows s).answer ≡ Accepted
    → planned (decoded s).mesh ≡ planned_by strictly_follows (decoded_by strictly_follows s).mesh
earlier_books_planned = book-plan

pub earlier_books_exactly : (s : List ℕ)
    → ((decoded_by strictly_follows s).answer ≡ Accepted) ↔ (((decoded s).answer ≡ Accepted) × (mesh_answer_by strictly_follows (decoded s).mesh ≡ Accepted))
earlier_books_exactly = decoded_exactly

-- a mesh that passed the checks by that test passes them, and planning gives it the plan, or the refusal, that it gave
pub earlier_plans : (m : Mesh) → mesh_answer_by strictly_follows m ≡ Accepted → (mesh_answer m ≡ Accepted) × (planned m ≡ planned_by strictly_follows m)
earlier_plans m e = (mesh_still m e, planned_still m e)

-- these meshes are exactly those that pass now and in which no two links have the same ends
pub earlier_meshes : (m : Mesh) → InRange m → (mesh_answer_by strictly_follows m ≡ Accepted) ↔ ((mesh_answer m ≡ Accepted) × ((k : ℕ) → k < m.count → OnlyLink m k))
earlier_meshes m r = mesh_exactly m r.entries

-- where links i and k have the same ends, the removal of k does not part m, and planning does not refuse m with 21 at k
module _ (m : Mesh) (i k : ℕ) (inside : i < m.count) (other : i ≢ k) (low : (link m i).low ≡ (link m k).low) (high : (link m i).high ≡ (link m k).high) where
  pub doubled_joined : Strong (net_of m) both_ways → Strong (net_of m) (without k both_ways)
  doubled_joined = joined-without (net_of m) inside other low high

  pub doubled_no_bridge : mesh_answer m ≡ Accepted → (planned m).answer ≢ Refused 21 k
  doubled_no_bridge ok = never_parts m ok i k inside other low high

-- in the plan each but the last of the links between the same nodes runs from low to high; the last may run back, and then the span runs both ways
pub doubled_directions : (m : Mesh) → InRange m → (planned m).answer ≡ Accepted → (i k : ℕ) → i < k → k < m.count
    → (link m i).low ≡ (link m k).low → (link m i).high ≡ (link m k).high → at (planned m).plan.directions i ≡ 0
doubled_directions = doubled_zero

-- two nodes with two links, whatever their lengths, fibre pairs and ducts:
module _ (m : Mesh) (r : InRange m) (ok : mesh_answer m ≡ Accepted) (nodes : m.nodes ≡ 2) (links : m.count ≡ 2) where
  -- the plan is 0 1: the span runs both ways
  pub two_nodes_plan : planned m ≡ record { plan = padded (0 ∷ 1 ∷ []); answer = Accepted }
  two_nodes_plan = two-planned m r.entries ok nodes links

  -- whichever link is cut, after any list of calls a wavelength is at rest exactly after one delivery of its own, which is 2 × L - 3, and its route is the other
  -- link. It comes to rest in every order: by `demand_three` a delivery is accepted while a link is under way, and by `deliveries_most` there is never a second
  pub two_nodes_deliveries : (calls : List Call) (k : ℕ) → (log m calls).cut ≡ Link k → (w : Wavelength)
      → AtRest (ended m calls) w ↔ (deliveries_on w (log m calls) ≡ 1)
  two_nodes_deliveries = two-calls m r.entries ok nodes links

  pub two_nodes_route : (calls : List Call) (k : ℕ) → (log m calls).cut ≡ Link k → (w : Wavelength)
      → AtRest (ended m calls) w → recovery.route_of (ended m calls) w ≡ (1 - k) ∷ []
  two_nodes_route = two_route m r.entries ok nodes links

  pub two_nodes_reach : 1 ≡ 2 * m.count - 3
  two_nodes_reach = omega arith

-- books, plans and collection routes of small meshes with doubled and tripled spans, and pairs below the previous one
pub doubled_bench : doubledRows.Holds
doubled_bench = doubledComputed.computed

-- ---- the survey of a mesh: all that stands behind refusals 20 and 21 (contract: crates/bridges/src/lib.rt)

-- it refuses by the mesh checks alone, and then gives all zeros
pub survey_answer_lem : (m : Mesh) → (surveyed m).answer ≡ mesh_answer m
survey_answer_lem = surveying.survey_answer_lem

pub survey_refused : (m : Mesh) {number place : ℕ} → mesh_answer m ≡ Refused number place
    → surveyed m ≡ record { parts = replicate 64 0; bridges = replicate 256 0; answer = Refused number place }
survey_refused = surveying.survey_refused

-- of a mesh that passes the checks:
module _ (m : Mesh) (ok : mesh_answer m ≡ Accepted) where
  -- each node is given the lowest node of its part, so that two nodes have a path between them exactly where they are given the same
  pub survey_parts : (v : ℕ) → v < m.nodes → PartOf (net_of m) v (at (surveyed m).parts v)
  survey_parts = surveying.parts-told m ok

  pub survey_joined : (u v : ℕ) → u < m.nodes → v < m.nodes → (at (surveyed m).parts u ≡ at (surveyed m).parts v) ↔ Leads (net_of m) both_ways u v
  survey_joined = surveying.parts-joined m ok

  -- a link is marked 1 exactly where no path joins its ends without it, which in a mesh that holds together is where its removal parts the mesh; any other is 0
  pub survey_bridges : (k : ℕ) → k < m.count → (at (surveyed m).bridges k ≡ 1) ↔ Bridges (net_of m) k
  survey_bridges = surveying.bridges_told m ok

  pub survey_parting : Strong (net_of m) both_ways → (k : ℕ) → k < m.count → (at (surveyed m).bridges k ≡ 1) ↔ Parted (net_of m) (without k both_ways)
  survey_parting = surveying.bridges_part m ok

  -- in any mesh it is where its removal leaves some two nodes without a path that have one
  pub survey_parting_own : (k : ℕ) → k < m.count → (at (surveyed m).bridges k ≡ 1)
      ↔ ((u : ℕ) × (v : ℕ) × (u < m.nodes) × (v < m.nodes) × Leads (net_of m) both_ways u v × (Leads (net_of m) (without k both_ways) u v → ⊥))
  survey_parting_own = surveying.bridges_part_own m ok

  pub survey_else : (k : ℕ) → at (surveyed m).bridges k ≤ 1
  survey_else = surveying.bridges_else m ok

  -- zeros past the last node and past the last link
  pub survey_past : ((v : ℕ) → m.nodes ≤ v → at (surveyed m).parts v ≡ 0) × ((k : ℕ) → m.count ≤ k → at (surveyed m).bridges k ≡ 0)
  survey_past = surveying.survey_past m ok

-- planning answers what follows from the survey: 20 with the lowest node in another part than node 0, else 21 with the lowest bridge, else accepted
pub survey_verdict : (m : Mesh) → (planned m).answer ≡ verdict m (surveyed m)
survey_verdict = surveying.survey_verdict

-- a path, two parts with a bridge each beside a triangle and a doubled link, no links, a ring, and a refused mesh
pub survey_bench : surveyRows.Holds
survey_bench = surveyComputed.computed

-- ---- the functions for C and Rust (contracts: crates/covetureen/src, crates/one_cut/src/lib.rt)

-- where planning accepts a mesh and link k is one of its links, what `one_cut` gives is what demand 3 says of the list "cut k, run": link k is cut, nothing is under
-- way on either wavelength, the route is wavelength 1's one simple path with its length, and the deliveries are its own
pub one_cut : (m : Mesh) → InRange m → (planned m).answer ≡ Accepted → (k : ℕ) → k < m.count → CutOnce m k
one_cut = cut_once

-- naming a link is accepted exactly where there is one, and else refused with 12 at its number
pub named_link : (count k : ℕ) → (k < count → link_answer count k ≡ Accepted) × (count ≤ k → link_answer count k ≡ Refused 12 k)
named_link count k = (λ h. rw (lt-ltb k count h), λ h. rw (le-ltb k count h))

-- ---- 01's bench examples marked P

-- every row of the table holds
pub bench : (r : Row) → Memᴰ r table → Holds r
bench = row-holds

-- by the calls from before wavelength 2: P2, P6 and P7 come out so, row by row, and each call is refused as 01 orders it
pub old-bench :
    (map oldRows.outcome_of oldRows.table ≡ map (λ (r : oldRows.Row). r.outcome) oldRows.table)
    × (map oldRows.answer_to oldRows.questions ≡ map (λ (q : oldRows.Question). q.answered) oldRows.questions)
old-bench = oldComputed.computed

-- P7 by these calls, on lengths and fibre pairs, carried over and let run: the route and its length on each wavelength
pub carried_bench : carriedRows.Holds
carried_bench = carriedComputed.computed
