-- The carried-over session: what the carry-over gives where the old record is refused and where it is accepted; that wavelength 2 is as after a start and the
-- cut that stands; that it passes its own record test where the old one passed its, and the other way round where the old mesh is accepted; and that the route
-- query on wavelength 1 gives what it gave before.
-- Assumes the ranges of the old mesh's fields where the mesh of now is tested.
use Rattle.std.specs.Prelude.{ℕ, ◌<◌, ◌≤◌, ◌≡◌, refl, Bool, true, false, not, ◌||◌, eqb, Err}
use Rattle.std.proofs.Math.Path.{sym, ap}
use Rattle.std.proofs.Common.{◌∙◌, arith, lt-ltb}
use Rattle.std.proofs.Math.Bool.{cond}
use mathlib.Core.List.{[]}
use Rattle.scan.specs.Test.{branch, clash, not_says, or_false}
use Rattle.scan.specs.Entry.{at}
use Rattle.flood.specs.declared.Flood.{Flood}
use Rattle.flood.specs.Digraph.{Digraph}
use Rattle.flood.specs.Digraph as failures
use Rattle.flood.specs.Machine as machine
use Rattle.flood.specs.Machine.{fresh, Blank}
use Rattle.flood.specs.Topology.{route_from}
use Rattle.flood.specs.Laws.Begin.{fresh_blank, begin-reached, begin_states, begin-at_most_1}
use Rattle.wavelengths.specs.declared.Wavelength.TheVariants.{First, Second}
use Rattle.wavelengths.specs.Merge.{begin}
use Rattle.mesh.specs.declared.Link.{Link}
use Rattle.mesh.specs.declared.Mesh.{Mesh}
use Rattle.mesh.specs.declared.Plan.{Plan}
use Rattle.mesh.specs.Answer.{Answer, Accepted, Refused}
use Rattle.mesh.specs.Mesh.{must, and_then, mesh_answer}
use Rattle.mesh.specs.Arc.{tail_of, head_of}
use Rattle.mesh.specs.Laws.Answer.{must-accepted, and_then-accepted}
use Rattle.mesh.specs.Laws.Checked.{passes}
use Rattle.formed.specs.Formed as formed
use Rattle.formed.specs.Formed.{misplaced, plan_fault, flood_fault, floods_fault, start_answer}
use Rattle.formed.specs.WellFormed.{FloodFormed}
use Rattle.formed.specs.Laws.Forming.{flood_says, start-accepts}
use Rattle.formed.specs.Laws.Fresh.{fresh-answer}
use Rattle.topology.specs.Backup.{backup, backup_on}
use Rattle.refusals.specs.Refusals as refusals
use Rattle.recovery.specs.declared.Session.{Session}
use Rattle.recovery.specs.declared.Change.{Change}
use Rattle.recovery.specs.Formed.{record_answer}
use Rattle.recovery.specs.Calls.{failure_of, fresh_on, zero_session, cut_on, change, started, after_cut, route_of, routed_as, routed}
use Rattle.legacy.specs.declared.OldCut.{OldCut}
use Rattle.legacy.specs.declared.OldCut.TheVariants as oldCuts
use Rattle.legacy.specs.declared.OldSession.{OldSession}
use Rattle.legacy.specs.Record as old
use Rattle.legacy.specs.Record.{ill_formed}
use Rattle.legacy.specs.WellFormed.{InRange, Formed}
use Rattle.legacy.specs.Calls as oldCalls
use Rattle.upgrade.specs.Carried.{mesh_of, plan_of, cut_of, flood_of, second_of, kept, carried, with_first, cut_again}
use Rattle.upgrade.specs.Meaning.{Keeps}
use Rattle.upgrade.proofs.Laws.Checks.{link-carried, no_duct, mesh-accepts}
use Rattle.upgrade.proofs.Laws.Forming.{directions_fault, states_fault, cut_fault, reached_fault, record_passed, record_formed}

-- ---- by the answer

module _ (s : OldSession) where
  -- what a refused start gives
  pub carried-refused : {number place : ℕ} → old.record_answer s ≡ Refused number place → carried s ≡ record { session = zero_session; answer = Refused number place }
  unfolding carried
  carried-refused e = ap (λ (a : Answer). change a zero_session (kept s)) e

  -- what is kept
  pub carried-accepted : old.record_answer s ≡ Accepted → carried s ≡ record { session = kept s; answer = Accepted }
  unfolding carried
  carried-accepted e = ap (λ (a : Answer). change a zero_session (kept s)) e

  -- every refused start gives the same session
  pub refused_as_start : {number place : ℕ} → old.record_answer s ≡ Refused number place
      → ((carried s).answer ≡ Refused number place)
      × ((m : Mesh) (p : Plan) (n q : ℕ) → start_answer m p ≡ Refused n q → (carried s).session ≡ (started m p).session)
  unfolding started
  refused_as_start e =
      let c = carried-refused e in
      (ap (λ (r : Change). r.answer) c, λ m p n q d. ap (λ (r : Change). r.session) c ∙ sym (ap (λ (a : Answer). (change a zero_session (fresh_on m p)).session) d))

  -- field by field
  pub carried_keeps : old.record_answer s ≡ Accepted → Keeps s (carried s).session
  carried_keeps e = rw (carried-accepted e) (record {
    nodes = refl;
    count = refl;
    low = λ i. ap (λ (l : Link). l.low) (link-carried s.mesh i);
    high = λ i. ap (λ (l : Link). l.high) (link-carried s.mesh i);
    length = λ i. ap (λ (l : Link). l.length) (link-carried s.mesh i);
    pair = λ i. ap (λ (l : Link). l.pair) (link-carried s.mesh i);
    duct = no_duct s.mesh;
    directions = refl;
    states = refl;
    reached = refl;
    with_none = λ c. (ap cut_of c, ap second c);
    under-cut = λ k c. (ap cut_of c, ap second c);
  })
    where
      second : OldCut → Flood
      second c = second_of (mesh_of s.mesh) (plan_of s.plan) (cut_of c)

-- ---- the start and the cut once more

-- on a fresh session the cut of a link is accepted: 12 passes, and 22 does since no cut stands
cut-fresh : (m : Mesh) (p : Plan) (k : ℕ) → start_answer m p ≡ Accepted → k < m.count → (after_cut (fresh_on m p) k).session ≡ cut_on (fresh_on m p) k
unfolding after_cut refusals.cut_answer
cut-fresh m p k e h = rw (fresh-answer m p ∙ e, lt-ltb k m.count h)

module _ (s : OldSession) (ranges : InRange s.mesh) (e : old.record_answer s ≡ Accepted) where
  abbrev m : Mesh
  m = mesh_of s.mesh

  abbrev p : Plan
  p = plan_of s.plan

  formed_before : Formed s
  formed_before = (record_formed s ranges).0 e

  accepted-now : mesh_answer m ≡ Accepted
  accepted-now = mesh-accepts s.mesh ranges (record_passed s e).0

  start-accepted : start_answer m p ≡ Accepted
  start-accepted = start-accepts m p accepted-now formed_before.plan

  start-fresh : started m p ≡ record { session = fresh_on m p; answer = Accepted }
  unfolding started
  start-fresh = ap (λ (a : Answer). change a zero_session (fresh_on m p)) start-accepted

  -- what is kept is a start, the cut that stands, and then the old flood on wavelength 1
  pub carried_again : with_first (cut_again (started (mesh_of s.mesh) (plan_of s.plan)).session s.cut) (flood_of s.flood) ≡ kept s
  carried_again = ap (λ (r : Change). with_first (cut_again r.session s.cut) first) start-fresh ∙ again s.cut formed_before.cut
    where
      first : Flood
      first = flood_of s.flood

      again : (c : OldCut) → ((k : ℕ) → c ≡ oldCuts.Link k → k < m.count)
          → with_first (cut_again (fresh_on m p) c) first ≡ record { mesh = m; plan = p; cut = cut_of c; first = first; second = second_of m p (cut_of c) }
      again oldCuts.Nothing h = refl
      again (oldCuts.Link k) h = ap (λ (t : Session). with_first t first) (cut-fresh m p k start-accepted (h k refl))

-- ---- the record test of now

-- the plan and then the rest, or all at once
at_once : (a : Answer) (directions states cut reached second : Bool)
    → and_then (and_then a (must (not directions) 13 0 Accepted)) (must (not (cut || ((states || reached) || second))) 13 0 Accepted)
    ≡ and_then a (must (not ((((directions || states) || cut) || reached) || second)) 13 0 Accepted)
at_once (Err r) directions states cut reached second = refl
at_once Accepted true states cut reached second = refl
at_once Accepted false true true reached second = refl
at_once Accepted false true false reached second = refl
at_once Accepted false false true reached second = refl
at_once Accepted false false false reached second = refl

misplaced-kept : (links : ℕ) (c : OldCut) → misplaced links (cut_of c) ≡ old.misplaced links c
misplaced-kept links oldCuts.Nothing = refl
misplaced-kept links (oldCuts.Link k) = refl

module _ (s : OldSession) where
  -- the flood on wavelength 2 is ill formed
  abbrev second_fault : Bool
  second_fault = flood_fault (mesh_of s.mesh) (kept s).second

  -- the mesh checks, then what was tested before, and the flood on wavelength 2
  kept-answer : record_answer (kept s) ≡ and_then (mesh_answer (mesh_of s.mesh)) (must (not (ill_formed s || second_fault)) 13 0 Accepted)
  unfolding formed.record_answer start_answer plan_fault floods_fault flood_fault ill_formed
  kept-answer =
      rw (misplaced-kept s.mesh.count s.cut)
      (at_once (mesh_answer (mesh_of s.mesh)) (directions_fault s) (states_fault s) (cut_fault s) (reached_fault s) second_fault)

  -- where it passes and the old mesh is accepted, the old record passed its test
  pub kept-tested : old.mesh_answer s.mesh ≡ Accepted → record_answer (kept s) ≡ Accepted → old.record_answer s ≡ Accepted
  unfolding old.record_answer
  kept-tested a e =
      let t = (must-accepted (not (ill_formed s || second_fault)) 13 0 Accepted (and_then-accepted (mesh_answer (mesh_of s.mesh)) _ (sym kept-answer ∙ e)).1).0 in
      rw (a, (or_false (ill_formed s) second_fault ((not_says _).0 t)).0)

-- the flood on wavelength 2 is quiet, or has just begun at an end of the cut link, which is a node: it is well formed
module _ (m : Mesh) (p : Plan) (good : mesh_answer m ≡ Accepted) where
  abbrev arcs : Digraph
  arcs = backup_on Second m p

  blank : Blank arcs (fresh 256 64)
  blank = let P = passes m good in fresh_blank arcs 256 64 P.count_most P.nodes_most

  source_node : (k : ℕ) → k < m.count → arcs.head k < m.nodes
  source_node k h = let P = passes m good in branch (λ (v : ℕ). v < m.nodes) (eqb (at p.directions k) 0) (λ e. P.high_below k h) (λ e. P.low_below k h)

  second_formed : (c : OldCut) → ((k : ℕ) → c ≡ oldCuts.Link k → k < m.count) → FloodFormed m (second_of m p (cut_of c))
  unfolding begin
  second_formed oldCuts.Nothing h = record {
    states = record { most = λ i l. rw (blank.quiet i) (omega arith); zeros = λ i l b. blank.quiet i };
    reached = λ v b t. clash t (blank.unreached v);
  }
  second_formed (oldCuts.Link k) h = record {
    states = record {
      most = λ i l. omega (arith, begin-at_most_1 arcs (failures.cut arcs k) blank i);
      zeros = λ i l b. begin_states arcs (failures.cut arcs k) blank (λ i w. m.count ≤ i → w ≡ 0) i (λ a l. absurd (omega (arith, a.0))) (λ n l. refl) l;
    };
    reached = λ v b t. rw (begin-reached arcs (failures.cut arcs k) blank t) (source_node k (h k refl));
  }

module _ (s : OldSession) (ranges : InRange s.mesh) (e : old.record_answer s ≡ Accepted) where
  second_faultless : second_fault s ≡ false
  second_faultless =
      let good = accepted-now s ranges e in
      let few = (passes (mesh_of s.mesh) good).count_most in
      (not_says _).0 ((flood_says (mesh_of s.mesh) (kept s).second few).1
      (second_formed (mesh_of s.mesh) (plan_of s.plan) good s.cut (formed_before s ranges e).cut))

  -- where the old record passed its test, what is kept passes that of now
  pub kept-accepts : record_answer (kept s) ≡ Accepted
  kept-accepts = kept-answer s ∙ rw (accepted-now s ranges e, (record_passed s e).1, second_faultless)

  -- so the carry-over is accepted, and gives a session that passes its record test
  pub carried_passes : ((carried s).answer ≡ Accepted) × (record_answer (carried s).session ≡ Accepted)
  carried_passes = rw (carried-accepted s e) (refl, kept-accepts)

-- ---- the back-up digraph

-- wavelength 1 keeps it
pub digraph-kept : (s : OldSession) → backup (mesh_of s.mesh) (plan_of s.plan) ≡ oldCalls.digraph s
digraph-kept s = λ j. record {
  nodes = s.mesh.nodes;
  links = s.mesh.count;
  tail = λ i. tail_of (link-carried s.mesh i j) (at s.plan.directions i);
  head = λ i. head_of (link-carried s.mesh i j) (at s.plan.directions i);
}

-- the cut that stands is the same failure
pub failure-kept : (g : Digraph) (c : OldCut) → failure_of g (cut_of c) ≡ oldCalls.failure_of g c
failure-kept g oldCuts.Nothing = refl
failure-kept g (oldCuts.Link k) = refl

pub standing-kept : (c : OldCut) → refusals.standing (cut_of c) ≡ oldCalls.standing c
standing-kept oldCuts.Nothing = refl
standing-kept (oldCuts.Link k) = refl

-- ---- the route query on wavelength 1

module _ (s : OldSession) where
  -- its links
  links_kept : route_of (kept s) First ≡ oldCalls.route_of s
  unfolding route_of oldCalls.route_of
  links_kept = λ j.
      let g = digraph-kept s j in
      cond (machine.at_rest g (flood_of s.flood)) (route_from g s.mesh.count (failure-kept g s.cut j).source s.flood.states) []

  -- right after the carry-over: its answer and its links are those of the old session
  pub route_kept : InRange s.mesh → old.record_answer s ≡ Accepted → routed (carried s).session 1 ≡ routed_as (oldCalls.route_answer s) (oldCalls.route_of s)
  unfolding routed refusals.route_answer
  route_kept ranges e = rw (carried-accepted s e, kept-accepts s ranges e, e, standing-kept s.cut, links_kept)
