-- Demand 2's promise for one call on any session, and demand 3's for a planned mesh and any list of calls, each as one statement, read for each wavelength
-- alone (02, request 2). Definitions only.
use Rattle.std.specs.Prelude.{ℕ, ◌*◌, ◌-◌, ◌<◌, ◌≤◌, ◌≡◌, ◌⊎◌, ◌↔◌, true, length}
use mathlib.Core.List.{List, [], ◌∷◌, ◌++◌, map, Memᴰ}
use Rattle.scan.specs.Entry.{at, has}
use Rattle.scan.specs.Distinct.{Distinct}
use Rattle.scan.specs.Total.{total, count}
use Rattle.metres.specs.Length.{LengthAlong}
use Rattle.flood.specs.Digraph.{Digraph}
use Rattle.flood.specs.Machine as machine
use Rattle.flood.specs.Machine.{weight}
use Rattle.flood.specs.Path.{Chain}
use Rattle.wavelengths.specs.declared.Wavelength.{Wavelength}
use Rattle.wavelengths.specs.Wavelength.{number_of, on}
use Rattle.mesh.specs.declared.Mesh.{Mesh}
use Rattle.mesh.specs.Answer.{Accepted}
use Rattle.mesh.specs.WellFormed.{lengths}
use Rattle.planner.specs.Plan.{planned}
use Rattle.formed.specs.Cut.{Cut, Nothing, Link}
use Rattle.recovery.specs.declared.Session.{Session}
use Rattle.recovery.specs.Session.{floods}
use Rattle.recovery.specs.Answers as outcomes
use Rattle.recovery.specs.Formed.{record_answer}
use Rattle.topology.specs.Backup.{backup}
use Rattle.recovery.specs.Calls.{digraph, failure, started, after_delivery, route_length_of, route_of, routed_as, routed}
use Rattle.history.specs.History.{Call, by_value, cut, deliver, run, status, reply, next, after, answers, accepted}
use Rattle.history.specs.Rules.{Now, start, rule_next, rule_reply, ruled}
use Rattle.history.specs.Offered.{none_offered, offered}
use Rattle.history.specs.Log.{Log, empty_log, made_on, deliveries_on, logged}

-- ---- a session on one wavelength

module _ (s : Session) (w : Wavelength) where
  -- the state of each link
  abbrev pub state_on : ℕ → ℕ
  state_on = at (on w (floods s)).states

  -- link i is under way; none is; link i is taken
  abbrev pub UnderWay : ℕ → Type 0
  UnderWay i = (i < s.mesh.count) × ((state_on i ≡ 1) ⊎ (state_on i ≡ 3))

  abbrev pub AtRest : Type 0
  AtRest = (i : ℕ) → ¬ UnderWay i

  abbrev pub Taken : ℕ → Type 0
  Taken i = (i < s.mesh.count) × (state_on i ≡ 2)

  -- one simple path: all taken links, each once, stand in a row whose back-up arcs lead from x to y, each starting where the one before
  -- ended, and no node is met twice
  pub record OnePath (x y : ℕ) (row : List ℕ) : Type 0 where
    pub all-taken : (i : ℕ) → Memᴰ i row ↔ Taken i
    pub each_once : Distinct row
    pub in_a_row : Chain (digraph s w) x row y
    pub no_node-twice : Distinct (x ∷ map (digraph s w).head row)

  -- after a cut of link k, whose primary arc leads from x, where its back-up arc ends, to y, where that starts, and n accepted deliveries. On wavelength 2
  -- the arcs are turned round, so that x and y change places
  pub record Recovers (k n : ℕ) : Type 0 where
    pub at_most : n ≤ 2 * (s.mesh.count - 1)
    pub used_up : n ≡ 2 * (s.mesh.count - 1) → AtRest
    pub further : (i : ℕ) → (accepted (after_delivery s i (number_of w)).answer ≡ true) ↔ UnderWay i
    pub route : AtRest → (row : List ℕ) × OnePath ((digraph s w).head k) ((digraph s w).tail k) row

  -- with nothing under way under a cut of link k, whatever the other wavelength does: the route query is accepted, and gives the one simple path
  pub record Routes (k : ℕ) : Type 0 where
    pub given : routed s (number_of w) ≡ routed_as Accepted (route_of s w)
    pub path : OnePath ((digraph s w).head k) ((digraph s w).tail k) (route_of s w)

  -- at rest on both wavelengths under a cut: status accepts every link and answers its state, that none is under way, and a route length, which is that of
  -- the links that the route query gives
  pub record Measured : Type 0 where
    pub told : (j : ℕ) → j < s.mesh.count → reply (status j (number_of w)) s ≡ outcomes.Link (state_on j) 0 (route_length_of s w)
    pub length : LengthAlong (lengths s.mesh) (route_of s w) (route_length_of s w)

  -- how many deliveries the links have had, by their states
  abbrev pub had_on : ℕ
  had_on = total (λ i. weight (state_on i)) s.mesh.count

-- ---- a session in the words of the rules

module _ (s : Session) where
  -- the session has the cut, and on each wavelength the states and the reached nodes, that the rules make
  pub record Follows (n : Now) : Type 0 where
    pub cut : s.cut ≡ n.cut
    pub state : (w : Wavelength) (i : ℕ) → state_on s w i ≡ (n.on w).state i
    pub reached : (w : Wavelength) (v : ℕ) → has (on w (floods s)).reached v ≡ (n.on w).reached v

  -- the lengths of a session's states and reached nodes, which the types of its record ensure: every session that a function is given has them
  pub record Sized : Type 0 where
    pub states : (w : Wavelength) → length (on w (floods s)).states ≡ 256
    pub reached : (w : Wavelength) → length (on w (floods s)).reached ≡ 64

  -- what the session holds: the cut link or none, and on each wavelength the state of each link, and which nodes are reached
  abbrev pub seen : Now
  seen = record { cut = s.cut; on = λ w. record { state = state_on s w; reached = has (on w (floods s)).reached } }

  -- the back-up digraph of wavelength 1, from which the rules go
  abbrev pub arcs : Digraph
  arcs = backup s.mesh s.plan

-- ---- one call

-- call c on session s does what the rules say
pub record CallFollows (s : Session) (c : Call) : Type 0 where
  -- the session that it returns or leaves holds the same mesh and plan, and the cut, states and reached nodes that the rules make of those in s
  pub mesh : (next c s).mesh ≡ s.mesh
  pub plan : (next c s).plan ≡ s.plan
  pub follows : Follows (next c s) (rule_next (arcs s) c (seen s))
  -- it answers what the rules give
  pub answered : reply c s ≡ rule_reply (arcs s) (lengths s.mesh) c (seen s)

-- ---- a list of calls

-- the session that a start on m and its plan gives
abbrev pub started_on : Mesh → Session
started_on m = (started m (planned m).plan).session

-- the back-up digraph of m under its plan
abbrev pub digraph_on : Mesh → Digraph
digraph_on m = backup m (planned m).plan

-- demand 3 for calls on a session s of the planned mesh m, where the rules stand at n, and the answers before them say l
module _ (m : Mesh) (s : Session) (n : Now) (l : Log) (calls : List Call) where
  -- the cut that stands by all answers, and the deliveries accepted since, in order
  abbrev pub log_from : Log
  log_from = logged (digraph_on m) (answers calls s) n l

  pub record DemandFrom : Type 0 where
    -- no call is refused for its record
    pub passes : (first rest : List Call) → calls ≡ first ++ rest → record_answer (after first s) ≡ Accepted
    -- the session after the calls holds the mesh, its plan, and the cut, states and reached nodes that the rules make of the calls alone
    pub mesh : (after calls s).mesh ≡ m
    pub plan : (after calls s).plan ≡ (planned m).plan
    pub follows : Follows (after calls s) (ruled (digraph_on m) calls n)
    -- each call answers what the rules give after the calls before it
    pub answered : (first : List Call) (c : Call) (rest : List Call) → calls ≡ first ++ (c ∷ rest)
        → reply c (after first s) ≡ rule_reply (digraph_on m) (lengths m) c (ruled (digraph_on m) first n)
    -- the cut that stands by the answers is the session's, and under it the session recovers on each wavelength, by the deliveries of its own
    pub cut : (after calls s).cut ≡ log_from.cut
    pub recovers : (k : ℕ) → log_from.cut ≡ Link k → (w : Wavelength) → Recovers (after calls s) w k (deliveries_on w log_from)

module _ (m : Mesh) (calls : List Call) where
  -- the session after the calls; the cut that stands by their answers, and the deliveries accepted since, in order
  abbrev pub ended : Session
  ended = after calls (started_on m)

  abbrev pub log : Log
  log = log_from m (started_on m) start empty_log calls

  -- how many links the rules have ever offered on wavelength w since the cut that stands (02, request 6: P)
  abbrev pub offered_on : Wavelength → ℕ
  offered_on w = count (offered (digraph_on m) calls start none_offered w) m.count

  -- the start is accepted, and the calls hold demand 3 from there
  pub record Demand3 : Type 0 where
    pub starts : (started m (planned m).plan).answer ≡ Accepted
    pub holds : DemandFrom m (started_on m) start empty_log calls

-- ---- the wavelengths do not disturb each other

-- the cut that stands, and a delivery call on wavelength w for each delivery made on it since, in order
abbrev pub calls_on : Wavelength → Cut → List ℕ → List Call
calls_on w (Link k) js = cut by_value k ∷ map (λ (j : ℕ). deliver by_value j (number_of w)) js
calls_on w Nothing js = []

-- link i is offered on wavelength w at some time while the deliveries js are made there, alone, under the cut of link k: after the earlier of them
pub record EverOffered (m : Mesh) (w : Wavelength) (k : ℕ) (js : List ℕ) (i : ℕ) : Type 0 where
  pub earlier : List ℕ
  pub later : List ℕ
  pub split : js ≡ earlier ++ later
  pub offered : state_on (ended m (calls_on w (Link k) earlier)) w i ≡ 1

module _ (m : Mesh) (calls : List Call) (w : Wavelength) where
  -- the list on wavelength w alone: the cut that stands and, for each delivery made on w since, by a delivery call or by a run, a delivery call
  abbrev pub alone : List Call
  alone = calls_on w (log m calls).cut (made_on w (log m calls))

  -- what the list makes of wavelength w, its states, reached nodes and deliveries in order, is what its calls on that wavelength alone make. Which deliveries
  -- are accepted, whatever the other wavelength does, is said by `Recovers`
  pub record Undisturbed : Type 0 where
    pub same-cut : (log m alone).cut ≡ (log m calls).cut
    pub same-flood : on w (floods (ended m alone)) ≡ on w (floods (ended m calls))
    pub same-deliveries : made_on w (log m alone) ≡ made_on w (log m calls)

  -- a run with the allowance a after the list makes on wavelength w, in order, the deliveries that a run of that wavelength alone makes with an allowance n
  -- that is at most a
  pub record RunsAlone (a : ℕ) : Type 0 where
    pub n : ℕ
    pub most : n ≤ a
    pub same : made_on w (log m (calls ++ (run a ∷ [])))
        ≡ made_on w (log m calls) ++ machine.order (digraph (ended m calls) w) (failure (ended m calls) w) n (on w (floods (ended m calls)))

  -- with an allowance that is enough for both wavelengths a run makes on each all the deliveries of a run of that wavelength alone, and nothing is under way
  -- on it then
  pub record RunsOut (a : ℕ) : Type 0 where
    pub same : made_on w (log m (calls ++ (run a ∷ [])))
        ≡ made_on w (log m calls) ++ machine.order (digraph (ended m calls) w) (failure (ended m calls) w) a (on w (floods (ended m calls)))
    pub rests : AtRest (ended m (calls ++ (run a ∷ []))) w
