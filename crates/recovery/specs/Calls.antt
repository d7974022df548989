-- What each call gives, for every session and every argument: the refusals in order, then begin, step and run of the floods on the two wavelengths. A
-- refused call hands the session back unaltered (01, "The recovery machine" and "Order"; 02, request 2). Definitions only.
use Rattle.std.specs.Prelude.{ℕ, Bool, false, cond, ◌&&◌, List, [], eqb, replicate, Err}
use Rattle.scan.specs.Entry.{at}
use Rattle.metres.specs.Known.{Length}
use Rattle.metres.specs.Length.{route_length}
use Rattle.mesh.specs.declared.Mesh.{Mesh}
use Rattle.mesh.specs.declared.Plan.{Plan}
use Rattle.mesh.specs.Answer.{Answer, Accepted, Refused}
use Rattle.mesh.specs.Mesh.{zero_mesh}
use Rattle.mesh.specs.WellFormed.{lengths}
use Rattle.flood.specs.Digraph.{Digraph, Failure}
use Rattle.flood.specs.Digraph as failures
use Rattle.flood.specs.Machine as machine
use Rattle.flood.specs.Machine.{activity}
use Rattle.flood.specs.Topology.{route_from, as_route}
use Rattle.wavelengths.specs.declared.Floods.{Floods}
use Rattle.wavelengths.specs.declared.Wavelength.{Wavelength}
use Rattle.wavelengths.specs.Wavelength.{wavelength_of, on}
use Rattle.wavelengths.specs.Merge.{Ran, turn, fresh_on_each, at_rest, begin, step, run}
use Rattle.formed.specs.Cut.{Cut}
use Rattle.formed.specs.Cut as cut
use Rattle.formed.specs.Formed.{start_answer}
use Rattle.topology.specs.Backup.{backup_on}
use Rattle.refusals.specs.Refusals as refusals
use Rattle.refusals.specs.Refusals.{standing}
use Rattle.recovery.specs.declared.Session.{Session}
use Rattle.recovery.specs.Session.{floods, session_of}
use Rattle.recovery.specs.declared.Change.{Change}
use Rattle.recovery.specs.declared.Delivered.{Delivered}
use Rattle.recovery.specs.declared.Delivered.TheVariants as delivered
use Rattle.recovery.specs.declared.Delivery.{Delivery}
use Rattle.recovery.specs.Answers as outcomes
use Rattle.recovery.specs.declared.Run.{Run}
use Rattle.recovery.specs.Answers.{Status}
use Rattle.recovery.specs.declared.Routed.{Routed}
use Rattle.recovery.specs.Formed.{record_answer}

-- ---- what a session is about

-- its back-up digraph on each wavelength
abbrev pub digraph : Session → Wavelength → Digraph
digraph s w = backup_on w s.mesh s.plan

-- the failure that a cut is on a digraph: link k, with the primary arc x to y, loses the stream from x to y. With no cut it is never used: 23 comes first
abbrev pub failure_of : Digraph → Cut → Failure
failure_of g (cut.Link k) = failures.cut g k
failure_of g cut.Nothing = record { source = 0; target = 0; blocked = λ i. false }

abbrev pub failure : Session → Wavelength → Failure
failure s w = failure_of (digraph s w) s.cut

-- no link is under way on wavelength w; on either
abbrev pub resting_on : Session → Wavelength → Bool
resting_on s w = machine.at_rest (digraph s w) (on w (floods s))

abbrev pub resting : Session → Bool
resting s = at_rest (digraph s) (floods s)

-- ---- sessions

abbrev pub with_floods : Session → Floods → Session
with_floods s f = session_of s.mesh s.plan s.cut f

-- a fresh session: no cut, and on each wavelength all links quiet and no node reached
abbrev pub fresh_on : Mesh → Plan → Session
fresh_on m p = session_of m p cut.Nothing (fresh_on_each 256 64)

-- what a refused start gives: all zeros with no cut
abbrev pub zero_session : Session
zero_session = fresh_on zero_mesh (record { directions = replicate 256 0 })

-- link k cut: on each wavelength, with its own x, x is reached, and every link leaving x, save k, becomes offered
abbrev pub cut_on : Session → ℕ → Session
cut_on s k = session_of s.mesh s.plan (cut.Link k) (begin (digraph s) (λ w. failures.cut (digraph s w) k) (floods s))

-- ---- the refusals of each call, after those of its record; n is the number of the wavelength that is named

abbrev pub cut_answer : Session → ℕ → Answer
cut_answer s k = refusals.cut_answer (record_answer s) s.mesh.count s.cut k

abbrev pub deliver_answer : Session → ℕ → ℕ → Answer
deliver_answer s k n = refusals.deliver_answer (record_answer s) s.mesh.count s.cut (on (wavelength_of n) (floods s)).states k n

abbrev pub run_answer : Session → Answer
run_answer s = refusals.run_answer (record_answer s) s.cut

abbrev pub mend_answer : Session → ℕ → Answer
mend_answer s k = refusals.mend_answer (record_answer s) s.mesh.count s.cut (resting s) k

abbrev pub status_answer : Session → ℕ → ℕ → Answer
status_answer s k n = refusals.status_answer (record_answer s) s.mesh.count k n

abbrev pub route_answer : Session → ℕ → Answer
route_answer s n = refusals.route_answer (record_answer s) s.cut n

-- ---- the calls

-- start, cut and mend: the session becomes `after` where the answer accepts, and is `before` where it refuses
abbrev pub change : Answer → Session → Session → Change
change Accepted before after = record { session = after; answer = Accepted }
change (Err r) before after = record { session = before; answer = Refused r.number r.place }

unfoldable pub started : Mesh → Plan → Change
started m p = change (start_answer m p) zero_session (fresh_on m p)

unfoldable pub after_cut : Session → ℕ → Change
after_cut s k = change (cut_answer s k) s (cut_on s k)

unfoldable pub after_mend : Session → ℕ → Change
after_mend s k = change (mend_answer s k) s (fresh_on s.mesh s.plan)

-- what a delivery on a link a to b answers, by the state v that the link has then: 2 taken by b, 3 turned back by b, 4 released by a
abbrev pub acted : ℕ → ℕ → ℕ → Delivered
acted a b v = cond (eqb v 2) (delivered.Taken b) (cond (eqb v 3) (delivered.TurnedBack b) (delivered.Released a))

abbrev pub delivery_as : Answer → Session → ℕ → Wavelength → Floods → Delivery
delivery_as Accepted s k w f = record { session = with_floods s f; answer = acted ((digraph s w).tail k) ((digraph s w).head k) (at (on w f).states k) }
delivery_as (Err r) s k w f = record { session = s; answer = delivered.Refused r.number r.place }

unfoldable pub after_delivery : Session → ℕ → ℕ → Delivery
after_delivery s k n =
    let w : Wavelength = wavelength_of n in
    delivery_as (deliver_answer s k n) s k w (step (digraph s) (failure s) (turn k w) (floods s))

-- a run with an allowance reports how many deliveries it made on both wavelengths, and whether no link is under way on either after them
abbrev pub run_as : Answer → Session → Ran → Run
run_as Accepted s r = record { session = with_floods s r.floods; report = outcomes.Made r.made (at_rest (digraph s) r.floods) }
run_as (Err why) s r = record { session = s; report = Refused why.number why.place }

unfoldable pub after_run : Session → ℕ → Run
after_run s allowance = run_as (run_answer s) s (run (digraph s) (failure s) allowance (floods s))

-- 02's route length of wavelength w: at rest under a cut that of the links taken on it, else 0 metres. Rest is rest of both
abbrev pub route_length_of : Session → Wavelength → Length
route_length_of s w = route_length (standing s.cut && resting s) (lengths s.mesh) (at (on w (floods s)).states) s.mesh.count

-- a status of link k on wavelength w: the link's state, how many links are under way on w, and w's route length
abbrev pub status_as : Answer → Session → ℕ → Wavelength → Status
status_as Accepted s k w = outcomes.Link (at (on w (floods s)).states k) (activity (digraph s w) (on w (floods s))) (route_length_of s w)
status_as (Err r) s k w = Refused r.number r.place

unfoldable pub status_of : Session → ℕ → ℕ → Status
status_of s k n = status_as (status_answer s k n) s k (wavelength_of n)

-- the links taken on wavelength w, from its x on, where nothing is under way on w, else none (read only where a cut stands: `routed` refuses 23 first)
unfoldable pub route_of : Session → Wavelength → List ℕ
route_of s w = cond (resting_on s w) (route_from (digraph s w) s.mesh.count (failure s w).source (on w (floods s)).states) []

abbrev pub routed_as : Answer → List ℕ → Routed
routed_as Accepted p = record { route = as_route p; answer = Accepted }
routed_as (Err r) p = record { route = as_route []; answer = Refused r.number r.place }

-- the route query: 14, 23, then the route
unfoldable pub routed : Session → ℕ → Routed
routed s n = routed_as (route_answer s n) (route_of s (wavelength_of n))
