-- The calls from before wavelength 2 on the old record: 01's rules with one flood, in the words of `flood`, and the refusals of each call in 01's order.
-- Read beside 01, "The recovery machine" and "Order". No code makes these calls any more: they say which old sessions there can be. Definitions only.
use Rattle.std.specs.Prelude.{ℕ, Bool, true, false, cond, not, List, [], ◌∷◌, eqb, ltb, Err}
use Rattle.scan.specs.Entry.{at}
use Rattle.mesh.specs.Answer.{Answer, Accepted, Refused}
use Rattle.mesh.specs.Mesh.{must, and_then}
use Rattle.flood.specs.Digraph.{Digraph, Failure}
use Rattle.flood.specs.Digraph as failures
use Rattle.flood.specs.declared.Flood.{Flood}
use Rattle.flood.specs.Machine as machine
use Rattle.flood.specs.Topology.{route_from}
use Rattle.legacy.specs.declared.OldMesh.{OldMesh}
use Rattle.legacy.specs.declared.OldPlan.{OldPlan}
use Rattle.legacy.specs.declared.OldCut.{OldCut}
use Rattle.legacy.specs.declared.OldCut.TheVariants as cuts
use Rattle.legacy.specs.declared.OldFlood.{OldFlood}
use Rattle.legacy.specs.declared.OldSession.{OldSession}
use Rattle.legacy.specs.Record.{link, record_answer}

-- ---- what a session is about

-- where the back-up arc of link i starts, and where it ends: the primary arc leads from the low to the high end for direction 0 and back for 1
abbrev pub back_tail : OldMesh → OldPlan → ℕ → ℕ
back_tail m p i = cond (eqb (at p.directions i) 0) (link m i).high (link m i).low

abbrev pub back_head : OldMesh → OldPlan → ℕ → ℕ
back_head m p i = cond (eqb (at p.directions i) 0) (link m i).low (link m i).high

-- its back-up digraph
abbrev pub digraph : OldSession → Digraph
digraph s = record {
  nodes = s.mesh.nodes;
  links = s.mesh.count;
  tail = back_tail s.mesh s.plan;
  head = back_head s.mesh s.plan;
}

-- the failure that a cut is: link k, with the primary arc x to y, loses the stream from x to y. With no cut it is never used: 23 comes first
abbrev pub failure_of : Digraph → OldCut → Failure
failure_of g (cuts.Link k) = failures.cut g k
failure_of g cuts.Nothing = record { source = 0; target = 0; blocked = λ i. false }

abbrev pub failure : OldSession → Failure
failure s = failure_of (digraph s) s.cut

-- its states and reached nodes in the words of `flood`, and such in an old record
abbrev pub flood : OldSession → Flood
flood s = record { states = s.flood.states; reached = s.flood.reached }

abbrev pub stored : Flood → OldFlood
stored f = record { states = f.states; reached = f.reached }

-- the session with these instead
abbrev pub with_flood : OldSession → Flood → OldSession
with_flood s f = record { mesh = s.mesh; plan = s.plan; cut = s.cut; flood = stored f }

-- a cut stands; it is that of link k; no link is under way
abbrev pub standing : OldCut → Bool
standing cuts.Nothing = false
standing (cuts.Link k) = true

abbrev pub is_cut : OldCut → ℕ → Bool
is_cut cuts.Nothing j = false
is_cut (cuts.Link k) j = eqb k j

abbrev pub resting : OldSession → Bool
resting s = machine.at_rest (digraph s) (flood s)

-- ---- the calls

-- a fresh session: no cut, all links quiet, no node reached
abbrev pub fresh_on : OldMesh → OldPlan → OldSession
fresh_on m p = record { mesh = m; plan = p; cut = cuts.Nothing; flood = stored (machine.fresh 256 64) }

-- cut, delivery, mend and status of a link, and a run with an allowance, each with any number. A call on a session that the host lent left what its call by
-- value returned, so that one form stands for both
pub data Call : Type 0 where
  cut deliver mend status run : ℕ → Call

-- the refusals of each call, after those of its record
abbrev pub own : Call → OldSession → Answer
own (cut k) s = must (ltb k s.mesh.count) 12 k (must (not (standing s.cut)) 22 k Accepted)
own (deliver k) s =
    must (ltb k s.mesh.count) 12 k
    (must (standing s.cut) 23 k
    (must (machine.under_way (at s.flood.states k)) 24 k
    Accepted))
own (mend k) s =
    must (ltb k s.mesh.count) 12 k
    (must (standing s.cut) 23 k
    (must (is_cut s.cut k) 26 k
    (must (resting s) 25 k
    Accepted)))
own (status k) s = must (ltb k s.mesh.count) 12 k Accepted
own (run a) s = must (standing s.cut) 23 0 Accepted

abbrev pub answer : Call → OldSession → Answer
answer c s = and_then (record_answer s) (own c s)

-- link k cut: x is reached, and every link leaving x, save k, becomes offered
abbrev pub cut_on : OldSession → ℕ → OldSession
cut_on s k = record {
  mesh = s.mesh;
  plan = s.plan;
  cut = cuts.Link k;
  flood = stored (machine.begin (digraph s) (failures.cut (digraph s) k) (flood s));
}

-- what an accepted call makes
abbrev pub effect : Call → OldSession → OldSession
effect (cut k) s = cut_on s k
effect (deliver k) s = with_flood s (machine.step (digraph s) (failure s) k (flood s))
effect (mend k) s = fresh_on s.mesh s.plan
effect (status k) s = s
effect (run a) s = with_flood s (machine.run (digraph s) (failure s) a (flood s)).flood

-- the deliveries that an accepted call makes, in order
abbrev pub makes : Call → OldSession → List ℕ
makes (deliver k) s = k ∷ []
makes (run a) s = machine.order (digraph s) (failure s) a (flood s)
makes (cut k) s = []
makes (mend k) s = []
makes (status k) s = []

-- the session that a call returns: a refused call changes nothing
abbrev pub changed : Answer → OldSession → OldSession → OldSession
changed Accepted before after = after
changed (Err r) before after = before

unfoldable pub next : Call → OldSession → OldSession
next c s = changed (answer c s) s (effect c s)

-- ---- the route query

-- the record's refusals, then 23
abbrev pub route_answer : OldSession → Answer
route_answer s = and_then (record_answer s) (must (standing s.cut) 23 0 Accepted)

-- the taken links from x on at rest, else none (read only where a cut stands)
unfoldable pub route_of : OldSession → List ℕ
route_of s = cond (resting s) (route_from (digraph s) s.mesh.count (failure s).source s.flood.states) []
