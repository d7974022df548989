-- Demand 3: from what every call keeps follow the record tests, the bounds and the path of each wavelength, and from the record tests that the session
-- follows the rules. Assumes 256 entries in the mesh's list of links.
use Rattle.std.specs.Prelude.{ℕ, ◌≡◌, ◌↔◌, true, List, ◌∷◌, ◌++◌, length, Err}
use Rattle.std.proofs.Math.Path.{refl}
use Rattle.std.proofs.Common.{ap, subst}
use Rattle.scan.specs.Test.{clash}
use Rattle.scan.specs.Entry.{at}
use Rattle.flood.specs.Digraph.{Digraph}
use Rattle.flood.specs.Laws.Tests.{accepts_says}
use Rattle.flood.specs.Laws.Cut.{cut-made, cut-made-rest}
use Rattle.wavelengths.specs.declared.Floods.{Floods}
use Rattle.wavelengths.specs.declared.Wavelength.{Wavelength}
use Rattle.wavelengths.specs.Wavelength.{is_wavelength, wavelength_of, number_of, on}
use Rattle.wavelengths.specs.Merge.{Turn, turn, links_on, step}
use Rattle.wavelengths.proofs.Laws.Wavelength.{wavelength_named}
use Rattle.mesh.specs.declared.Mesh.{Mesh}
use Rattle.mesh.specs.declared.Plan.{Plan}
use Rattle.mesh.specs.Answer.{Answer, Accepted, Refused}
use Rattle.mesh.specs.WellFormed.{lengths}
use Rattle.planner.specs.Plan.{planned}
use Rattle.recovery.specs.declared.Change.{Change}
use Rattle.recovery.specs.declared.Session.{Session}
use Rattle.recovery.specs.Session.{floods}
use Rattle.recovery.specs.Formed.{record_answer}
use Rattle.refusals.specs.Refusals.{standing}
use Rattle.recovery.specs.Calls.{digraph, failure, delivery_as, deliver_answer, after_delivery, route_of}
use Rattle.recovery.specs.Laws.Tested.{deliver_accepts, deliver_accepted}
use Rattle.history.specs.History.{Call, reply, after, accepted}
use Rattle.history.specs.Rules.{ruled, rule_reply}
use Rattle.history.specs.Log.{Log, empty_log}
use Rattle.history.specs.Demand.{UnderWay, Recovers, Follows, Sized, seen, arcs, digraph_on, DemandFrom, Demand3}
use Rattle.history.proofs.Laws.Kept.{cut_session, played, Since, Kept, free, under, acted-accepted, kept-holds, kept-cut, kept_sized, calls-kept}
use Rattle.history.proofs.Laws.Started.{started-fresh, from_start, progress, kept_record}
use Rattle.history.proofs.Laws.Routed.{seen-rest, rest_path}
use Rattle.history.proofs.Laws.Ruled.{Passing, follows_self, list_follows, list_answers}

-- a further delivery is accepted just where its link is under way on the wavelength that its number names
module _ (s : Session) (u : ℕ) where
  abbrev w : Wavelength
  w = wavelength_of u

  further_named : is_wavelength u ≡ true → record_answer s ≡ Accepted → standing s.cut ≡ true → (i : ℕ)
      → (accepted (after_delivery s i u).answer ≡ true) ↔ UnderWay s w i
  unfolding after_delivery
  further_named named r c i = (
    λ t. by_answer (deliver_answer s i u) refl t,
    λ t. rw (deliver_accepts s i u r named c ((accepts_says (digraph s w) i (on w (floods s))).1 t)) (acted-accepted ((digraph s w).tail i) ((digraph s w).head i) (at (on w later).states i)),
  )
    where
      later : Floods
      later = step (digraph s) (failure s) (turn i w) (floods s)

      by_answer : (a : Answer) → deliver_answer s i u ≡ a → accepted (delivery_as a s i w later).answer ≡ true → UnderWay s w i
      by_answer Accepted e t = (accepts_says (digraph s w) i (on w (floods s))).0 (deliver_accepted s i u e).4
      by_answer (Err r) e t = clash t refl

further : (s : Session) (w : Wavelength) → record_answer s ≡ Accepted → standing s.cut ≡ true → (i : ℕ)
    → (accepted (after_delivery s i (number_of w)).answer ≡ true) ↔ UnderWay s w i
further s w r c i =
    let (named, is) = wavelength_named w in
    subst (λ (v : Wavelength). (accepted (after_delivery s i (number_of w)).answer ≡ true) ↔ UnderWay s v i) is (further_named s (number_of w) named r c i)

module _ (m : Mesh) (good : (planned m).answer ≡ Accepted) where
  abbrev p : Plan
  p = (planned m).plan

  -- under a cut the session recovers on each wavelength
  recovers : length m.links ≡ 256 → (k : ℕ) (ts : List Turn) → Since m p k ts → (w : Wavelength)
      → Recovers (cut_session m p k (played m p k ts)) w k (length (links_on w ts))
  recovers sized k ts q w =
      let s : Session = cut_session m p k (played m p k ts) in
      let f = progress m good sized q w in
      record {
        at_most = cut-made q.link f;
        used_up = λ e. seen-rest s w (cut-made-rest q.link f e);
        further = further s w (kept_record m good sized (under q)) refl;
        route = λ r. (route_of s w, rest_path m sized good q w r);
      }

  -- a session follows the rules where it passes its record tests, from what it holds
  abbrev Ruled : Digraph → (ℕ → ℕ) → List Call → Session → Type 0
  Ruled g length calls s =
      Follows (after calls s) (ruled g calls (seen s))
      × ((first : List Call) (c : Call) (rest : List Call) → calls ≡ first ++ (c ∷ rest) → reply c (after first s) ≡ rule_reply g length c (ruled g first (seen s)))

  seen-ruled : (s : Session) → Sized s → (calls : List Call) → Passing calls s → Ruled (arcs s) (lengths s.mesh) calls s
  seen-ruled s z calls passing =
      (list_follows s (seen s) calls z passing (follows_self s), list_answers s (seen s) calls z passing (follows_self s))

  kept-ruled : {s : Session} {l : Log} → Kept m p s l → (calls : List Call) → Passing calls s → Ruled (digraph_on m) (lengths m) calls s
  kept-ruled {s} free = seen-ruled s (kept_sized m p free)
  kept-ruled {s} (under q) = seen-ruled s (kept_sized m p (under q))

  -- demand 3 from any session that the calls keep
  pub demand_from : length m.links ≡ 256 → {s : Session} {l : Log} → Kept m p s l → (calls : List Call) → DemandFrom m s (seen s) l calls
  demand_from sized {s} {l} K calls =
      let tested : (s : Session) (l : Log) → Kept m p s l → record_answer s ≡ Accepted = λ s l. kept_record m good sized in
      let after-calls = calls-kept m p tested calls K in
      let passing : Passing calls s = λ first rest e. kept_record m good sized (calls-kept m p tested first K) in
      let (follows, answered) = kept-ruled K calls passing in
      record {
        passes = passing;
        mesh = (kept-holds m p after-calls).0;
        plan = (kept-holds m p after-calls).1;
        follows = follows;
        answered = answered;
        cut = (kept-holds m p after-calls).2;
        recovers = kept-cut m p (λ s k ts. (w : Wavelength) → Recovers s w k (length (links_on w ts))) (recovers sized) after-calls;
      }

pub demand_3 : (m : Mesh) → length m.links ≡ 256 → (planned m).answer ≡ Accepted → (calls : List Call) → Demand3 m calls
demand_3 m sized good calls = record {
  starts = ap (λ (r : Change). r.answer) (started-fresh m good);
  holds = from_start m good (λ s n. DemandFrom m s n empty_log calls) (demand_from m good sized free calls);
}
