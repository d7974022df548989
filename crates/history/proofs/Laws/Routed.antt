-- At rest of a wavelength under a cut its taken links are one simple path, its flood's route, and the route query gives it, whatever the other wavelength
-- does. Assumes 256 entries in the mesh's list of links.
use Rattle.std.specs.Prelude.{ℕ, ◌≡◌, refl, true, List, length}
use Rattle.std.proofs.Common.{sym, subst, inl, inr, ⊎_elim}
use Rattle.scan.specs.Entry.{at}
use Rattle.flood.specs.declared.Flood.{Flood}
use Rattle.flood.specs.Digraph.{Digraph, Failure}
use Rattle.flood.specs.Path.{Route}
use Rattle.flood.specs.Laws.Tests.{at-rest_says}
use Rattle.flood.specs.Laws.Route.{rest_route}
use Rattle.flood.specs.Laws.RouteQuery.{route_from_is}
use Rattle.wavelengths.specs.declared.Wavelength.{Wavelength}
use Rattle.wavelengths.specs.Wavelength.{number_of, on}
use Rattle.wavelengths.proofs.Laws.Wavelength.{wavelength_named}
use Rattle.wavelengths.specs.Merge.{Turn}
use Rattle.mesh.specs.declared.Mesh.{Mesh}
use Rattle.mesh.specs.declared.Plan.{Plan}
use Rattle.mesh.specs.Answer.{Accepted}
use Rattle.planner.specs.Plan.{planned}
use Rattle.formed.specs.Cut.{Link}
use Rattle.recovery.specs.declared.Session.{Session}
use Rattle.recovery.specs.Session.{floods}
use Rattle.recovery.specs.Formed.{record_answer}
use Rattle.refusals.specs.Refusals as refusals
use Rattle.refusals.specs.Refusals.{standing}
use Rattle.recovery.specs.Calls.{digraph, failure, resting_on, route_of, routed_as, routed}
use Rattle.history.specs.History.{Call}
use Rattle.history.specs.Demand.{AtRest, OnePath, Routes, ended, log}
use Rattle.history.proofs.Laws.Kept.{cut_session, played, under, Since, kept-cut}
use Rattle.history.proofs.Laws.Started.{sound, progress, kept_record, ended-kept}

module _ (s : Session) (w : Wavelength) where
  abbrev g : Digraph
  g = digraph s w

  abbrev f : Flood
  f = on w (floods s)

  -- no link is under way
  pub rest-seen : AtRest s w → resting_on s w ≡ true
  rest-seen r = (at-rest_says g f).1 (λ i l. (λ e. r i (l, inl e), λ e. r i (l, inr e)))

  pub seen-rest : resting_on s w ≡ true → AtRest s w
  seen-rest t i (l, u) = let (offered, refused) = (at-rest_says g f).0 t i l in ⊎_elim offered refused u

  -- the flood's route is the path
  route_path : (c : Failure) {row : List ℕ} → Route g c (at f.states) row → OnePath s w c.source c.target row
  route_path c r =
      record {
        all-taken = λ i. (λ o. ((r.path.free i o).0, r.on-taken i o), λ (l, e). r.taken-on i l e);
        each_once = r.once;
        in_a_row = r.path.chain;
        no_node-twice = r.path.simple;
      }

  -- and what the query gives
  query_is : resting_on s w ≡ true → {row : List ℕ} → Route g (failure s w) (at f.states) row → route_of s w ≡ row
  unfolding route_of
  query_is t r = rw t (route_from_is g (failure s w) f r)

module _ (m : Mesh) (sized : length m.links ≡ 256) (accepted : (planned m).answer ≡ Accepted) where
  abbrev p : Plan
  p = (planned m).plan

  module _ {k : ℕ} {ts : List Turn} (q : Since m p k ts) (w : Wavelength) where
    abbrev s : Session
    s = cut_session m p k (played m p k ts)

    -- the route query gives the flood's route
    pub route_found : AtRest s w → Route (digraph s w) (failure s w) (at (on w (floods s)).states) (route_of s w)
    route_found r =
        let t : resting_on s w ≡ true = rest-seen s w r in
        let (row, route) = rest_route (digraph s w) (failure s w) (progress m accepted sized q w) t (sound m accepted sized q w) in
        subst (Route (digraph s w) (failure s w) (at (on w (floods s)).states)) (sym (query_is s w t route)) route

    pub rest_path : AtRest s w → OnePath s w ((digraph s w).head k) ((digraph s w).tail k) (route_of s w)
    rest_path r = route_path s w (failure s w) (route_found r)

-- the route query is accepted
given : (s : Session) → record_answer s ≡ Accepted → standing s.cut ≡ true → (w : Wavelength) → routed s (number_of w) ≡ routed_as Accepted (route_of s w)
unfolding routed refusals.route_answer
given s r c w = let (named, is) = wavelength_named w in rw (r, named, c, is)

pub demand_route : (m : Mesh) → length m.links ≡ 256 → (planned m).answer ≡ Accepted → (calls : List Call) (k : ℕ) → (log m calls).cut ≡ Link k → (w : Wavelength)
    → let s = ended m calls in AtRest s w → Routes s w k
demand_route m sized accepted calls =
    kept-cut m (planned m).plan (λ s k ts. (w : Wavelength) → AtRest s w → Routes s w k)
    (λ k ts q w r. record { given = given _ (kept_record m accepted sized (under q)) refl w; path = rest_path m sized accepted q w r })
    (ended-kept m accepted sized calls)
