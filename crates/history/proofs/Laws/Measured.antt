-- At rest of both wavelengths under a cut the route length of each is that of its route query's links. Assumes 256 entries in the mesh's list of links.
use Prim.Native.Nat.{ℕ, ◌<◌}
use Rattle.std.specs.Prelude.{◌≡◌, refl, true, List, length}
use Rattle.std.proofs.Common.{ap}
use Rattle.std.proofs.Math.Bool.{Bool}
use Rattle.std.proofs.Math.Dec.{eqb}
use borrow.Author.Tests.{lt-ltb}
use Rattle.scan.specs.Test.{eq_says}
use Rattle.metres.specs.Length.{route_length, LengthAlong}
use Rattle.metres.specs.Laws.Length.{length-along}
use Rattle.flood.specs.Laws.Tests.{at-rest-activity}
use Rattle.wavelengths.specs.declared.Wavelength.{Wavelength}
use Rattle.wavelengths.specs.declared.Wavelength.TheVariants.{First, Second}
use Rattle.wavelengths.specs.Wavelength.{number_of, on}
use Rattle.wavelengths.proofs.Laws.Wavelength.{wavelength_named}
use Rattle.wavelengths.proofs.Laws.Next.{rest_says}
use Rattle.mesh.specs.declared.Mesh.{Mesh}
use Rattle.mesh.specs.declared.Plan.{Plan}
use Rattle.mesh.specs.Answer.{Accepted}
use Rattle.mesh.specs.WellFormed.{lengths}
use Rattle.planner.specs.Plan.{planned}
use Rattle.formed.specs.Cut.{Link}
use Rattle.refusals.specs.Refusals as refusals
use Rattle.refusals.specs.Refusals.{standing}
use Rattle.recovery.specs.declared.Session.{Session}
use Rattle.recovery.specs.Session.{floods}
use Rattle.recovery.specs.Formed.{record_answer}
use Rattle.recovery.specs.Answers as outcomes
use Rattle.recovery.specs.Calls.{digraph, resting, status_of, route_length_of, route_of}
use Rattle.history.specs.History.{Call}
use Rattle.history.specs.Demand.{AtRest, state_on, OnePath, Measured, ended, log}
use Rattle.history.proofs.Laws.Kept.{cut_session, played, under, kept-cut}
use Rattle.history.proofs.Laws.Started.{kept_record, ended-kept}
use Rattle.history.proofs.Laws.Routed.{rest-seen, rest_path}

module _ (s : Session) (accepted : record_answer s ≡ Accepted) (stands : standing s.cut ≡ true) (rest : (w : Wavelength) → AtRest s w) (w : Wavelength) where
  both_rest : resting s ≡ true
  both_rest = (rest_says (digraph s) (floods s)).1 (rest-seen s First (rest First), rest-seen s Second (rest Second))

  -- a status is accepted, with no link under way
  told : (j : ℕ) → j < s.mesh.count → status_of s j (number_of w) ≡ outcomes.Link (state_on s w j) 0 (route_length_of s w)
  unfolding status_of refusals.status_answer
  told j l =
      let (named, is) = wavelength_named w in
      rw (accepted, named, lt-ltb j s.mesh.count l, is)
      (ap (λ (n : ℕ). outcomes.Link (state_on s w j) n (route_length_of s w)) ((at-rest-activity (digraph s w) (on w (floods s))).0 (rest-seen s w (rest w))))

  -- the route length is that of the taken links, which the path has each once
  along : {x y : ℕ} → OnePath s w x y (route_of s w) → LengthAlong (lengths s.mesh) (route_of s w) (route_length_of s w)
  unfolding route_length
  along P =
      let on : ℕ → Bool = λ i. eqb (state_on s w i) 2 in
      rw (stands, both_rest)
      (length-along (lengths s.mesh) on s.mesh.count (route_of s w) P.each_once (λ i. (
        λ o. let (l, e) = (P.all-taken i).0 o in (l, (eq_says _ 2).1 e),
        λ (l, t). (P.all-taken i).1 (l, (eq_says _ 2).0 t),
      )))

  measured : {x y : ℕ} → OnePath s w x y (route_of s w) → Measured s w
  measured P = record { told = told; length = along P }

pub demand_length : (m : Mesh) → length m.links ≡ 256 → (planned m).answer ≡ Accepted → (calls : List Call) (k : ℕ) → (log m calls).cut ≡ Link k
    → ((w : Wavelength) → AtRest (ended m calls) w) → (w : Wavelength) → Measured (ended m calls) w
demand_length m sized good calls =
    let p : Plan = (planned m).plan in
    kept-cut m p (λ s k ts. ((w : Wavelength) → AtRest s w) → (w : Wavelength) → Measured s w)
    (λ k ts q rest w.
    let s : Session = cut_session m p k (played m p k ts) in
    measured s (kept_record m good sized (under q)) refl rest w (rest_path m sized good q w (rest w)))
    (ended-kept m good sized calls)
