-- Two links, of which one is cut: each wavelength is at rest exactly after one delivery of its own, and its route is the other link. Assumes 256 entries in the
-- mesh's list of links.
use Rattle.std.specs.Prelude.{ℕ, ◌-◌, ◌<◌, ◌≤◌, ◌≡◌, refl, ◌↔◌, ◌≢◌, length}
use Rattle.std.proofs.Common.{ap, arith}
use mathlib.Core.List.{List, [], ◌∷◌, Memᴰ}
use Rattle.std.proofs.Math.Decide.{ℕ_discrete}
use Rattle.std.proofs.lemmas.Bool.{eqb-false}
use Rattle.scan.specs.Distinct.{Distinct}
use Rattle.flood.specs.Laws.Chain.{one_link}
use Rattle.flood.specs.Laws.Count.{offered-usable}
use Rattle.flood.specs.Laws.Route.{rest_exactly}
use Rattle.flood.specs.Laws.Cut.{cut-usable, cut-made_3_rest}
use Rattle.wavelengths.specs.declared.Wavelength.{Wavelength}
use Rattle.wavelengths.specs.Merge.{Turn, links_on}
use Rattle.mesh.specs.declared.Mesh.{Mesh}
use Rattle.mesh.specs.declared.Plan.{Plan}
use Rattle.mesh.specs.Answer.{Accepted}
use Rattle.mesh.specs.Mesh.{mesh_answer}
use Rattle.planner.specs.Plan.{planned}
use Rattle.topology.specs.Backup.{backup_on}
use Rattle.formed.specs.Cut.{Link}
use Rattle.recovery.specs.declared.Session.{Session}
use Rattle.recovery.specs.Calls.{digraph, route_of}
use Rattle.history.specs.History.{Call}
use Rattle.history.specs.Log.{deliveries_on}
use Rattle.history.specs.Demand.{AtRest, ended, log}
use Rattle.history.proofs.Laws.Kept.{cut_session, played, Since, kept-cut}
use Rattle.history.proofs.Laws.Started.{sound, progress, ended-kept}
use Rattle.history.proofs.Laws.Routed.{rest-seen, seen-rest, route_found}
use Rattle.doubled.proofs.Laws.Resting.{Rests}
use Rattle.doubled.proofs.Laws.TwoPlan.{two-accepted}

-- of two links, those that are not link k, each once and at least one, are the other
the_other : (k : ℕ) → k < 2 → (p : List ℕ) → Distinct p → ((i : ℕ) → Memᴰ i p → (i < 2) × (i ≢ k)) → 1 ≤ length p → p ≡ (1 - k) ∷ []
the_other k h [] d f l = absurd (omega arith)
the_other k h (i ∷ []) d f l =
    let (b, n) = f i (Memᴰ.head refl) in
    ap (λ (j : ℕ). j ∷ []) (elim (ℕ_discrete i (1 - k)) [ yes e ↦ e | no e ↦ absurd (n (omega arith)) ])
the_other k h (i ∷ j ∷ p) d f l =
    let (a, m) = f i (Memᴰ.head refl) in
    let (b, n) = f j (Memᴰ.tail (Memᴰ.head refl)) in
    absurd (d.0 j (Memᴰ.head refl) (elim (ℕ_discrete i j) [ yes e ↦ e | no e ↦ absurd (n (elim (ℕ_discrete i k) [ yes q ↦ absurd (m q) | no q ↦ omega arith ])) ]))

module _ (m : Mesh) (sized : length m.links ≡ 256) (ok : mesh_answer m ≡ Accepted) (nodes : m.nodes ≡ 2) (links : m.count ≡ 2) where
  abbrev p : Plan
  p = (planned m).plan

  good : (planned m).answer ≡ Accepted
  good = two-accepted m sized ok nodes links

  module _ (k : ℕ) (ts : List Turn) (q : Since m p k ts) (w : Wavelength) where
    abbrev s : Session
    s = cut_session m p k (played m p k ts)

    route_other : AtRest s w → route_of s w ≡ (1 - k) ∷ []
    route_other r =
        let R = route_found m sized good q w r in
        the_other k (omega (arith, q.link)) (route_of s w) R.once (λ i o. let (l, b) = R.path.free i o in (omega arith, eqb-false i k b))
        (one_link (digraph s w) R.path.chain (sound m good sized q w).apart)

    rest_one : AtRest s w → length (links_on w ts) ≡ 1
    rest_one r =
        let f = progress m good sized q w in
        let R = route_found m sized good q w r in
        let one = ap (λ (l : List ℕ). length l) (route_other r) in
        omega (arith, rest_exactly _ _ f (rest-seen s w r) R, offered-usable _ _ f, cut-usable (backup_on w m p) k q.link)

    cut_rests : Rests s k ts w
    cut_rests = (
      (rest_one, λ e. seen-rest s w (cut-made_3_rest q.link (progress m good sized q w) (sound m good sized q w) (omega arith))),
      route_other,
    )

  module _ (calls : List Call) (k : ℕ) (stands : (log m calls).cut ≡ Link k) (w : Wavelength) where
    rests : Rests (ended m calls) k (log m calls).made w
    rests = kept-cut m p (λ s k ts. Rests s k ts w) (λ k ts q. cut_rests k ts q w) (ended-kept m good sized calls) k stands

    pub two-calls : AtRest (ended m calls) w ↔ (deliveries_on w (log m calls) ≡ 1)
    two-calls = rests.0

    pub two_route : AtRest (ended m calls) w → route_of (ended m calls) w ≡ (1 - k) ∷ []
    two_route = rests.1
