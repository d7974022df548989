-- The heaviest drill after every list of calls, where the cut of its last link stands: a wavelength is at rest exactly after 4 × m - 2 deliveries on it, and
-- its route has two links then. Each flood has made progress by its own deliveries, so that the flood's law speaks of it. Assumes nothing.
use Rattle.std.specs.Prelude.{ℕ, ◌*◌, ◌-◌, ◌<◌, ◌≤◌, ◌≡◌, refl, ◌↔◌, List, length}
use Rattle.std.proofs.Common.{sym, ap, subst, arith}
use Rattle.wavelengths.specs.declared.Wavelength.{Wavelength}
use Rattle.wavelengths.specs.Merge.{Turn, links_on}
use Rattle.mesh.specs.Answer.{Accepted}
use Rattle.mesh.specs.declared.Plan.{Plan}
use Rattle.mesh.specs.WellFormed.{link, OnlyLink}
use Rattle.heaviest.specs.Drill.{drill}
use Rattle.heaviest.proofs.Laws.Drill.{Kind, middle, across, kind, drill_sized}
use Rattle.planner.specs.declared.Planned.{Planned}
use Rattle.planner.specs.Plan.{planned}
use Rattle.formed.specs.Cut.{Link}
use Rattle.recovery.specs.declared.Session.{Session}
use Rattle.recovery.specs.Calls.{route_of}
use Rattle.history.specs.History.{Call}
use Rattle.history.specs.Log.{deliveries_on}
use Rattle.history.specs.Demand.{AtRest, ended, log}
use Rattle.history.proofs.Laws.Kept.{cut_session, played, Since, kept-cut}
use Rattle.history.proofs.Laws.Started.{sound, progress, ended-kept}
use Rattle.history.proofs.Laws.Routed.{rest-seen, seen-rest, route_found}
use Rattle.drilled.proofs.Laws.Plan.{drill_net, drill-planned, drill-backup}
use Rattle.drilled.proofs.Laws.Flood.{path_two, rest-drill}

module _ (m : ℕ) (some : 0 < m) (most : m ≤ 62) where
  abbrev p : Plan
  p = (planned (drill m)).plan

  -- no other link joins the outer nodes
  pub outer_only : OnlyLink (drill m) (2 * m)
  outer_only i h (low, high) = by (kind m i h)
    where
      by : Kind m i → i ≡ 2 * m
      by (middle j a l b e) =
          let first : (link (drill m) i).low ≡ j = rw e ((drill_net m).middle j a l b).0 in
          absurd (omega (arith, (drill_net m).across.0))
      by (across e) = e

  accepted : (planned (drill m)).answer ≡ Accepted
  accepted = ap (λ (r : Planned). r.answer) (drill-planned m some most)

  -- the cut of link k stands, after the deliveries ts
  abbrev cut_at : ℕ → List Turn → Session
  cut_at k ts = cut_session (drill m) p k (played (drill m) p k ts)

  -- wavelength w is at rest exactly where 4 × m - 2 of the deliveries ts are on it, and its route has two links then
  abbrev Rests : Session → List Turn → Wavelength → Type 0
  Rests s ts w = (AtRest s w ↔ (length (links_on w ts) ≡ 4 * m - 2)) × (AtRest s w → length (route_of s w) ≡ 2)

  cut_rests : (ts : List Turn) → Since (drill m) p (2 * m) ts → (w : Wavelength) → Rests (cut_at (2 * m) ts) ts w
  cut_rests ts q w =
      let s : Session = cut_at (2 * m) ts in
      let D = drill-backup m some most w in
      let f = progress (drill m) accepted (drill_sized m most) q w in
      let (out, into) = rest-drill m D (sound (drill m) accepted (drill_sized m most) q w) f in (
        (λ r. omega (arith, out (rest-seen s w r)), λ e. seen-rest s w (into (omega arith))),
        λ r. path_two m D (route_of s w) (route_found (drill m) (drill_sized m most) accepted q w r).path,
      )

  module _ (calls : List Call) (stands : (log (drill m) calls).cut ≡ Link (2 * m)) (w : Wavelength) where
    rests : Rests (ended (drill m) calls) (log (drill m) calls).made w
    rests =
        kept-cut (drill m) p (λ s k ts. k ≡ 2 * m → Rests s ts w)
        (λ k ts q e. subst (λ (k : ℕ). Since (drill m) p k ts → Rests (cut_at k ts) ts w) (sym e) (λ q. cut_rests ts q w) q)
        (ended-kept (drill m) accepted (drill_sized m most) calls) (2 * m) stands refl

    pub drill-calls : AtRest (ended (drill m) calls) w ↔ (deliveries_on w (log (drill m) calls) ≡ 4 * m - 2)
    drill-calls = rests.0

    pub two_links : AtRest (ended (drill m) calls) w → length (route_of (ended (drill m) calls) w) ≡ 2
    two_links = rests.1
