-- A link is no bridge where a walk leads from one of its ends to the other without it. The bridges of a connected net are just the links that part it: where
-- a link is no bridge, walks over it can go round by the other walk. Assumes nothing.
use Rattle.std.specs.Prelude.{ℕ, ◌<◌, ◌≡◌, refl, ◌↔◌, false}
use Rattle.std.proofs.Math.Path.{ap}
use Rattle.std.proofs.Math.Bool.{not}
use Rattle.std.proofs.lemmas.Bool.{not-false}
use Rattle.scan.specs.Test.{Says, says_same}
use Rattle.graph.specs.Net.{Net, Fits, Ways, Leads, Strong, without, both_ways}
use Rattle.graph.specs.Plan.{connects, parts}
use Rattle.graph.specs.Greedy.{bridge}
use Rattle.graph.specs.Laws.Arcs.{widen, back, without_free, without_open}
use Rattle.graph.specs.Laws.Reached.{reaches_iff}
use Rattle.graph.specs.Laws.Orientation.{strong_around}
use Rattle.graph.specs.Laws.Connected.{connects_iff}

module _ {G : Net} (F : Fits G) (k : ℕ) (h : k < G.links) where
  pub unbridged_iff : (bridge G k ≡ false) ↔ Leads G (without k both_ways) (G.low k) (G.high k)
  unfolding bridge
  unbridged_iff = (
    λ e. (reaches_iff F _ _ (F.low_below k h) _).0 (not-false _ e),
    λ p. ap not ((reaches_iff F (without k both_ways) (G.low k) (F.low_below k h) (G.high k)).1 p),
  )

  -- a walk by fewer ways serves, in either direction
  module _ (m : Ways) where
    wider : {u v : ℕ} → Leads G (without k m) u v → Leads G (without k both_ways) u v
    wider p = widen (λ i d l o. without_free k both_ways i d (without_open k m i d o).0 refl) p

    pub unbridged_down : Leads G (without k m) (G.low k) (G.high k) → bridge G k ≡ false
    unbridged_down p = unbridged_iff.1 (wider p)

    pub unbridged_up : Leads G (without k m) (G.high k) (G.low k) → bridge G k ≡ false
    unbridged_up p = unbridged_iff.1 (back (λ i d o. o) (wider p))

  module _ (joined : Strong G both_ways) where
    unbridged_strong : Leads G (without k both_ways) (G.low k) (G.high k) → Strong G (without k both_ways)
    unbridged_strong p = strong_around F both_ways k h joined (without k both_ways) (λ i d l o. o) false p (back (λ i d o. o) p)

    pub bridge-parts : bridge G k ≡ parts G k
    unfolding bridge parts
    bridge-parts = ap not (says_same (reaches_iff F _ _ (F.low_below k h) _) around)
      where
        around : Says (connects G (without k both_ways)) (Leads G (without k both_ways) (G.low k) (G.high k))
        around = (
          λ e. (connects_iff F _).0 e _ _ (F.low_below k h) (F.high_below k h),
          λ p. (connects_iff F _).1 (unbridged_strong p),
        )
