-- What `connects` says: it passes where the net is strong, and fails where some two nodes have no walk between them. Assumes nothing.
use Rattle.std.specs.Prelude.{◌≡◌, ◌↔◌, true, false}
use Rattle.scan.specs.Test.{fails, failing}
use Rattle.scan.specs.Lowest.{every, every_says, every_fails}
use Rattle.graph.specs.Net.{Net, Fits, Ways, Strong, Parted}
use Rattle.graph.specs.Reach.{reaches}
use Rattle.graph.specs.Plan.{connects}
use Rattle.graph.specs.Laws.Reached.{reaches_iff}

module _ {G : Net} (F : Fits G) (m : Ways) where
  pub connects_iff : (connects G m ≡ true) ↔ Strong G m
  unfolding connects
  connects_iff = (
    λ e u v hu hv. (reaches_iff F m u hu v).0 ((every_says (reaches G m u) G.nodes).0 ((every_says _ G.nodes).0 e u hu) v hv),
    λ s. (every_says _ G.nodes).1 (λ u hu. (every_says _ G.nodes).1 (λ v hv. (reaches_iff F m u hu v).1 (s u v hu hv))),
  )

  pub parted_iff : (connects G m ≡ false) ↔ Parted G m
  unfolding connects
  parted_iff = (
    λ e. let (u, hu, f) = every_fails (λ u. every (λ v. reaches G m u v) G.nodes) G.nodes e in
        let (v, hv, g) = every_fails (reaches G m u) G.nodes f in
        (u, v, hu, hv, fails (reaches_iff F m u hu v) g),
    λ (u, v, hu, hv, n). failing connects_iff (λ s. n (s u v hu hv)),
  )
