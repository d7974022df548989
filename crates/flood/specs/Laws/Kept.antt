-- Every accepted delivery keeps the invariant: each of its cases does. Assumes nothing.
use Rattle.std.specs.Prelude.{ℕ, ◌<◌, refl, Bool}
use Rattle.std.proofs.Common.{arith}
use Rattle.flood.specs.Digraph.{Digraph, Failure}
use Rattle.flood.specs.Laws.Delivery.{Delivery, bounce, dead_end, visit, release, fall_back}
use Rattle.flood.specs.Laws.Invariant.{Inv}
use Rattle.flood.specs.Laws.Onward.{go_on_inv, refuse_inv, fall_back_inv}
use Rattle.flood.specs.Laws.Visit.{reach_inv, visit_inv}

module _ (g : Digraph) (c : Failure) where
  pub delivery_inv : {S S' : ℕ → ℕ} {R R' : ℕ → Bool} {j : ℕ} → Inv g c S R → j < g.links → Delivery g c S R j S' R' → Inv g c S' R'
  delivery_inv I j< (bounce o r d) = refuse_inv g c I j< o r d
  delivery_inv I j< (dead_end o n d y none e) = refuse_inv g c (reach_inv g c I n d y none) j< o d.there e
  delivery_inv I j< (visit o n d some there spread) = visit_inv g c I n d j< refl o some there spread
  delivery_inv {j} I j< (release o d firm) = go_on_inv g c I j< d (omega arith) (omega arith) (I.head_reached j j< (omega arith)) firm
  delivery_inv I j< (fall_back o d x alone m m< t e d') = fall_back_inv g c I j< o d alone m< t e d'
