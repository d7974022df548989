-- The whole walk of a mesh: no node is visited as the visit of the root begins, and the tree is that of the mesh's own nodes. Serves the proof of `walk`. Assumes
-- nothing.
use Rattle.std.specs.Prelude.{ℕ, ◌<◌, ◌≤◌, ◌≡◌, Bool, true, false, List, ◌∷◌, length, set, replicate}
use Rattle.std.proofs.Common.{sym, ◌∙◌, subst, arith}
use Rattle.std.proofs.lemmas.List.{length-replicate}
use Rattle.scan.specs.Entry.{replicate-at}
use Rattle.graph.specs.Net.{Net, Fits}
use Rattle.mesh.specs.declared.Mesh.{Mesh}
use Rattle.mesh.specs.WellFormed.{WellFormed}
use Rattle.nets.specs.Nets.{net_of}
use Rattle.nets.specs.Laws.Fits.{well_formed_fits}
use Rattle.depth_first.specs.Tree.{Tree, tour}
use Rattle.depth_first.proofs.Laws.Unfold.{unvisited-all}
use Rattle.depth_first.proofs.Laws.Nodes.{visit_nodes}
use Rattle.collection.specs.Arcs.{net_of_arcs, table_net, Chained}
use Rattle.collection.specs.Walked.{CanVisit, Walked, Visited, WalkedFrom}

-- none of the 64 nodes is visited
abbrev unseen : List Bool
unseen = replicate 64 false

flags : length unseen ≡ 64
flags = length-replicate {A = Bool} 64 false

module _ (m : Mesh) (W : WellFormed m) where
  few : m.nodes ≤ 64
  few = W.nodes_most

  net_fits : Fits (net_of m)
  net_fits = well_formed_fits W

  table_fits : Fits (table_net m)
  table_fits = record {
    some-node = omega arith;
    low_below = λ i l. omega (arith, few, net_fits.low_below i l);
    high_below = λ i l. omega (arith, few, net_fits.high_below i l);
  }

  module _ {next to : List ℕ} (K : Chained m next to) {root : ℕ} (inside : root < m.nodes) {route : List ℕ} where
    pub walk_can_visit : length route ≡ 127 → CanVisit (net_of_arcs 64 m.count to) next root 0 unseen route
    walk_can_visit e =
        subst (λ (G : Net). CanVisit G next root 0 unseen route) (sym K.net_is)
        (record {
          can = record { fits = table_fits; few = W.count_most; chains = K.chains };
          inside = omega (arith, few);
          new = replicate-at 64 false root;
          flags = flags;
          entries = e;
          room = omega (arith, unvisited-all (table_net m) unseen (replicate-at 64 false));
        })

    pub walked_from : {labels : List Bool} {r : ℕ} {seen' labels' : List Bool} {route' : List ℕ}
        → Visited (net_of_arcs 64 m.count to) root 0 unseen labels route r seen' labels' route'
        → WalkedFrom m root labels route r labels' route'
    walked_from {labels} {r} {seen'} {labels'} {route'} V =
        let X =
        subst (λ (T : Tree). Walked T (root ∷ tour root T) 0 (set unseen root true) labels route r seen' labels' route')
        (sym (visit_nodes (net_of m) 64 net_fits few root unseen (omega (arith, flags, few)) inside (replicate-at 64 false root)))
        (subst (λ (G : Net). Visited G root 0 unseen labels route r seen' labels' route') K.net_is V)
        in
        record { entries = X.next ∙ omega arith; labels_are = X.labels_are; written = X.written }
