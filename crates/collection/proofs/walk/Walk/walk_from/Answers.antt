-- `walk::Walk::walk_from` meets its contract: its tables hold the arcs of the mesh, and no node is visited as the visit of the root begins.
use Prim.Native.Nat.{ℕ}
use lib.ListN.{length-replicate}
use Rattle.collection.proofs.Laws.Walk.{walk_can_visit, walked_from}
use Rattle.collection.proofs.walk.Walk.walk_from.Goals as goal

pub visit-requires : goal.visit-requires
visit-requires c =
    let K = c.chain_all.ensures in
    let (formed, inside) = c.requires.root_value in
    rw (K.links, c.requires.start) (walk_can_visit c.args.m.now formed K.chained inside (length-replicate {A = ℕ} 127 0))

pub returns : goal.returns
returns c =
    let K = c.chain_all.ensures in
    let (formed, inside) = c.requires.root_value in
    walked_from c.args.m.now formed K.chained inside (rw (K.links, c.requires.start) at c.visit.ensures)
