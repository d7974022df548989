-- `Walk::visit` and `Walk::follow`, which call each other, meet their contracts. The falling number of a visit is made of the unvisited nodes, that of following of
-- the untried links besides. What is asked and given at each call is proved in proofs/Laws/Steps.antt; here the paths are handed over.
use Prim.Native.Nat.{◌/◌}
use Rattle.depth_first.specs.Search.{visiting, following}
use Rattle.collection.specs.Walked.{net_in}
use Rattle.collection.proofs.walk.Walk.+follow_visit.Given as goal

-- ---- the falling numbers

abbrev pub decreases-follow : goal.decreases-follow
decreases-follow l = following (net_in l.arcs.now) l.self.now.seen (l.arc / 2)

abbrev pub decreases-visit : goal.decreases-visit
decreases-visit l = visiting (net_in l.arcs.now) l.self.now.seen
