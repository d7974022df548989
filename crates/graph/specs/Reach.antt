-- The nodes that a walk from one node comes to, computed: as many rounds as there are nodes, each over all links in order, that mark the
-- far end of each open way whose near end is marked. Definitions only.
use Rattle.std.specs.Prelude.{ℕ, zero, suc, Bool, true, false, not, ◌&&◌, cond, List, get_or, set, replicate}
use Rattle.graph.specs.Net.{Net, end, Ways}

unfoldable pub mark_way : Net → Ways → ℕ → Bool → List Bool → List Bool
mark_way G m i d s = cond (m i d && get_or s (end G i d) false) (set s (end G i (not d)) true) s

unfoldable pub mark_link : Net → Ways → ℕ → List Bool → List Bool
mark_link G m i s = mark_way G m i true (mark_way G m i false s)

-- the links below k, in order
unfoldable pub mark_links : Net → Ways → ℕ → List Bool → List Bool
mark_links G m zero s = s
mark_links G m (suc k) s = mark_link G m k (mark_links G m k s)

unfoldable pub rounds : Net → Ways → ℕ → List Bool → List Bool
rounds G m zero s = s
rounds G m (suc n) s = mark_links G m G.links (rounds G m n s)

-- the marks after all rounds, of which at first all but u's are off
unfoldable pub reached : Net → Ways → ℕ → List Bool
reached G m u = rounds G m G.nodes (set (replicate G.nodes false) u true)

unfoldable pub reaches : Net → Ways → ℕ → ℕ → Bool
reaches G m u v = get_or (reached G m u) v false
