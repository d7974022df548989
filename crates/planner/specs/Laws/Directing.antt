-- The pass over the links as the code makes it: link k's two ways are shut in both tables, and by what the searches then say one of them is opened again, which is
-- the greedy direction, or link k is a bridge. Assumes nothing.
use Rattle.std.specs.Prelude.{ℕ, suc, ◌+◌, ◌-◌, ◌/◌, ◌%◌, ◌<◌, ◌≤◌, ◌≡◌, refl, Bool, true, false, not, Option, Some, Result, Ok, Err, List, [], ◌∷◌, ◌++◌, set, replicate}
use Rattle.std.specs.Prelude as option
use Rattle.std.proofs.Common.{sym, ◌∙◌, append_assoc, arith, add-one, le_refl}
use Rattle.std.proofs.Math.Logic.Iff
use Rattle.std.proofs.lemmas.Bool.{false≢true}
use Rattle.std.proofs.lemmas.List.{set_at}
use Rattle.scan.specs.Test.{Says}
use Rattle.scan.specs.Entry.{at}
use Rattle.scan.specs.Lowest.{None, none_yet, none_next, lowest_found, any_found, any_none}
use Rattle.mesh.specs.declared.Mesh.{Mesh}
use Rattle.mesh.specs.WellFormed.{link}
use Rattle.graph.specs.Net.{Net, Fits, end, Ways, Strong, both_ways, without, code}
use Rattle.graph.specs.Plan.{parts}
use Rattle.graph.specs.Greedy.{greedy, direction, begun, bridge}
use Rattle.graph.specs.Laws.Bridge.{unbridged_up, unbridged_down, bridge-parts}
use Rattle.graph.specs.Laws.Pass.{greedy-length, begun_late, begun-next, next_up, next_down, stuck_bridge}
use Rattle.rows.specs.Rows.{put, cut, Directed, LinkDirected, up, down, stuck}
use Rattle.nets.specs.Nets.{net_of, Table}
use Rattle.nets.specs.Parallel.{Ordered}
use Rattle.nets.specs.Laws.Fits.{well_formed_fits}
use Rattle.nets.specs.Laws.Ordered.{well_formed_ordered}
use Rattle.nets.specs.Laws.Table.{opened_says}
use Rattle.planner.specs.Search.{Given, directed}
use Rattle.planner.specs.Parallel.{Earlier, Later}
use Rattle.planner.specs.Laws.Stored.{ends_counted, later_says}
use Rattle.planner.specs.Laws.Parallel.{stays}
use Rattle.planner.specs.Laws.Tables.{Tables, both_tables, found, none_found, same_tables, put_tables, cut_tables}

-- ---- one link

module _ {G : Net} (F : Fits G) (n : G.nodes ≤ 64) (O : Ordered G) (k : ℕ) (h : k < G.links) {before after : Bool}
    (B : Says before (Earlier G k)) (A : Says after (Later G k)) {t e : List ℕ} (T : Tables G (begun G k) t e) where
  abbrev rest : Ways
  rest = without k (begun G k)

  -- the tables without link k
  abbrev out : List ℕ
  out = cut t (G.low k) (G.high k) before after

  abbrev into : List ℕ
  into = cut e (G.high k) (G.low k) before after

  rest_tables : Tables G rest out into
  rest_tables = cut_tables F n O k h T (λ d. begun_late G k k d (le_refl k)) before after (stays F O k h B A)

  -- the link's direction opens its way again
  next_tables : (d : Bool) → direction G k ≡ code d
      → Tables G (begun G (suc k)) (put out (end G k d) (end G k (not d))) (put into (end G k (not d)) (end G k d))
  next_tables d q =
      same_tables (put_tables rest_tables F n k h d) (begun G (suc k)) (λ i b l. Iff.trans (begun-next G k d q i b) (Iff.symm (opened_says k d rest i b)))

  -- the link got the direction d
  record Got (d : ℕ) (x y : List ℕ) : Type 0 where
    direction_is : d ≡ direction G k
    unbridged : bridge G k ≡ false
    tables : Tables G (begun G (suc k)) x y

  got : {d : ℕ} {x y : List ℕ} → Directed out into (G.low k) (G.high k) (Some d) x y → Got d x y
  got (up w) =
      let p = found rest_tables w in
      let q = next_up F k h p in
      record { direction_is = sym q; unbridged = unbridged_up F k h (begun G k) p; tables = next_tables false q }
  got (down v w) =
      let q = next_down F k h (none_found rest_tables v) in
      record { direction_is = sym q; unbridged = unbridged_down F k h (begun G k) (found rest_tables w); tables = next_tables true q }

  got_none : Strong G both_ways → None (bridge G) k → {x y : List ℕ} → Directed out into (G.low k) (G.high k) option.None x y → bridge G k ≡ true
  got_none c f (stuck v w) = stuck_bridge F c k h f (none_found rest_tables v) (none_found rest_tables w)

-- ---- all links

-- the directions of the first k links, and zeros
abbrev directions : Net → ℕ → List ℕ
directions G k = greedy G k ++ replicate (256 - k) 0

directions-next : (G : Net) (k : ℕ) → k < 256 → set (directions G k) k (direction G k) ≡ directions G (k + 1)
unfolding greedy
directions-next G k h =
    let z : 256 - k ≡ suc (256 - (k + 1)) = omega arith in
    let zeros : List ℕ = replicate (256 - suc k) 0 in
    rw (z, add-one k) (set_at (greedy G k) 0 zeros (direction G k) k (greedy-length G k) ∙ sym (append_assoc (greedy G k) (direction G k ∷ []) zeros))

-- where the pass stands at link k
pub record Directing (m : Mesh) (t e q : List ℕ) (before : Bool) (k : ℕ) : Type 0 where
  pub within : k ≤ m.count
  pub tables : Tables (net_of m) (begun (net_of m) k) t e
  pub unbridged : None (bridge (net_of m)) k
  pub directions_are : q ≡ directions (net_of m) k
  pub before_says : Says before (Earlier (net_of m) k)

pub directing_start : {m : Mesh} {t : List ℕ} → Table (net_of m) both_ways t → Directing m t t (replicate 256 0) false 0
unfolding greedy
directing_start {m} T = record {
  within = omega arith;
  tables = same_tables (both_tables T) (begun (net_of m) 0) (λ i d l. (λ _. refl, λ _. begun_late (net_of m) 0 i d (omega arith)));
  unbridged = none_yet _;
  directions_are = refl;
  before_says = (λ e. absurd (false≢true e), λ (i, e, _). absurd (omega arith));
}

module _ {m : Mesh} {count : ℕ} {ends ways : List ℕ} (Q : Given m count ends ways) {t e q : List ℕ} {before : Bool} {k : ℕ} (D : Directing m t e q before k) where
  parts_is : (j : ℕ) → j < m.count → parts (net_of m) j ≡ bridge (net_of m) j
  parts_is j l = sym (bridge-parts (well_formed_fits Q.formed) j l Q.joined)

  -- the links before k do not part the mesh
  whole : None (parts (net_of m)) k
  whole j l = parts_is j (omega (arith, D.within)) ∙ D.unbridged j l

  -- link k's turn, with the flag and what the code gives the link, whose ends count as themselves
  module _ (h : k < count) {after : Bool} (A : Says after ((k < 255) × (at ends k ≡ at ends (k + 1)))) where
    inside : k < m.count
    inside = rw Q.counted at h

    later : Says after (Later (net_of m) k)
    later = later_says Q.formed k inside (rw Q.stored at A)

    module _ {low high : ℕ} (low-is : low ≡ at ends k / 256) (high_is : high ≡ at ends k % 256) {d : Option ℕ} {x y : List ℕ}
        (R : LinkDirected t e (low % 64) (high % 64) before after d x y) where
      linked : LinkDirected t e (link m k).low (link m k).high before after d x y
      linked = let (l, u) = ends_counted Q.formed k inside in rw (low-is, high_is, Q.stored, l, u) at R

      pub directing_next : {v : ℕ} → d ≡ Some v → Directing m x y (set q k v) after (k + 1)
      directing_next g =
          let W = Q.formed in
          let g = got (well_formed_fits W) W.nodes_most (well_formed_ordered W) k inside D.before_says later D.tables (rw g at linked) in
          record {
            within = omega (arith, inside);
            tables = rw (add-one k) g.tables;
            unbridged = none_next (bridge (net_of m)) k D.unbridged g.unbridged;
            directions_are = rw (D.directions_are, g.direction_is) (directions-next (net_of m) k (omega (arith, inside, W.count_most)));
            before_says = (λ o. (k, omega arith, later.0 o), λ (i, s, L). let p : i ≡ k = omega arith in later.1 (rw p at L));
          }

      pub directed-bridge : d ≡ option.None → Err k ≡ directed m
      unfolding directed
      directed-bridge g =
          let W = Q.formed in
          let b = got_none (well_formed_fits W) W.nodes_most (well_formed_ordered W) k inside D.before_says later D.tables Q.joined D.unbridged (rw g at linked) in
          let parted = parts_is k inside ∙ b in
          rw (any_found (parts (net_of m)) m.count k inside parted, lowest_found (parts (net_of m)) m.count k inside whole parted)

  pub directed-all : count ≤ k → Ok q ≡ directed m
  unfolding directed
  directed-all h =
      let z : k ≡ m.count = omega (arith, Q.counted, D.within) in
      rw (any_none (parts (net_of m)) m.count k whole (omega arith), D.directions_are, z)
