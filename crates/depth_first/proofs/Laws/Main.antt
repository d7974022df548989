-- The search from a root of a connected net is as 02, request 5, says (`Folded`); where the walk has 2 N - 1 entries the net is connected. Assumes nothing.
use Rattle.std.specs.Prelude.{ℕ, ◌+◌, ◌-◌, ◌*◌, ◌≤◌, ◌<◌, ◌≡◌, refl, ◌⊎◌, ◌≢◌, Bool, true, false, length, set, replicate}
use Rattle.std.proofs.Common.{sym, ◌∙◌, inl, inr, ⊎_elim, arith, get_or-set_same}
use Rattle.std.proofs.Math.Path.{ap}
use Rattle.std.proofs.Math.Bool.{not}
use mathlib.Core.List.Memᴰ
use mathlib.Core.List.{List, ◌∷◌, Memᴰ}
use Rattle.std.proofs.Math.Decide.{ℕ_discrete}
use Rattle.std.proofs.lemmas.List.{length-replicate}
use borrow.Author.Tests.{not-false}
use Rattle.scan.specs.Entry.{at, has, replicate-at}
use Rattle.scan.specs.Test.{clash, known, three}
use Rattle.scan.specs.Flags.{set_only, extends_refl}
use Rattle.scan.specs.Total.{bit, count, count-zero}
use Rattle.graph.specs.Walk as walk
use Rattle.graph.specs.Walk.{carry}
use Rattle.graph.specs.Net as net
use Rattle.graph.specs.Net.{Net, Fits, Arc, both_ways, Strong}
use Rattle.graph.specs.Laws.Arcs.{both_arc, widen}
use Rattle.graph.specs.Laws.Arcs as arcs
use Rattle.depth_first.specs.Tree as tree
use Rattle.depth_first.specs.Tree.{Tree, leaf, marked, visited, labelled, tour}
use Rattle.depth_first.specs.Search.{unvisited, visit}
use Rattle.depth_first.specs.Crossings.{Crossing, crossings, times}
use Rattle.depth_first.specs.Folded.{Met, MetBy, Ancestor, Folded}
use Rattle.depth_first.proofs.Laws.Unfold.{visited_extends, wide_set, unvisited-all, unvisited_new}
use Rattle.depth_first.proofs.Laws.Follows.{Follows, visits_is, tour-length, New, placed, new_met, met_once}
use Rattle.depth_first.proofs.Laws.Ancestors.{Tried, closes, tried_visits, top, related}
use Rattle.depth_first.proofs.Laws.Crossings.{Leads, here, step, tour_leads, met_leads, leads_goes, leads_last, Crossed, crossed}

-- a node that the walk visits is one of its entries
new_listed : (T : Tree) (s : List Bool) (u w : ℕ) → New s (visited T s) w → Memᴰ w (tour u T)
unfolding marked tour
new_listed leaf s u w (f, t) = clash t f
new_listed (tree.branch i v below rest) s u w n =
    three (λ e. Memᴰ.head e)
    (λ b. Memᴰ.tail (Memᴰ.append_left _ (new_listed below (set s v true) v w b)))
    (λ r. Memᴰ.tail (Memᴰ.append_right (tour v below) (Memᴰ.tail (new_listed rest (visited below (set s v true)) u w r))))
    (placed s v below rest w n)

-- and is reached along the labelled links
leads_walk : {G : Net} {labels : List Bool} {u w x : ℕ} {cs : List Crossing} {vs : List ℕ} → Leads G labels u cs vs w → Memᴰ x vs
    → net.Leads G (λ i d. has labels i) u x
leads_walk here o = absurd (Memᴰ.not-nil o)
leads_walk {G} {labels} (step {u} {v} {c} x p) o =
    let a : Arc G (λ i d. has labels i) u v = record { link = c.link; way = c.way; below = x.below; free = x.in_tree; starts = x.starts; ends = x.ends } in
    ⊎_elim (λ e. walk.step a (walk.stay (sym e))) (λ q. walk.step a (leads_walk p q)) (Memᴰ.cases_cons o)

module _ (G : Net) (F : Fits G) (root : ℕ) (inside : root < G.nodes)
    (s₀ : List Bool) (none : (v : ℕ) → has s₀ v ≡ false) (wide : G.nodes ≤ length s₀) where
  open G use {nodes, links, low, high}

  -- no node is visited yet; the root is
  abbrev s₁ : List Bool
  s₁ = set s₀ root true

  abbrev T : Tree
  T = visit G root s₀

  search : Follows G 0 root s₁ T
  search = visits_is G F root s₀ wide inside (none root)

  root_seen : has s₁ root ≡ true
  root_seen = get_or-set_same s₀ root true false (omega arith)

  only_root : (v : ℕ) → has s₁ v ≡ true → v ≡ root
  only_root v t = ⊎_elim (λ e. e) (λ g. clash g (none v)) (set_only s₀ root v t)

  -- all links of a visited node lead to visited nodes
  all_tried : (v : ℕ) → has (visited T s₁) v ≡ true → Tried G 0 v (visited T s₁)
  all_tried v t = ⊎_elim (λ g. rw (only_root v g) (closes G search).own) (λ f. (closes G search).new v (f, t)) (known (has s₁ v))

  -- two entries for each node but the root that is visited
  length-tour : length (tour root T) + 2 * unvisited G (visited T s₁) ≡ 2 * nodes - 2
  length-tour = omega (arith, tour-length G (wide_set s₀ root wide) search, unvisited_new G s₀ root wide inside (none root), unvisited-all G s₀ none)

  pub tour_most : length (root ∷ tour root T) ≤ 2 * nodes - 1
  tour_most = omega (arith, length-tour)

  -- the walk leads from the root over its entries back to the root, along links that it labels
  module _ (m : ℕ) (h : links ≤ m) where
    abbrev t₀ : List Bool
    t₀ = replicate m false

    abbrev labels : List Bool
    labels = labelled T t₀

    room : links ≤ length t₀
    room = omega (arith, long)
      where
        long : length (replicate {A = Bool} m false) ≡ m
        long = length-replicate m false

    walks : Leads G labels root (crossings G root T) (tour root T) root
    walks = tour_leads G search t₀ room (extends_refl labels)

    told : Crossed G root T s₁ t₀
    told = crossed G search root_seen t₀ room (λ i y d. clash y (replicate-at m false i))

    once : (i : ℕ) (d : Bool) → times i d (crossings G root T) ≡ bit (has labels i)
    once i d = let z : bit (has t₀ i) ≡ 0 = ap bit (replicate-at m false i) in omega (arith, told.counts i d)

    past : (i : ℕ) → links ≤ i → has labels i ≡ false
    past i l = ⊎_elim (λ y. ⊎_elim (λ b. clash b (replicate-at m false i)) (λ b. absurd (omega arith)) (told.only i y)) (λ y. y) (known (has labels i))

    -- ---- where all nodes are visited

    module _ (all : (v : ℕ) → v < nodes → has (visited T s₁) v ≡ true) where
      new : (v : ℕ) → v < nodes → v ≢ root → New s₁ (visited T s₁) v
      new v v< n = (⊎_elim (λ t. absurd (n (only_root v t))) (λ f. f) (known (has s₁ v)), all v v<)

      none_left : unvisited G (visited T s₁) ≡ 0
      unfolding unvisited
      none_left = (count-zero (λ v. not (has (visited T s₁) v)) nodes).1 (λ v v<. ap not (all v v<))

      number : count (has labels) links ≡ nodes - 1
      number = omega (arith, told.number, length-tour, none_left, (count-zero (has t₀) links).1 (λ i l. replicate-at m false i))

      -- along the labelled links every node is reached from the root, and so from every other
      from_root : (v : ℕ) → v < nodes → net.Leads G (λ i d. has labels i) root v
      from_root v v< = elim (ℕ_discrete v root) [
        | yes e ↦ walk.stay (sym e)
        | no n ↦ leads_walk walks (new_listed T s₁ root v (new v v< n))
      ]

      joined : Strong G (λ i d. has labels i)
      joined u v hu hv = walk.join (arcs.back (λ i d o. o) (from_root u hu)) (from_root v hv)

      -- a link joins a node to one of its ancestors
      ancestors : (i : ℕ) → i < links → low i ≢ high i → Ancestor (low i) (high i) root T ⊎ Ancestor (high i) (low i) root T
      ancestors i l n = go (ℕ_discrete (low i) root) (ℕ_discrete (high i) root)
        where
          go : Dec (low i ≡ root) → Dec (high i ≡ root) → Ancestor (low i) (high i) root T ⊎ Ancestor (high i) (low i) root T
          go (yes a) (yes b) = absurd (n (a ∙ sym b))
          go (yes a) (no b) = inl (rw a (top G T s₁ root (high i) (new (high i) (F.high_below i l) b)))
          go (no a) (yes b) = inr (rw b (top G T s₁ root (low i) (new (low i) (F.low_below i l) a)))
          go (no a) (no b) = related G search i (low i) (high i) l n (inl (refl, refl)) (new (low i) (F.low_below i l) a) (new (high i) (F.high_below i l) b)

      -- the path to a node
      by_path : (w : ℕ) → (path : List ℕ) × Met w root T path → MetBy G labels root T w
      by_path w (path, p) =
          let I = met_leads G search t₀ room (extends_refl labels) p in
          record {
            path = path;
            meets = p;
            only = λ other q. met_once search p q;
            starts = I.starts;
            crossed = I.crossed;
            along = rw I.path_is (leads_goes G I.leads);
          }

      whole : ((i : ℕ) → i < links → low i ≢ high i) → Folded G root T (root ∷ tour root T) labels
      whole proper =
          let n : length (tour root T) ≡ 2 * nodes - 2 = omega (arith, length-tour, none_left) in
          record {
            entries = omega arith;
            first = refl;
            last = ap (at (root ∷ tour root T)) (sym n) ∙ leads_last G walks;
            along = leads_goes G walks;
            once = once;
            number = number;
            joined = joined;
            met = λ w l n. by_path w (new_met T s₁ root w (new w l n));
            ancestors = λ i l. ancestors i l (proper i l);
            past = past;
          }

    -- ---- all are visited in a connected net, and where the walk has 2 N - 1 entries

    pub folded : Strong G both_ways → ((i : ℕ) → i < links → low i ≢ high i) → Folded G root T (root ∷ tour root T) labels
    folded strong =
        whole
        (λ v v<. carry (λ (w : ℕ). has (visited T s₁) w ≡ true)
        (λ u w a t. let (i, l, j) = (both_arc G u w).0 a in tried_visits G (all_tried u t) i w l j)
        (strong root v inside v<)
        ((visited_extends T s₁).keeps root root_seen))

    pub all_met : 2 * nodes - 1 ≤ length (root ∷ tour root T) → Strong G both_ways
    unfolding unvisited
    all_met e =
        let z : unvisited G (visited T s₁) ≡ 0 = omega (arith, length-tour) in
        let s = joined (λ v v<. not-false _ ((count-zero (λ v. not (has (visited T s₁) v)) nodes).0 z v v<)) in
        λ u v hu hv. widen (λ i d l o. refl) (s u v hu hv)
