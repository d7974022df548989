-- The walk goes along its crossings, which are of links that it labels; it crosses each of these once each way and no other link; and it has two entries for each.
-- Assumes nothing.
use Rattle.std.specs.Prelude.{ℕ, zero, suc, ◌+◌, ◌*◌, ◌≤◌, ◌<◌, ◌≡◌, refl, ◌⊎◌, Bool, cond, not, ◌&&◌, ◌||◌, eqb}
use Rattle.std.proofs.Common.{sym, ◌∙◌, get_or-set_same, get_or-set_other, eqb-true, eq-eqb, ne_eqb}
use Rattle.std.proofs.Math.Path.{ap}
use Rattle.std.proofs.Math.Logic.{inl, inr, ⊎_elim}
use Rattle.std.proofs.Math.Bool.{true, false, xor, not-not}
use mathlib.Core.List.{List, [], ◌∷◌, ◌++◌}
use native.Mathlib.Omega.{arith}
use Rattle.std.proofs.Math.Decide.{ℕ_discrete}
use Rattle.std.proofs.Math.ListN.{length, set, length-set, length-append}
use Rattle.scan.specs.Entry.{at, has}
use Rattle.scan.specs.Test.{clash, known}
use Rattle.scan.specs.Flags.{set_only, set_keeps, Extends, extends_trans, count_set}
use Rattle.scan.specs.Total.{bit, count}
use Rattle.graph.specs.Net.{Net, end}
use Rattle.depth_first.specs.Tree as tree
use Rattle.depth_first.specs.Tree.{Tree, marked, visited, labelled, tour}
use Rattle.depth_first.specs.Search.{touches, far}
use Rattle.depth_first.specs.Crossings.{Crossing, out, back, crossings, crossing, Crosses, Goes, times}
use Rattle.depth_first.specs.Folded.{Met, now, deeper, later}
use Rattle.depth_first.proofs.Laws.Unfold.{visited_extends, labelled_extends}
use Rattle.depth_first.proofs.Laws.Follows.{Follows, done, pass, take}

-- ---- how often a link is crossed

times-append : (i : ℕ) (d : Bool) (xs ys : List Crossing) → times i d (xs ++ ys) ≡ times i d xs + times i d ys
unfolding times
times-append i d [] ys = omega arith
times-append i d (c ∷ xs) ys = omega (arith, times-append i d xs ys)

-- a link and back: once each way
one_way : (a d : Bool) → bit (true && not (xor (not a) d)) + bit (true && not (xor a d)) ≡ 1
unfolding xor
one_way true true = refl
one_way true false = refl
one_way false true = refl
one_way false false = refl

two_ways : (k : ℕ) (a : Bool) (t : List Bool) (i : ℕ) (d : Bool) → k < length t → has t k ≡ false
    → bit (eqb k i && not (xor (not a) d)) + bit (eqb k i && not (xor a d)) + bit (has t i) ≡ bit (has (set t k true) i)
two_ways k a t i d h z = go (ℕ_discrete k i)
  where
    go : Dec (k ≡ i) → bit (eqb k i && not (xor (not a) d)) + bit (eqb k i && not (xor a d)) + bit (has t i) ≡ bit (has (set t k true) i)
    go (yes e) = rw (eq-eqb k i e, ← e, get_or-set_same t k true false h, z) (omega (arith, one_way a d))
    go (no n) = rw (ne_eqb k i n, get_or-set_other t k i true false (λ e. n (sym e))) (omega arith)

module _ (G : Net) where
  open G use {links, low, high}

  -- ---- the ends of a link that is followed

  -- link i, which is at u, has u at one end and the far node at the other
  ends_at : (u i : ℕ) → touches G u i ≡ true → (u ≡ end G i (not (eqb (low i) u))) × (far G u i ≡ end G i (eqb (low i) u))
  ends_at u i t = go (eqb (low i) u) refl t
    where
      go : (a : Bool) → eqb (low i) u ≡ a → (a || eqb (high i) u) ≡ true → (u ≡ end G i (not a)) × (cond a (high i) (low i) ≡ end G i a)
      go true e d = (sym (eqb-true (low i) u e), refl)
      go false e d = (sym (eqb-true (high i) u d), refl)

  -- ---- along the crossings

  -- the crossings lead from u over these nodes to w
  pub data Leads (labels : List Bool) : ℕ → List Crossing → List ℕ → ℕ → Type 0 where
    here : {u : ℕ} → Leads labels u [] [] u
    step : {u v w : ℕ} {c : Crossing} {cs : List Crossing} {vs : List ℕ} → Crosses G labels c u v → Leads labels v cs vs w → Leads labels u (c ∷ cs) (v ∷ vs) w

  -- the path by which a node is met leads to it from u
  pub record PathLeads (labels : List Bool) (u w : ℕ) (path : List ℕ) : Type 0 where
    pub crossed : List Crossing
    pub nodes : List ℕ
    pub leads : Leads labels u crossed nodes w
    pub path_is : path ++ (w ∷ []) ≡ u ∷ nodes
    pub starts : at path 0 ≡ u

  module _ {labels : List Bool} where
    join : {u w x : ℕ} {cs ds : List Crossing} {vs ws : List ℕ} → Leads labels u cs vs w → Leads labels w ds ws x → Leads labels u (cs ++ ds) (vs ++ ws) x
    join here q = q
    join (step c p) q = step c (join p q)

    -- as the route of them
    pub leads_goes : {u w : ℕ} {cs : List Crossing} {vs : List ℕ} → Leads labels u cs vs w → Goes G labels (u ∷ vs) cs
    leads_goes p = record { entries = ap suc (leads_length p); each = leads_each p }
      where
        leads_length : {u w : ℕ} {cs : List Crossing} {vs : List ℕ} → Leads labels u cs vs w → length vs ≡ length cs
        leads_length here = refl
        leads_length (step c p) = ap suc (leads_length p)

        leads_each : {u w : ℕ} {cs : List Crossing} {vs : List ℕ} → Leads labels u cs vs w
            → (j : ℕ) → j < length cs → Crosses G labels (crossing cs j) (at (u ∷ vs) j) (at (u ∷ vs) (suc j))
        leads_each here j h = absurd (omega arith)
        leads_each (step c p) zero h = c
        leads_each (step c p) (suc j) h = leads_each p j (omega arith)

    -- which ends at w
    pub leads_last : {u w : ℕ} {cs : List Crossing} {vs : List ℕ} → Leads labels u cs vs w → at (u ∷ vs) (length vs) ≡ w
    leads_last here = refl
    leads_last (step c p) = leads_last p

    -- a link that is followed is crossed to its new node
    crosses_out : (u k v : ℕ) → v ≡ far G u k → k < links → touches G u k ≡ true → has labels k ≡ true → Crosses G labels (out G u k) u v
    crosses_out u k v e k< h t = let (near, other) = ends_at u k h in record { below = k<; in_tree = t; starts = near; ends = rw not-not (e ∙ other) }

    -- and it is labelled
    first : (t : List Bool) (k : ℕ) (below rest : Tree) → k < length t → Extends (labelled rest (labelled below (set t k true))) labels → has labels k ≡ true
    first t k below rest h x =
        x.keeps k ((labelled_extends rest (labelled below (set t k true))).keeps k ((labelled_extends below (set t k true)).keeps k (get_or-set_same t k true false h)))

    -- the walk along the tree below u, whose links are labelled
    pub tour_leads : {k u : ℕ} {s : List Bool} {T : Tree} → Follows G k u s T → (t : List Bool) → links ≤ length t → Extends (labelled T t) labels
        → Leads labels u (crossings G u T) (tour u T) u
    unfolding crossings tour marked
    tour_leads (done d) t l x = here
    tour_leads (pass k< o p) t l x = tour_leads p t l x
    tour_leads {k} {u} {T = tree.branch _ _ below rest} (take v e k< h f vn v< p q) t l x =
        let t₁ = set t k true in
        let y = extends_trans (labelled_extends rest (labelled below t₁)) x in
        let in_tree = first t k below rest (omega arith) x in
        let (near, other) = ends_at u k h in
        let l₁ : links ≤ length t₁ = omega (arith, length-set t k true) in
        step (crosses_out u k v e k< h in_tree)
        (join (tour_leads p t₁ l₁ y)
        (step (record { below = k<; in_tree = in_tree; starts = e ∙ other; ends = near })
        (tour_leads q (labelled below t₁) (omega (arith, (labelled_extends below t₁).sized)) x)))

    pub met_leads : {k u w : ℕ} {s : List Bool} {T : Tree} {path : List ℕ} → Follows G k u s T → (t : List Bool) → links ≤ length t → Extends (labelled T t) labels
        → Met w u T path → PathLeads labels u w path
    unfolding marked
    met_leads (done d) t l x m = elim m [ ]
    met_leads (pass k< o p) t l x m = met_leads p t l x m
    met_leads {k} {u} {w} {T = tree.branch _ _ below rest} (take v e k< h f vn v< p q) t l x (now d) = record {
      crossed = out G u k ∷ [];
      nodes = w ∷ [];
      leads = step (crosses_out u k w (d ∙ e) k< h (first t k below rest (omega arith) x)) here;
      path_is = refl;
      starts = refl;
    }
    met_leads {k} {u} {T = tree.branch _ _ below rest} (take v e k< h f vn v< p q) t l x (deeper m) =
        let t₁ = set t k true in
        let y = extends_trans (labelled_extends rest (labelled below t₁)) x in
        let I = met_leads p t₁ (omega (arith, length-set t k true)) y m in
        record {
          crossed = out G u k ∷ I.crossed;
          nodes = v ∷ I.nodes;
          leads = step (crosses_out u k v e k< h (first t k below rest (omega arith) x)) I.leads;
          path_is = ap (λ (vs : List ℕ). u ∷ vs) I.path_is;
          starts = refl;
        }
    met_leads {k} {u} {T = tree.branch _ _ below rest} (take v e k< h f vn v< p q) t l x (later m) =
        let t₁ = set t k true in
        met_leads q (labelled below t₁) (omega (arith, (labelled_extends below t₁).sized, length-set t k true)) x m

  -- ---- how often each link is crossed

  -- both ends of each labelled link are visited
  abbrev pub Ended : List Bool → List Bool → Type 0
  Ended t s = (i : ℕ) → has t i ≡ true → (d : Bool) → has s (end G i d) ≡ true

  -- a link that is followed, with its new node
  ended-more : (s t : List Bool) (u k v : ℕ) → Ended t s → u ≡ end G k (not (eqb (low k) u)) → v ≡ end G k (eqb (low k) u) → has s u ≡ true → v < length s
      → Ended (set t k true) (set s v true)
  ended-more s t u k v m near other g v< i z d = ⊎_elim (λ e. rw e (at-end (eqb (low k) u) d near other)) (λ y. set_keeps s v (end G i d) (m i y d)) (set_only t k i z)
    where
      at-end : (a d : Bool) → u ≡ end G k (not a) → v ≡ end G k a → has (set s v true) (end G k d) ≡ true
      at-end true true p q = rw (← q) (get_or-set_same s v true false v<)
      at-end true false p q = rw (← p) (set_keeps s v u g)
      at-end false true p q = rw (← p) (set_keeps s v u g)
      at-end false false p q = rw (← q) (get_or-set_same s v true false v<)

  -- what the walk along the tree below u does to the labels t, with the nodes s visited
  pub record Crossed (u : ℕ) (T : Tree) (s t : List Bool) : Type 0 where
    pub counts : (i : ℕ) (d : Bool) → times i d (crossings G u T) + bit (has t i) ≡ bit (has (labelled T t) i)
    pub number : length (tour u T) + 2 * count (has t) links ≡ 2 * count (has (labelled T t)) links
    pub only : (i : ℕ) → has (labelled T t) i ≡ true → (has t i ≡ true) ⊎ (i < links)
    pub ended : Ended (labelled T t) (visited T s)

  pub crossed : {k u : ℕ} {s : List Bool} {T : Tree} → Follows G k u s T → has s u ≡ true → (t : List Bool) → links ≤ length t → Ended t s → Crossed u T s t
  unfolding crossings times marked tour
  crossed (done d) g t l m = record { counts = λ i d. omega arith; number = omega arith; only = λ i h. inl h; ended = m }
  crossed (pass k< o p) g t l m = crossed p g t l m
  crossed {k} {u} {s} {T = tree.branch _ _ below rest} (take v e k< h f vn v< p q) g t l m =
      let s₁ = set s v true in
      let t₁ = set t k true in
      let (near, other) = ends_at u k h in
      let l₁ : links ≤ length t₁ = omega (arith, length-set t k true) in
      let b = crossed p (get_or-set_same s v true false v<) t₁ l₁ (ended-more s t u k v m near (e ∙ other) g v<) in
      let t₂ = labelled below t₁ in
      let a = crossed q ((visited_extends below s₁).keeps u (set_keeps s v u g)) t₂ (omega (arith, (labelled_extends below t₁).sized)) b.ended in
      record {
        counts = λ i d.
            omega (
              arith,
              b.counts i d,
              a.counts i d,
              two_ways k (eqb (low k) u) t i d (omega arith) new,
              times-append i d (crossings G v below) (back G u k ∷ crossings G u rest),
            );
        number = omega (arith, b.number, a.number, count_set t links k k< (omega arith) new, length-append (tour v below) (u ∷ tour u rest));
        only = λ i z. ⊎_elim (λ y. ⊎_elim (λ x. ⊎_elim (λ c. inr (rw c k<)) (λ c. inl c) (set_only t k i x)) inr (b.only i y)) inr (a.only i z);
        ended = a.ended;
      }
    where
      new : has t k ≡ false
      new = ⊎_elim (λ y. clash (rw (e ∙ (ends_at u k h).1) (m k y (eqb (low k) u))) f) (λ y. y) (known (has t k))

-- from each entry of a route but the last
pub goes_each : {G : Net} {labels : List Bool} {route : List ℕ} {cs : List Crossing} → Goes G labels route cs
    → (j : ℕ) → suc j < length route → Crosses G labels (crossing cs j) (at route j) (at route (suc j))
goes_each g j h = g.each j (omega (arith, g.entries))
