-- The search as a relation, with a clause for each thing that can happen at a link; how long the walk is, and where a node is met. Assumes nothing.
use Prim.Native.Nat.{ℕ, zero, suc, ◌+◌, ◌-◌, ◌*◌, ◌≤◌, ◌<◌}
use Rattle.std.specs.Prelude.{◌≡◌, ◌⊎◌, Bool, cond}
use Rattle.std.proofs.Math.Path.{refl, ap}
use Rattle.std.proofs.Common.{inl, inr, ⊎_elim, get_or-set_same}
use Rattle.std.proofs.Math.Bool.{true, false}
use mathlib.Core.List.{List, ◌∷◌, Memᴰ}
use native.Mathlib.Omega.{arith}
use Rattle.std.proofs.Math.ListN.{length, set, length-append}
use Rattle.std.proofs.Math.Dec.{ltb}
use borrow.Author.Tests.{ltb-true, ltb-false}
use Rattle.scan.specs.Entry.{has}
use Rattle.scan.specs.Test.{clash, known, three}
use Rattle.scan.specs.Flags.{set_only, Extends, extends_refl, extends_trans, extends_set}
use Rattle.graph.specs.Net.{Net, Fits}
use Rattle.depth_first.specs.Tree as tree
use Rattle.depth_first.specs.Tree.{Tree, leaf, branch, marked, visited, tour}
use Rattle.depth_first.specs.Search.{touches, far, opens, unvisited, visiting, following, visit_by, follow_by, visit}
use Rattle.depth_first.specs.Folded.{Met, now, deeper, later}
use Rattle.depth_first.proofs.Laws.Unfold.{visited_extends, wide_set, wide_visited, unvisited_new, visiting_new, visiting-le, opens_says, opens_new, far_below}

-- ---- the relation

module _ (G : Net) where
  -- trying the links of u from k on, with these nodes visited, gives this tree
  pub data Follows : ℕ → ℕ → List Bool → Tree → Type 0 where
    done : {k u : ℕ} {s : List Bool} → G.links ≤ k → Follows k u s leaf
    pass : {k u : ℕ} {s : List Bool} {T : Tree} → k < G.links → opens G s u k ≡ false → Follows (k + 1) u s T → Follows k u s T
    take : {k u : ℕ} {s : List Bool} {below rest : Tree} (v : ℕ) → v ≡ far G u k → k < G.links → touches G u k ≡ true → has s v ≡ false → v < G.nodes → v < length s
        → Follows 0 v (set s v true) below → Follows (k + 1) u (visited below (set s v true)) rest → Follows k u s (branch k v below rest)

  module _ (F : Fits G) where
    open G use {nodes, links}

    record Gives (n : ℕ) : Type 0 where
      visits : (u : ℕ) (s : List Bool) → nodes ≤ length s → u < nodes → has s u ≡ false → visiting G s ≤ n → Follows 0 u (set s u true) (visit_by G n u s)
      follows : (k u : ℕ) (s : List Bool) → nodes ≤ length s → following G s k ≤ n → Follows k u s (follow_by G n k u s)

    gives : (n : ℕ) → Gives n
    unfolding visit_by following
    gives zero = record {
      visits = λ u s e h f a. absurd (omega (arith, visiting_new G s u e h f));
      follows = λ k u s e a. let past : links ≤ k = omega arith in done past;
    }
    gives (suc n) = step (gives n)
      where
        step : Gives n → Gives (suc n)
        step S = record {
          visits = λ u s e h f a.
              let w = visiting_new G s u e h f in
              S.follows 0 u (set s u true) (wide_set s u e) (omega arith);
          follows = λ k u s e a. go k u s e a (ltb k links) refl (opens G s u k) refl;
        }
          where
            go : (k u : ℕ) (s : List Bool) → nodes ≤ length s → visiting G s + (links - k) ≤ suc n
                → (t : Bool) → ltb k links ≡ t → (o : Bool) → opens G s u k ≡ o
                → Follows k u s (cond t (cond o (branch k (far G u k) (visit_by G n (far G u k) s) (follow_by G n (k + 1) u (visited (visit_by G n (far G u k) s) (set s (far G u k) true)))) (follow_by G n (k + 1) u s)) leaf)
            go k u s e a true l true o =
                let k< = ltb-true k links l in
                let v< = far_below G F u k k< in
                let f = opens_new G s u k o in
                let w = visiting_new G s (far G u k) e v< f in
                let B = visit_by G n (far G u k) s in
                let s₁ = set s (far G u k) true in
                let d = visiting-le G B s₁ in
                let in_list : far G u k < length s = omega arith in
                take (far G u k) refl k< ((opens_says G s u k).0 o).0 f v< in_list (S.visits (far G u k) s e v< f (omega arith))
                (S.follows (k + 1) u (visited B s₁) (wide_visited B s₁ (wide_set s (far G u k) e)) (omega arith))
            go k u s e a true l false o =
                let k< = ltb-true k links l in
                pass k< o (S.follows (k + 1) u s e (omega arith))
            go k u s e a false l o p = done (ltb-false k links l)

    -- a visit of a new node is related to its tree
    pub visits_is : (u : ℕ) (s : List Bool) → nodes ≤ length s → u < nodes → has s u ≡ false → Follows 0 u (set s u true) (visit G u s)
    unfolding visit
    visits_is u s e h f = (gives (visiting G s)).visits u s e h f (omega arith)

  -- ---- how long the walk is: two entries for each node that it visits

  pub tour-length : {k u : ℕ} {s : List Bool} {T : Tree} → G.nodes ≤ length s → Follows k u s T → length (tour u T) + 2 * unvisited G (visited T s) ≡ 2 * unvisited G s
  unfolding tour marked
  tour-length e (done d) = omega arith
  tour-length e (pass k< o p) = tour-length e p
  tour-length {k} {u} {s} {T = tree.branch _ _ below rest} e (take v i k< t f vn v< p q) =
      let s₁ = set s v true in
      let e₁ = wide_set s v e in
      let a = tour-length e₁ p in
      let b = tour-length (wide_visited below s₁ e₁) q in
      omega (arith, a, b, unvisited_new G s v e vn f, length-append (tour v below) (u ∷ tour u rest))

-- ---- where a node is met

-- a node that is visited between s and r
abbrev pub New : List Bool → List Bool → ℕ → Type 0
New s r w = (has s w ≡ false) × (has r w ≡ true)

-- it is v, or it is met below v, or later
pub placed : (s : List Bool) (v : ℕ) (below rest : Tree) (w : ℕ) → New s (visited rest (visited below (set s v true))) w
    → (w ≡ v) ⊎ (New (set s v true) (visited below (set s v true)) w ⊎ New (visited below (set s v true)) (visited rest (visited below (set s v true))) w)
placed s v below rest w (f, t) =
    ⊎_elim
    (λ b. ⊎_elim (λ a. inl (⊎_elim (λ e. e) (λ g. clash g f) (set_only s v w a))) (λ a. inr (inl (a, b))) (known (has (set s v true) w)))
    (λ b. inr (inr (b, t)))
    (known (has (visited below (set s v true)) w))

-- so a path leads to it from u
pub new_met : (T : Tree) (s : List Bool) (u w : ℕ) → New s (visited T s) w → (path : List ℕ) × Met w u T path
unfolding marked
new_met leaf s u w (f, t) = clash t f
new_met (tree.branch i v below rest) s u w n =
    three (λ e. (_, now e)) (λ b. let (p, m) = new_met below (set s v true) v w b in (_, deeper m))
    (λ r. let (p, m) = new_met rest (visited below (set s v true)) u w r in (p, later m))
    (placed s v below rest w n)

-- which begins at u
pub met_top : {w u : ℕ} {T : Tree} {path : List ℕ} → Met w u T path → Memᴰ u path
met_top (now e) = Memᴰ.head refl
met_top (deeper m) = Memᴰ.head refl
met_top (later m) = met_top m

-- a flag that is not set was not set before
unset : {s r : List Bool} → Extends s r → (w : ℕ) → has r w ≡ false → has s w ≡ false
unset {s} x w f = ⊎_elim (λ t. clash (x.keeps w t) f) (λ g. g) (known (has s w))

module _ {G : Net} where
  -- a node that is met was new
  pub met_new : {k u w : ℕ} {s : List Bool} {T : Tree} {path : List ℕ} → Follows G k u s T → Met w u T path → New s (visited T s) w
  unfolding marked
  met_new (done d) m = elim m [ ]
  met_new (pass k< o p) m = met_new p m
  met_new {w} {s} {T = tree.branch _ _ below rest} (take v i k< t f vn v< p q) (now e) =
      let s₁ = set s v true in
      rw e (f, (visited_extends rest (visited below s₁)).keeps v ((visited_extends below s₁).keeps v (get_or-set_same s v true false v<)))
  met_new {w} {s} {T = tree.branch _ _ below rest} (take v i k< t f vn v< p q) (deeper m) =
      let (g, b) = met_new p m in
      (unset (extends_set (extends_refl s) v) w g, (visited_extends rest (visited below (set s v true))).keeps w b)
  met_new {w} {s} {T = tree.branch _ _ below rest} (take v i k< t f vn v< p q) (later m) =
      let (g, b) = met_new q m in
      (unset (extends_trans (extends_set (extends_refl s) v) (visited_extends below (set s v true))) w g, b)

  -- v itself, a node below it and a later node are three
  own_below {ℓ} : {C : Type ℓ} {v w : ℕ} (s : List Bool) {T : Tree} {path : List ℕ} → v < length s → Follows G 0 v (set s v true) T → w ≡ v → Met w v T path → C
  own_below {v} s h p e m = clash (rw e (get_or-set_same s v true false h)) (met_new p m).0

  own-later {ℓ} : {C : Type ℓ} {k u v w : ℕ} (s : List Bool) (B : Tree) {T : Tree} {path : List ℕ} → v < length s → Follows G k u (visited B (set s v true)) T → w ≡ v → Met w u T path → C
  own-later {v} s B h q e m = clash (rw e ((visited_extends B (set s v true)).keeps v (get_or-set_same s v true false h))) (met_new q m).0

  below-later {ℓ} : {C : Type ℓ} {k u v w : ℕ} {s : List Bool} {B T : Tree} {path other : List ℕ} → Follows G 0 v s B → Follows G k u (visited B s) T → Met w v B path → Met w u T other → C
  below-later p q m n = clash (met_new p m).1 (met_new q n).0

  -- so it is met once, and by one path
  pub met_once : {k u w : ℕ} {s : List Bool} {T : Tree} {path other : List ℕ} → Follows G k u s T → Met w u T path → Met w u T other → other ≡ path
  unfolding marked
  met_once (done d) m n = elim m [ ]
  met_once (pass k< o p) m n = met_once p m n
  met_once (take v i k< t f vn v< p q) (now e) (now d) = refl
  met_once {u} (take v i k< t f vn v< p q) (deeper m) (deeper n) = ap (λ (l : List ℕ). u ∷ l) (met_once p m n)
  met_once (take v i k< t f vn v< p q) (later m) (later n) = met_once q m n
  met_once {s} (take v i k< t f vn v< p q) (now e) (deeper n) = own_below s v< p e n
  met_once {s} (take v i k< t f vn v< p q) (deeper m) (now e) = own_below s v< p e m
  met_once {s} {T = tree.branch _ _ below rest} (take v i k< t f vn v< p q) (now e) (later n) = own-later s below v< q e n
  met_once {s} {T = tree.branch _ _ below rest} (take v i k< t f vn v< p q) (later m) (now e) = own-later s below v< q e m
  met_once (take v i k< t f vn v< p q) (deeper m) (later n) = below-later p q m n
  met_once (take v i k< t f vn v< p q) (later m) (deeper n) = below-later p q n m
