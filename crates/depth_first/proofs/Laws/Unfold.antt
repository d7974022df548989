-- The equations of the search, without the number that bounds it: that number falls at each call, so any two bounds no less than it give the same. Assumes nothing.
use Prim.Native.Nat.{ℕ, zero, suc, ◌+◌, ◌-◌, ◌*◌, ◌≤◌, ◌<◌}
use Rattle.std.specs.Prelude.{◌≡◌, ◌⊎◌, Bool, eqb}
use Rattle.std.proofs.Math.Path.{refl, sym, ap}
use Rattle.std.proofs.Common.{◌∙◌, inl, inr, length-set, get_or-set_same, get_or-set_other}
use Rattle.std.proofs.Math.Logic.Iff
use Rattle.std.proofs.Math.Bool.{true, false, not, cond}
use mathlib.Core.List.{List}
use Rattle.std.proofs.Math.Nat.{suc-mul, mul-le-mul_right}
use native.Mathlib.Omega.{arith}
use Rattle.std.proofs.Math.ListN.{length, set}
use Rattle.std.proofs.Math.Dec.{ltb}
use borrow.Author.Tests.{lt-ltb, le-ltb, ltb-true}
use Rattle.scan.specs.Entry.{has}
use Rattle.scan.specs.Test.{branch, known, clash, Says, not_says, and_says}
use Rattle.scan.specs.Flags.{Extends, extends_refl, extends_trans, extends_set}
use Rattle.scan.specs.Total.{bit, count, total-same, total_const, total_but, count_mono}
use Rattle.graph.specs.Net.{Net, Fits}
use Rattle.depth_first.specs.Tree as tree
use Rattle.depth_first.specs.Tree.{Tree, leaf, marked, visited, labelled}
use Rattle.depth_first.specs.Search.{touches, far, opens, unvisited, visiting, following, visit_by, follow_by, visit, follow, Searches}

-- ---- flags

-- one that was set stays so
pub marked_extends : (pick : ℕ → ℕ → ℕ) (T : Tree) (l : List Bool) → Extends l (marked pick T l)
unfolding marked
marked_extends pick leaf l = extends_refl l
marked_extends pick (tree.branch i v below rest) l =
    let l₁ = set l (pick i v) true in
    extends_trans (extends_set (extends_refl l) (pick i v))
    (extends_trans (marked_extends pick below l₁) (marked_extends pick rest (marked pick below l₁)))

pub visited_extends : (T : Tree) (s : List Bool) → Extends s (visited T s)
visited_extends = marked_extends (λ i v. v)

pub labelled_extends : (T : Tree) (l : List Bool) → Extends l (labelled T l)
labelled_extends = marked_extends (λ i v. i)

-- a list that has a flag for each of n nodes still has
pub wide_set : {n : ℕ} (s : List Bool) (v : ℕ) → n ≤ length s → n ≤ length (set s v true)
wide_set s v w = omega (arith, length-set s v true)

pub wide_visited : {n : ℕ} (T : Tree) (s : List Bool) → n ≤ length s → n ≤ length (visited T s)
wide_visited T s w = omega (arith, (visited_extends T s).sized)

module _ (G : Net) where
  open G use {nodes, links, low, high}

  unvisited-le : {s r : List Bool} → Extends s r → unvisited G r ≤ unvisited G s
  unfolding unvisited
  unvisited-le {s} {r} x =
      count_mono (λ v. not (has r v)) (λ v. not (has s v)) nodes
      (λ v l e. (not_says (has s v)).1 (still v ((not_says (has r v)).0 e) (known (has s v))))
    where
      still : (v : ℕ) → has r v ≡ false → (has s v ≡ true) ⊎ (has s v ≡ false) → has s v ≡ false
      still v f (inl t) = clash (x.keeps v t) f
      still v f (inr t) = t

  -- one node fewer is left once a new node is visited
  pub unvisited_new : (s : List Bool) (v : ℕ) → nodes ≤ length s → v < nodes → has s v ≡ false → unvisited G s ≡ suc (unvisited G (set s v true))
  unfolding unvisited count
  unvisited_new s v n h f =
      let one : bit (not (has s v)) ≡ 1 = ap (λ (t : Bool). bit (not t)) f in
      let none : bit (not (has (set s v true) v)) ≡ 0 = ap (λ (t : Bool). bit (not t)) (get_or-set_same s v true false (omega arith)) in
      omega (
        arith,
        total_but (λ i. bit (not (has (set s v true) i))) (λ i. bit (not (has s i))) nodes v h
            (λ i l m. ap (λ (t : Bool). bit (not t)) (get_or-set_other s v i true false m)),
      )

  -- before the search all nodes are left
  pub unvisited-all : (s : List Bool) → ((v : ℕ) → has s v ≡ false) → unvisited G s ≡ nodes
  unfolding unvisited count
  unvisited-all s none =
      total-same (λ i. bit (not (has s i))) (λ i. 1) nodes (λ i l. ap (λ (t : Bool). bit (not t)) (none i))
      ∙ total_const 1 nodes
      ∙ omega arith

  -- ---- the falling number

  pub visiting_new : (s : List Bool) (v : ℕ) → nodes ≤ length s → v < nodes → has s v ≡ false → visiting G s ≡ visiting G (set s v true) + (links + 1)
  unfolding visiting
  visiting_new s v n h f = ap (λ (x : ℕ). x * (links + 1)) (unvisited_new s v n h f) ∙ suc-mul (unvisited G (set s v true)) (links + 1)

  pub visiting-le : (T : Tree) (s : List Bool) → visiting G (visited T s) ≤ visiting G s
  unfolding visiting
  visiting-le T s = mul-le-mul_right (links + 1) (unvisited-le (visited_extends T s))

  -- ---- links to new nodes

  -- a link that leads from u to a new node is at u, and its other end is not visited
  pub opens_says : (s : List Bool) (u i : ℕ) → Says (opens G s u i) ((touches G u i ≡ true) × (has s (far G u i) ≡ false))
  opens_says s u i = and_says Iff.rfl (not_says (has s (far G u i)))

  pub opens_new : (s : List Bool) (u i : ℕ) → opens G s u i ≡ true → has s (far G u i) ≡ false
  opens_new s u i e = ((opens_says s u i).0 e).1

  module _ (F : Fits G) where
    pub far_below : (u i : ℕ) → i < links → far G u i < nodes
    far_below u i h = branch (λ (v : ℕ). v < nodes) (eqb (low i) u) (λ e. F.high_below i h) (λ e. F.low_below i h)

    -- ---- the bound does not matter

    record Bounds (n m : ℕ) : Type 0 where
      same-visit : (u : ℕ) (s : List Bool) → nodes ≤ length s → u < nodes → has s u ≡ false → visiting G s ≤ n → visiting G s ≤ m
          → visit_by G n u s ≡ visit_by G m u s
      same-follow : (k u : ℕ) (s : List Bool) → nodes ≤ length s → following G s k ≤ n → following G s k ≤ m → follow_by G n k u s ≡ follow_by G m k u s

    past_links : (n k u : ℕ) (s : List Bool) → links ≤ k → follow_by G n k u s ≡ leaf
    unfolding follow_by
    past_links zero k u s h = refl
    past_links (suc n) k u s h = rw (le-ltb k links h)

    branches : (k v : ℕ) {b b' r r' : Tree} → b ≡ b' → r ≡ r' → tree.branch k v b r ≡ tree.branch k v b' r'
    branches k v e d = cc

    same : (n m : ℕ) → Bounds n m
    unfolding visit_by following
    same zero m = record {
      same-visit = λ u s e h f a b. absurd (omega (arith, visiting_new s u e h f));
      same-follow = λ k u s e a b. sym (past_links m k u s (omega arith));
    }
    same (suc n) zero = record {
      same-visit = λ u s e h f a b. absurd (omega (arith, visiting_new s u e h f));
      same-follow = λ k u s e a b. past_links (suc n) k u s (omega arith);
    }
    same (suc n) (suc m) = step (same n m)
      where
        step : Bounds n m → Bounds (suc n) (suc m)
        step S = record {
          same-visit = λ u s e h f a b.
              let w = visiting_new s u e h f in
              S.same-follow 0 u (set s u true) (wide_set s u e) (omega arith) (omega arith);
          same-follow = λ k u s e a b. go k u s e a b (ltb k links) refl (opens G s u k) refl;
        }
          where
            go : (k u : ℕ) (s : List Bool) → nodes ≤ length s → visiting G s + (links - k) ≤ suc n → visiting G s + (links - k) ≤ suc m
                → (t : Bool) → ltb k links ≡ t → (o : Bool) → opens G s u k ≡ o
                → cond t (cond o (tree.branch k (far G u k) (visit_by G n (far G u k) s) (follow_by G n (k + 1) u (visited (visit_by G n (far G u k) s) (set s (far G u k) true)))) (follow_by G n (k + 1) u s)) leaf
                ≡ cond t (cond o (tree.branch k (far G u k) (visit_by G m (far G u k) s) (follow_by G m (k + 1) u (visited (visit_by G m (far G u k) s) (set s (far G u k) true)))) (follow_by G m (k + 1) u s)) leaf
            go k u s e a b true l true o =
                let k< = ltb-true k links l in
                let v< = far_below u k k< in
                let f = opens_new s u k o in
                let w = visiting_new s (far G u k) e v< f in
                let B = visit_by G n (far G u k) s in
                let marked = set s (far G u k) true in
                let d = visiting-le B marked in
                let below = S.same-visit (far G u k) s e v< f (omega arith) (omega arith) in
                branches k (far G u k) below
                (S.same-follow (k + 1) u (visited B marked) (wide_visited B marked (wide_set s (far G u k) e)) (omega arith) (omega arith)
                ∙ ap (λ (T : Tree). follow_by G m (k + 1) u (visited T marked)) below)
            go k u s e a b true l false o =
                let k< = ltb-true k links l in
                S.same-follow (k + 1) u s e (omega arith) (omega arith)
            go k u s e a b false l o p = refl

    -- ---- the equations

    module _ (u : ℕ) (s : List Bool) (sized : nodes ≤ length s) where
      -- a visit of a new node marks it and tries all its links
      pub visit_is : u < nodes → has s u ≡ false → visit G u s ≡ follow G 0 u (set s u true)
      unfolding visit follow visit_by following
      visit_is h f =
          let w : visiting G s ≡ suc (visiting G (set s u true) + links) = omega (arith, visiting_new s u sized h f) in
          rw w ((same (visiting G (set s u true) + links) (visiting G (set s u true) + (links - 0))).same-follow 0 u (set s u true) (wide_set s u sized) (omega arith) (omega arith))

      -- any higher bound gives the same
      pub visit_by_lem : (n : ℕ) → u < nodes → has s u ≡ false → visiting G s ≤ n → visit G u s ≡ visit_by G n u s
      unfolding visit
      visit_by_lem n h f l = (same (visiting G s) n).same-visit u s sized h f (omega arith) l

      -- past the last link
      pub follow-end : (k : ℕ) → links ≤ k → follow G k u s ≡ leaf
      unfolding follow
      follow-end k h = past_links (following G s k) k u s h

      -- a link that does not lead to a new node
      pub follow_pass : (k : ℕ) → k < links → opens G s u k ≡ false → follow G k u s ≡ follow G (k + 1) u s
      unfolding follow follow_by following
      follow_pass k h o =
          let w : visiting G s + (links - k) ≡ suc (visiting G s + (links - (k + 1))) = omega arith in
          rw w (rw (lt-ltb k links h, o))

      -- a link that does
      pub follow-take : (k : ℕ) → k < links → opens G s u k ≡ true
          → follow G k u s ≡ tree.branch k (far G u k) (visit G (far G u k) s) (follow G (k + 1) u (visited (visit G (far G u k) s) (set s (far G u k) true)))
      unfolding follow visit follow_by following
      follow-take k h o =
          let w : visiting G s + (links - k) ≡ suc (visiting G s + (links - (k + 1))) = omega arith in
          let v< = far_below u k h in
          let f = opens_new s u k o in
          let N : ℕ = visiting G s + (links - (k + 1)) in
          let B = visit_by G N (far G u k) s in
          let below = (same N (visiting G s)).same-visit (far G u k) s sized v< f (omega arith) (omega arith) in
          let marked = set s (far G u k) true in
          let d = visiting-le B marked in
          let d' = visiting_new s (far G u k) sized v< f in
          rw w (rw (lt-ltb k links h, o)
          (branches k (far G u k) below
          ((same N (following G (visited B marked) (k + 1))).same-follow (k + 1) u (visited B marked) (wide_visited B marked (wide_set s (far G u k) sized)) (omega arith) (omega arith)
          ∙ ap (λ (T : Tree). follow_by G (following G (visited T marked) (k + 1)) (k + 1) u (visited T marked)) below)))

-- together
pub searches : (G : Net) → Fits G → Searches G
searches G F = record {
  visits = λ u s w. visit_is G F u s w;
  ends = λ k u s w. follow-end G F u s w k;
  passes = λ k u s w. follow_pass G F u s w k;
  follows = λ k u s w. follow-take G F u s w k;
}
