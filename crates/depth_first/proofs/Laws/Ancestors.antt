-- A link between two nodes that the search visits joins a node to one of its ancestors: once all links of a node have been tried they lead to visited nodes, so no
-- link leads from a node to one that is met later and not below it. Assumes nothing.
use Rattle.std.specs.Prelude.{ℕ, ◌+◌, ◌≤◌, ◌<◌, ◌≡◌, ◌⊎◌, ◌≢◌, Bool, List}
use Rattle.std.proofs.Math.Path.{sym}
use Rattle.std.proofs.Common.{◌∙◌, ⊎_elim, arith, get_or-set_same, eq-eqb, ne_eqb}
use Rattle.std.proofs.Math.Logic.{inl, inr, ⊎_map}
use Rattle.std.proofs.Math.Bool.{true, false}
use mathlib.Core.List.Memᴰ
use Rattle.std.proofs.Math.Decide.{ℕ_discrete}
use Rattle.std.proofs.Math.ListN.{set}
use Rattle.scan.specs.Entry.{has}
use Rattle.scan.specs.Test.{clash, known, three, failing, fails}
use Rattle.scan.specs.Flags.{Extends}
use Rattle.graph.specs.Net.{Net}
use Rattle.graph.specs.Laws.Arcs.{Joins}
use Rattle.depth_first.specs.Tree as tree
use Rattle.depth_first.specs.Tree.{Tree, marked, visited}
use Rattle.depth_first.specs.Search.{touches, far, opens}
use Rattle.depth_first.specs.Folded.{Ancestor, deeper, later}
use Rattle.depth_first.proofs.Laws.Unfold.{visited_extends, opens_says}
use Rattle.depth_first.proofs.Laws.Follows.{Follows, done, pass, take, New, placed, new_met, met_top}

module _ (G : Net) where
  open G use {links, low, high}

  -- ---- links that were tried

  -- from k on no link of w leads to a new node
  pub record Tried (k w : ℕ) (s : List Bool) : Type 0 where
    pub none : (i : ℕ) → k ≤ i → i < links → opens G s w i ≡ false

  -- a link that leads to no new node leads to none later
  opens_less : (s r : List Bool) → Extends s r → (w i : ℕ) → opens G s w i ≡ false → opens G r w i ≡ false
  opens_less s r x w i o =
      failing (opens_says G r w i)
      (λ (t, f). fails (opens_says G s w i) o (t, ⊎_elim (λ y. clash (x.keeps _ y) f) (λ y. y) (known (has s (far G w i)))))

  tried_keeps : {s r : List Bool} → Extends s r → {k w : ℕ} → Tried k w s → Tried k w r
  tried_keeps {s} {r} x {w} h = record { none = λ i a b. opens_less s r x w i (h.none i a b) }

  tried_more : {k w : ℕ} {s : List Bool} → opens G s w k ≡ false → Tried (k + 1) w s → Tried k w s
  tried_more {k} o h = record { none = λ i a b. elim (ℕ_discrete i k) [ yes e ↦ rw e o | no n ↦ h.none i (omega arith) b ] }

  -- after the links of u from k on they lead to visited nodes, and so do those of every node visited meanwhile
  pub record Closed (k u : ℕ) (s r : List Bool) : Type 0 where
    pub own : Tried k u r
    pub new : (w : ℕ) → New s r w → Tried 0 w r

  pub closes : {k u : ℕ} {s : List Bool} {T : Tree} → Follows G k u s T → Closed k u s (visited T s)
  unfolding marked
  closes {k} {u} {s} (done d) = record { own = record { none = λ i a b. absurd (omega arith) }; new = λ w (f, t). clash t f }
  closes {k} {u} {s} {T} (pass k< o p) =
      let c = closes p in
      record { own = tried_more (opens_less s (visited T s) (visited_extends T s) u k o) c.own; new = c.new }
  closes {k} {u} {s} {T = tree.branch _ _ below rest} (take v e k< t f vn v< p q) =
      let s₁ = set s v true in
      let s₂ = visited below s₁ in
      let x = visited_extends rest s₂ in
      let c₁ = closes p in
      let c₂ = closes q in
      let there = x.keeps v ((visited_extends below s₁).keeps v (get_or-set_same s v true false v<)) in
      record {
        own = tried_more (failing (opens_says G (visited rest s₂) u k) (λ (_, g). clash (rw (← e) there) g)) c₂.own;
        new = λ w n.
            three (λ (m : w ≡ v). rw m (tried_keeps x c₁.own)) (λ m. tried_keeps x (c₁.new w m)) (λ m. c₂.new w m)
            (placed s v below rest w n);
      }

  -- ---- the ends of a link

  -- link i, which joins a and b, leads from a to b
  pub joins_far : (i a b : ℕ) → Joins G i a b → (touches G a i ≡ true) × (far G a i ≡ b)
  joins_far i a b (inl (p, q)) = (rw (eq-eqb (low i) a (sym p)), rw (eq-eqb (low i) a (sym p)) (sym q))
  joins_far i a b (inr (p, q)) = go (ℕ_discrete (low i) a)
    where
      go : Dec (low i ≡ a) → (touches G a i ≡ true) × (far G a i ≡ b)
      go (yes e) = (rw (eq-eqb (low i) a e), rw (eq-eqb (low i) a e) (sym p ∙ sym e ∙ sym q))
      go (no n) = (rw (ne_eqb (low i) a n, eq-eqb (high i) a (sym p)), rw (ne_eqb (low i) a n) (sym q))

  joins_back : {i a b : ℕ} → Joins G i a b → Joins G i b a
  joins_back (inl (p, q)) = inr (q, p)
  joins_back (inr (p, q)) = inl (q, p)

  -- so b is visited once all links of a have been tried
  pub tried_visits : {a : ℕ} {s : List Bool} → Tried 0 a s → (i b : ℕ) → i < links → Joins G i a b → has s b ≡ true
  tried_visits {a} {s} h i b l j =
      let (t, e) = joins_far i a b j in
      ⊎_elim (λ v. v) (λ f. clash ((opens_says G s a i).1 (t, rw e f)) (h.none i (omega arith) l)) (known (has s b))

  -- ---- ancestors

  abbrev Related : ℕ → ℕ → ℕ → Tree → Type 0
  Related a b u T = Ancestor a b u T ⊎ Ancestor b a u T

  -- u is an ancestor of every node that is met below it
  pub top : (T : Tree) (s : List Bool) (u w : ℕ) → New s (visited T s) w → Ancestor u w u T
  top T s u w n = let (path, m) = new_met T s u w n in (path, m, met_top m)

  under : {a b i u v : ℕ} {below rest : Tree} → Ancestor a b v below → Ancestor a b u (tree.branch i v below rest)
  under (path, m, o) = (_, deeper m, Memᴰ.tail o)

  after : {a b i u v : ℕ} {below rest : Tree} → Ancestor a b u rest → Ancestor a b u (tree.branch i v below rest)
  after (path, m, o) = (path, later m, o)

  -- a link between two new nodes
  pub related : {k u : ℕ} {s : List Bool} {T : Tree} → Follows G k u s T → (i a b : ℕ) → i < links → a ≢ b → Joins G i a b
      → New s (visited T s) a → New s (visited T s) b → Ancestor a b u T ⊎ Ancestor b a u T
  unfolding marked
  related (done d) i a b l n j (f, t) y = clash t f
  related (pass k< o p) i a b l n j x y = related p i a b l n j x y
  related {k} {u} {s} {T = tree.branch _ _ below rest} (take v e k< t f vn v< p q) i a b l n j x y =
      let s₁ = set s v true in
      let s₂ = visited below s₁ in
      let c = closes p in
      let back = joins_back j in
      three
      (λ (a-v : a ≡ v). three
      (λ (b-v : b ≡ v). absurd (n (a-v ∙ sym b-v)))
      (λ b-below. inl (rw a-v (under (top below s₁ v b b-below))))
      (λ b-later. clash (tried_visits {s = s₂} (rw a-v c.own) i b l j) b-later.0)
      (placed s v below rest b y))
      (λ a-below. three
      (λ (b-v : b ≡ v). inr (rw b-v (under (top below s₁ v a a-below))))
      (λ b-below. ⊎_map under under (related p i a b l n j a-below b-below))
      (λ b-later. clash (tried_visits (c.new a a-below) i b l j) b-later.0)
      (placed s v below rest b y))
      (λ a-later. three
      (λ (b-v : b ≡ v). clash (tried_visits {s = s₂} (rw b-v c.own) i a l back) a-later.0)
      (λ b-below. clash (tried_visits (c.new b b-below) i a l back) a-later.0)
      (λ b-later. ⊎_map after after (related q i a b l n j a-later b-later))
      (placed s v below rest b y))
      (placed s v below rest a x)
