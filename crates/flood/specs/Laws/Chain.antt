-- Links in a row: the nodes that they meet, how many links there are at least, and when no node or link stands twice. By induction on the row. Assumes nothing.
use Rattle.std.specs.Prelude.{ℕ, ◌<◌, ◌≤◌, ◌≡◌, refl, ◌≢◌, ◌⊎◌, length}
use Rattle.std.proofs.Common.{sym, ap, ◌∙◌, inl, inr, ⊎_elim, arith}
use mathlib.Core.List.Memᴰ
use mathlib.Core.List.{List, [], ◌∷◌, map, Memᴰ}
use Rattle.scan.specs.Distinct.{Distinct}
use Rattle.flood.specs.Digraph.{Digraph}
use Rattle.flood.specs.Path.{Chain, end, link}

module _ (g : Digraph) where
  open g use {links, tail, head}

  -- the links of p are taken
  abbrev pub Taken : (ℕ → ℕ) → List ℕ → Type 0
  Taken S p = (i : ℕ) → Memᴰ i p → (i < links) × (S i ≡ 2)

  -- ---- the nodes of a chain

  -- its end is a node that it meets
  pub end_met : {u v : ℕ} {p : List ℕ} → Chain g u p v → Memᴰ v (u ∷ map head p)
  end_met end = Memᴰ.head refl
  end_met (link i e c) = Memᴰ.tail (end_met c)

  -- each of its links starts at a node that it meets
  pub tail_met : {u v : ℕ} {p : List ℕ} → Chain g u p v → {i : ℕ} → Memᴰ i p → Memᴰ (tail i) (u ∷ map head p)
  tail_met end o = absurd (Memᴰ.not-nil o)
  tail_met (link j e c) (Memᴰ.head h) = Memᴰ.head (ap tail h ∙ e)
  tail_met (link j e c) (Memᴰ.tail o) = Memᴰ.tail (tail_met c o)

  -- it ends where it begins, or one of its links starts there
  begins : {u v : ℕ} {p : List ℕ} → Chain g u p v → (u ≡ v) ⊎ ((m : ℕ) × Memᴰ m p × (tail m ≡ u))
  begins end = inl refl
  begins (link k d c) = inr (k, Memᴰ.head refl, d)

  -- each of its links leads to its end, or another goes on from there
  pub head_next : {u v : ℕ} {p : List ℕ} → Chain g u p v → {i : ℕ} → Memᴰ i p → (head i ≡ v) ⊎ ((m : ℕ) × Memᴰ m p × (tail m ≡ head i))
  head_next end o = absurd (Memᴰ.not-nil o)
  head_next (link j e c) (Memᴰ.head h) = ⊎_elim (λ q. inl (ap head h ∙ q)) (λ z. inr (z.0, Memᴰ.tail z.1, z.2 ∙ ap head (sym h))) (begins c)
  head_next (link j e c) (Memᴰ.tail o) = ⊎_elim (λ h. inl h) (λ z. inr (z.0, Memᴰ.tail z.1, z.2)) (head_next c o)

  -- ---- its length

  -- a chain between two nodes has a link
  pub one_link : {u v : ℕ} {p : List ℕ} → Chain g u p v → u ≢ v → 1 ≤ length p
  one_link end n = absurd (n refl)
  one_link (link i e c) n = omega arith

  -- and two, where none of its links leads straight from the one to the other
  pub two_links : {u v : ℕ} {p : List ℕ} → Chain g u p v → u ≢ v → ((i : ℕ) → Memᴰ i p → tail i ≡ u → head i ≢ v) → 2 ≤ length p
  two_links end n far = absurd (n refl)
  two_links (link i e c) n far = omega (arith, one_link c (far i (Memᴰ.head refl) e))

  -- ---- no node or link twice

  -- where no node stands twice, no link does
  pub links_once : (p : List ℕ) → Distinct (map head p) → Distinct p
  links_once [] d = tt
  links_once (a ∷ p) (n, d) = (λ b o e. n (head b) (Memᴰ.map head o) (ap head e), links_once p d)

  -- a chain whose links rise in rank meets no node twice
  module _ (rank : ℕ → ℕ) where
    abbrev Rising : List ℕ → Type 0
    Rising p = (i : ℕ) → Memᴰ i p → rank (tail i) < rank (head i)

    above : {u v : ℕ} {p : List ℕ} → Chain g u p v → Rising p → (w : ℕ) → Memᴰ w (map head p) → rank u < rank w
    above end r w o = absurd (Memᴰ.not-nil o)
    above (link {u = u} {p = p} j e c) r w o = go (Memᴰ.cases_cons o) (above c (λ m q. r m (Memᴰ.tail q)) w)
      where
        first : rank u < rank (head j)
        first = rw (sym e) (r j (Memᴰ.head refl))

        go : (w ≡ head j) ⊎ Memᴰ w (map head p) → (Memᴰ w (map head p) → rank (head j) < rank w) → rank u < rank w
        go (inl h) f = rw h first
        go (inr q) f = omega (arith, first, f q)

    pub nodes_once : {u v : ℕ} {p : List ℕ} → Chain g u p v → Rising p → Distinct (u ∷ map head p)
    nodes_once end r = (λ b o. absurd (Memᴰ.not-nil o), tt)
    nodes_once (link j e c) r = (λ b o h. omega (arith, above (link j e c) r b o, ap rank h), nodes_once c (λ m q. r m (Memᴰ.tail q)))
