-- The failures there are, a cut link and a lost node: a cut of a strong digraph leaves a walk from its source to its target, on either wavelength, and each
-- blocked link is one less to use. So the bounds on deliveries. Assumes nothing.
use Rattle.std.specs.Prelude.{ℕ, suc, ◌+◌, ◌*◌, ◌-◌, ◌<◌, ◌≤◌, ◌≡◌, refl, ◌≢◌, ◌⊎◌, ◌↔◌, true, false, ◌||◌, List, length}
use Rattle.std.proofs.Common.{sym, ap, ◌∙◌, subst, inl, inr, ⊎_elim, eq-eqb, ne_eqb}
use Rattle.std.proofs.Math.Bool.{not}
use native.Mathlib.Omega.{arith}
use Rattle.std.proofs.Math.Decide.{ℕ_discrete}
use Rattle.std.proofs.Math.Dec.{eqb}
use Rattle.std.proofs.lemmas.Bool.{eqb-false}
use Rattle.scan.specs.Test.{or_false}
use Rattle.scan.specs.Total.{bit, count, total_but, total_const, count-le, count_add}
use Rattle.graph.specs.Walk.{Walk, here, step, turn}
use Rattle.flood.specs.Digraph.{Digraph, Failure, reverse, cut, loss, usable, Arc, Sound}
use Rattle.flood.specs.Machine.{Flood, at_rest}
use Rattle.flood.specs.Path.{AnyArc, Strong, SimplePath}
use Rattle.flood.specs.Laws.Progress.{Progress}
use Rattle.flood.specs.Laws.Count.{made_most, made-all-rest}
use Rattle.flood.specs.Laws.Bound.{made_most_but, made-all_but_rest}
use Rattle.flood.specs.Laws.Chain.{one_link, two_links}

-- ---- sound failures

-- turned round a digraph is as strong
pub reverse_strong : {g : Digraph} → Strong g → Strong (reverse g)
reverse_strong {g} s =
    record {
      tail< = s.head<;
      head< = s.tail<;
      loopless = λ i l e. s.loopless i l (sym e);
      joined = λ u v a b. turn (λ p q (i, l, t, h). (i, l, h, t)) (s.joined v u b a);
    }

-- a walk does without link k, or comes to its tail without it
around : (g : Digraph) (k : ℕ) {u v : ℕ} → Walk (AnyArc g) u v → Walk (Arc g (cut g k)) u v ⊎ Walk (Arc g (cut g k)) u (g.tail k)
around g k here = inl here
around g k (step {u} {v} {w} (i, l, t, h) p) = go (ℕ_discrete i k) (around g k p)
  where
    Clear : ℕ → ℕ → Type 0
    Clear u v = Walk (Arc g (cut g k)) u v

    go : Dec (i ≡ k) → Clear v w ⊎ Clear v (g.tail k) → Clear u w ⊎ Clear u (g.tail k)
    go (yes e) r = inr (subst (Clear u) (sym t ∙ ap g.tail e) here)
    go (no n) r = ⊎_elim (λ q. inl (step (i, l, ne_eqb i k n, t, h) q)) (λ q. inr (step (i, l, ne_eqb i k n, t, h) q)) r

-- a cut of any link of a strong digraph leaves a walk from its head to its tail
pub cut_sound : {g : Digraph} → Strong g → (k : ℕ) → k < g.links → Sound g (cut g k)
cut_sound {g} s k l =
    record {
      head< = s.head<;
      source< = s.head< k l;
      apart = λ e. s.loopless k l (sym e);
      walk = ⊎_elim (λ w. w) (λ w. w) (around g k (s.joined (g.head k) (g.tail k) (s.head< k l) (s.tail< k l)));
    }

-- a lost node leaves the links that are not at it
pub loss-leaves : (g : Digraph) (x n y i : ℕ) → ((loss g x n y).blocked i ≡ false) ↔ ((g.tail i ≢ n) × (g.head i ≢ n))
loss-leaves g x n y i = (
  λ e. let (t, h) = or_false (eqb (g.tail i) n) (eqb (g.head i) n) e in (eqb-false _ n t, eqb-false _ n h),
  λ (t, h). rw (ne_eqb (g.tail i) n t, ne_eqb (g.head i) n h),
)

-- ---- blocked links

module _ (g : Digraph) (c : Failure) where
  open c use {blocked}

  usable-two : (i j : ℕ) → i < g.links → j < g.links → i ≢ j → blocked i ≡ true → blocked j ≡ true → suc (suc (usable g c)) ≤ g.links
  unfolding usable
  usable-two i j l m n t u =
      omega (
        arith,
        count_add (λ m. not (blocked m)) g.links i l (ap not t),
        count_add (λ m. eqb m i || not (blocked m)) g.links j m (rw (ne_eqb j i (λ e. n (sym e))) (ap not u)),
        count-le (λ m. eqb m j || (eqb m i || not (blocked m))) g.links,
      )

  -- every simple path has a link
  some-link : Sound g c → (p : List ℕ) → SimplePath g c p → 1 ≤ length p
  some-link sound p r = one_link g r.chain sound.apart

  -- two links are blocked, as by the loss of a node
  pub two_blocked_made : Sound g c → (i j : ℕ) → i < g.links → j < g.links → i ≢ j → blocked i ≡ true → blocked j ≡ true
      → {n : ℕ} {f : Flood} → Progress g c n f → n + 5 ≤ 2 * g.links
  two_blocked_made sound i j l m n t u q =
      omega (arith, made_most_but g c sound 1 (some-link sound) q, usable-two i j l m n t u)

-- ---- a cut

-- it leaves all other links
pub cut-usable : (g : Digraph) (k : ℕ) → k < g.links → suc (usable g (cut g k)) ≡ g.links
unfolding usable count
cut-usable g k h = omega (arith, total_but (λ i. bit (not (eqb i k))) (λ i. 1) g.links k h (λ i l n. rw (ne_eqb i k n)), total_const 1 g.links, none)
  where
    none : bit (not (eqb k k)) ≡ 0
    none = rw (eq-eqb k k refl)

module _ {g : Digraph} {k : ℕ} (k< : k < g.links) {n : ℕ} {f : Flood} (q : Progress g (cut g k) n f) where
  -- there are at most two deliveries for each other link
  pub cut-made : n ≤ 2 * (g.links - 1)
  cut-made = omega (arith, made_most g (cut g k) q, cut-usable g k k<)

  -- and after so many none is under way
  pub cut-made-rest : n ≡ 2 * (g.links - 1) → at_rest g f ≡ true
  cut-made-rest e = made-all-rest g (cut g k) q (omega (arith, made_most g (cut g k) q, cut-usable g k k<))

  module _ (sound : Sound g (cut g k)) where
    -- there are 3 fewer than twice the links
    pub cut-made_3 : n + 3 ≤ 2 * g.links
    cut-made_3 = omega (arith, made_most_but g (cut g k) sound 1 (some-link g (cut g k) sound) q, cut-usable g k k<)

    -- and after so many none is under way
    pub cut-made_3_rest : n + 3 ≡ 2 * g.links → at_rest g f ≡ true
    cut-made_3_rest e = made-all_but_rest g (cut g k) sound 1 (some-link g (cut g k) sound) q (omega (arith, cut-usable g k k<))

    -- and 4, where no other link leads straight from the head of k to its tail
    pub cut-made_4 : ((i : ℕ) → i < g.links → i ≢ k → g.tail i ≡ g.head k → g.head i ≢ g.tail k) → n + 4 ≤ 2 * g.links
    cut-made_4 far = omega (arith, made_most_but g (cut g k) sound 2 two q, cut-usable g k k<)
      where
        two : (p : List ℕ) → SimplePath g (cut g k) p → 2 ≤ length p
        two p r = two_links g r.chain sound.apart (λ i o. let (l, b) = r.free i o in far i l (eqb-false i k b))
