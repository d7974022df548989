-- Deliveries that reach a new node b keep the invariant. No link has touched b before, so b may rank above all other nodes, and the links that open are
-- just the quiet ones out of b. Assumes nothing.
use Rattle.std.specs.Prelude.{ℕ, suc, ◌<◌, ◌≤◌, ◌≡◌, refl, ◌≢◌, ◌⊎◌, ◌↔◌, Bool, true, false, cond, eqb}
use Rattle.std.proofs.Common.{sym, ap, ◌∙◌, subst, inl, inr, ⊎_elim, arith, eq-eqb, ne_eqb}
use Rattle.std.proofs.Math.Decide.{ℕ_discrete}
use Rattle.scan.specs.Test.{clash}
use Rattle.scan.specs.Entry.{Changed, moved}
use Rattle.flood.specs.Digraph.{Digraph, Failure}
use Rattle.flood.specs.Laws.Tests.{Into, Opens}
use Rattle.flood.specs.Laws.Delivery.{Spread}
use Rattle.flood.specs.Laws.Invariant.{Open, Needed, Ranked, Inv}

module _ (g : Digraph) (c : Failure) where
  open g use {links, tail, head}
  open c use {source, target}

  module _ {S : ℕ → ℕ} {R R' : ℕ → Bool} {b : ℕ} (I : Inv g c S R) (new : R b ≡ false) (d : Changed R b true R') where
    apart : {v : ℕ} → R v ≡ true → v ≢ b
    apart r e = clash r (ap R e ∙ new)

    more : {v : ℕ} → R v ≡ true → R' v ≡ true
    more {v} r = d.elsewhere v (apart r) ∙ r

    less : {v : ℕ} → v ≢ b → R' v ≡ true → R v ≡ true
    less {v} n r = sym (d.elsewhere v n) ∙ r

    wider : {i : ℕ} → Open g c R i → Open g c R' i
    wider (r, t, f) = (more r, t, f)

    -- a link that is open now, and does not open just now, has been offered
    offered : {i : ℕ} → i < links → (Opens g c S b i → ⊥) → Open g c R' i → 0 < S i
    offered {i} l n (r, y, f) = go (ℕ_discrete (tail i) b) (ℕ_discrete (S i) 0)
      where
        go : Dec (tail i ≡ b) → Dec (S i ≡ 0) → 0 < S i
        go (yes e) (yes z) = absurd (n (λ h. y (e ∙ h), l, e, f, z))
        go (yes e) (no z) = omega arith
        go (no m) z = (I.opened i l).1 (less m r, y, f)

    -- the new node ranks above all others
    ranked_above : {S' : ℕ → ℕ} → ((i : ℕ) → i < links → S' i ≡ 2 → (R (tail i) ≡ true) × ((head i ≡ b) ⊎ (S i ≡ 2))) → Ranked g c S' R'
    ranked_above {S'} from =
        record {
          rank = rank';
          top = suc I.ranked.top;
          rises = λ i l t. let (r, w) = from i l t in rw (changed.elsewhere (tail i) (apart r)) (rise i l r w);
          below = λ v. moved changed (λ v w. R' v ≡ true → w < suc I.ranked.top) v
              (λ r. omega arith)
              (λ n r. let q = I.ranked.below v (less n r) in omega arith);
        }
      where
        rank' : ℕ → ℕ
        rank' v = cond (eqb v b) I.ranked.top (I.ranked.rank v)

        changed : Changed I.ranked.rank b I.ranked.top rank'
        changed = record { there = rw (eq-eqb b b refl); elsewhere = λ v n. rw (ne_eqb v b n) }

        rise : (i : ℕ) → i < links → R (tail i) ≡ true → (head i ≡ b) ⊎ (S i ≡ 2) → I.ranked.rank (tail i) < rank' (head i)
        rise i l r (inl e) = rw (e, changed.there) (I.ranked.below (tail i) r)
        rise i l r (inr t) = rw (changed.elsewhere (head i) (apart (I.head_reached i l (omega arith)))) (I.ranked.rises i l t)

    -- a node that has nothing to offer, and is not the target, is reached: no state changes
    pub reach_inv : b ≢ target → ((i : ℕ) → Opens g c S b i → ⊥) → Inv g c S R'
    reach_inv y none =
        record {
          source_reached = more I.source_reached;
          opened = λ i l. (λ p. wider ((I.opened i l).0 p), offered l (none i));
          head_reached = λ i l p. more (I.head_reached i l p);
          one_in = I.one_in;
          none_in = I.none_in;
          fed = λ v n. (
            λ w. ⊎_elim (λ z. inl (z.0, more z.1)) (λ z. inr z) ((I.fed v n).0 w),
            λ w. (I.fed v n).1 (⊎_elim (λ z. inl (z.0, less (λ e. y (sym e)) z.1)) (λ z. inr z) w),
          );
          ranked = ranked_above (λ i l t. (((I.opened i l).0 (omega arith)).0, inr t));
        }

    -- the target, or a node that offers, is reached: the link j into it is taken, and the links that open are offered
    pub visit_inv : {S' : ℕ → ℕ} {j : ℕ} → j < links → head j ≡ b → S j ≡ 1 → (b ≢ target → (i : ℕ) × Opens g c S b i) → S' j ≡ 2
        → Spread g c S b j S' → Inv g c S' R'
    visit_inv {S'} {j} j< e o some there spread =
        record {
          source_reached = more I.source_reached;
          opened = λ i l. shift (λ i w. (0 < w) ↔ Open g c R' i) i
              (λ p. wider ((I.opened j j<).0 (omega arith)), λ w. omega arith)
              (λ w. (λ p. (rw w.2 d.there, λ h. w.0 (sym w.2 ∙ h), w.3), λ p. omega arith))
              (λ a n. (λ p. wider ((I.opened i l).0 p), offered l n));
          head_reached = λ i l. shift (λ i w. 2 ≤ w → R' (head i) ≡ true) i
              (λ p. rw e d.there) (λ w p. absurd (omega arith)) (λ a n p. more (I.head_reached i l p));
          one_in = λ i m l h s t q. one i m l h (was i s) (was m t) q;
          none_in = λ i l t. ⊎_elim (λ h q. apart I.source_reached (sym q ∙ ap head h ∙ e)) (λ s. I.none_in i l s) (was i t);
          fed = λ v n. fed' v n (ℕ_discrete v b);
          ranked = ranked_above (λ i l t. from i l (was i t));
        }
      where
        -- what holds of the taken link, of the links that open, and of the others as they were, holds of the new states
        shift : (P : ℕ → ℕ → Type 0) (i : ℕ) → P j 2 → (Opens g c S b i → P i 1) → (i ≢ j → (Opens g c S b i → ⊥) → P i (S i)) → P i (S' i)
        shift P i p q r = go (ℕ_discrete i j)
          where
            go : Dec (i ≡ j) → P i (S' i)
            go (yes h) = rw (h, there) p
            go (no a) = ⊎_elim (λ z. rw z.1 (q z.0)) (λ z. rw z.1 (r a z.0)) (spread i a)

        was : (i : ℕ) → S' i ≡ 2 → (i ≡ j) ⊎ (S i ≡ 2)
        was i = shift (λ i w. w ≡ 2 → (i ≡ j) ⊎ (S i ≡ 2)) i (λ p. inl refl) (λ w p. absurd (omega arith)) (λ a n p. inr p)

        from : (i : ℕ) → i < links → (i ≡ j) ⊎ (S i ≡ 2) → (R (tail i) ≡ true) × ((head i ≡ b) ⊎ (S i ≡ 2))
        from i l (inl h) = rw h (((I.opened j j<).0 (omega arith)).0, inl e)
        from i l (inr t) = (((I.opened i l).0 (omega arith)).0, inr t)

        one : (i m : ℕ) → i < links → m < links → (i ≡ j) ⊎ (S i ≡ 2) → (m ≡ j) ⊎ (S m ≡ 2) → head i ≡ head m → i ≡ m
        one i m l h (inl p) (inl q) k = cc
        one i m l h (inl p) (inr t) k = absurd (apart (I.head_reached m h (omega arith)) (sym k ∙ ap head p ∙ e))
        one i m l h (inr s) (inl q) k = absurd (apart (I.head_reached i l (omega arith)) (k ∙ ap head q ∙ e))
        one i m l h (inr s) (inr t) k = I.one_in i m l h s t k

        into : {v : ℕ} → Into g S v → Into g S' v
        into (m, l, t, h) = (m, l, shift (λ i w. S i ≡ 2 → w ≡ 2) m (λ p. refl) (λ w p. absurd (omega arith)) (λ a n p. p) t, h)

        need : {v : ℕ} → Needed g c S R v → Needed g c S' R' v
        need (inl y) = inl (y.0, more y.1)
        need (inr (i, l, h, p, q)) =
            let live = shift (λ i w. 0 < S i → S i < 4 → (0 < w) × (w < 4)) i (λ p q. omega arith) (λ w p q. omega arith) (λ a n p q. (p, q)) in
            inr (i, l, h, (live p q).0, (live p q).1)

        old_into : {v : ℕ} → v ≢ b → Into g S' v → Into g S v
        old_into n (m, l, t, h) = ⊎_elim (λ k. absurd (n (sym h ∙ ap head k ∙ e))) (λ s. (m, l, s, h)) (was m t)

        old_need : {v : ℕ} → v ≢ b → Needed g c S' R' v → Needed g c S R v
        old_need n (inl y) = inl (y.0, less (λ h. n (y.0 ∙ h)) y.1)
        old_need n (inr (i, l, h, p, q)) =
            let live = shift (λ i w. tail i ≢ b → 0 < w → w < 4 → (0 < S i) × (S i < 4)) i
            (λ k p q. omega arith) (λ w k p q. absurd (k w.2)) (λ a n k p q. (p, q)) (λ k. n (sym h ∙ k)) in
            inr (i, l, h, (live p q).0, (live p q).1)

        -- the new node needs its link
        need_new : Dec (b ≡ target) → Needed g c S' R' b
        need_new (yes y) = inl (y, ap R' (sym y) ∙ d.there)
        need_new (no y) =
            let (i, w) = some y in
            let z = shift (λ i v. S i ≡ 0 → Opens g c S b i → v ≡ 1) i (λ p w. absurd (omega arith)) (λ w p k. refl) (λ a n p k. absurd (n k)) w.4 w in
            inr (i, w.1, w.2, omega arith, omega arith)

        fed' : (v : ℕ) → v ≢ source → Dec (v ≡ b) → Into g S' v ↔ Needed g c S' R' v
        fed' v n (yes h) = (λ w. subst (Needed g c S' R') (sym h) (need_new (ℕ_discrete b target)), λ w. (j, j<, there, e ∙ sym h))
        fed' v n (no h) = (λ w. need ((I.fed v n).0 (old_into h w)), λ w. into ((I.fed v n).1 (old_need h w)))
