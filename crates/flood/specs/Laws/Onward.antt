-- Deliveries that reach no new node keep the invariant. Links only go on, to refused or released, so all of it but `fed` carries over at once; and a node's
-- feeding link is refused just when the last link out of the node is released. Assumes nothing.
use Rattle.std.specs.Prelude.{ℕ, ◌<◌, ◌≡◌, refl, ◌≢◌, ◌⊎◌, Bool, true}
use Rattle.std.proofs.Common.{sym, ap, ◌∙◌, subst, inl, inr, ⊎_elim, arith}
use Rattle.std.proofs.Math.Decide.{ℕ_discrete}
use Rattle.scan.specs.Entry.{Changed, moved}
use Rattle.flood.specs.Digraph.{Digraph, Failure}
use Rattle.flood.specs.Laws.Tests.{Into, OutOf}
use Rattle.flood.specs.Laws.Ways.{Firm}
use Rattle.flood.specs.Laws.Invariant.{Needed, Inv}

module _ (g : Digraph) (c : Failure) where
  open g use {links, tail, head}
  open c use {source}

  -- link i, now in state w, is as it was, or went on from offered, taken or refused to refused or released
  abbrev Onward : (ℕ → ℕ) → (ℕ → Bool) → ℕ → ℕ → Type 0
  Onward S R i w = (w ≡ S i) ⊎ ((0 < S i) × (S i < 4) × (2 < w) × (R (head i) ≡ true))

  -- v has a link taken into it and needs it, or neither
  abbrev Agrees : (ℕ → ℕ) → (ℕ → Bool) → ℕ → Type 0
  Agrees S R v = (Into g S v × Needed g c S R v) ⊎ ((Into g S v → ⊥) × (Needed g c S R v → ⊥))

  module _ {S S' : ℕ → ℕ} {R : ℕ → Bool} (I : Inv g c S R) where
    onward_inv : ((i : ℕ) → i < links → Onward S R i (S' i)) → ((v : ℕ) → v ≢ source → Into g S v → Needed g c S R v → Agrees S' R v) → Inv g c S' R
    onward_inv on agree =
        record {
          source_reached = I.source_reached;
          opened = λ i l. let (f, b) = I.opened i l in (
            λ p. ⊎_elim (λ e. f (omega arith)) (λ z. f z.0) (on i l),
            λ o. let p = b o in ⊎_elim (λ e. omega arith) (λ z. omega arith) (on i l),
          );
          head_reached = λ i l p. ⊎_elim (λ e. I.head_reached i l (omega arith)) (λ z. z.3) (on i l);
          one_in = λ i j l m a b e. I.one_in i j l m (was i l a) (was j m b) e;
          none_in = λ i l a. I.none_in i l (was i l a);
          fed = λ v n. (
            λ w. let a = old_into w in ⊎_elim (λ z. z.1) (λ z. absurd (z.0 w)) (agree v n a ((I.fed v n).0 a)),
            λ w. let a = old_need w in ⊎_elim (λ z. z.0) (λ z. absurd (z.1 w)) (agree v n ((I.fed v n).1 a) a),
          );
          ranked =
              let k = I.ranked in
              record { rank = k.rank; top = k.top; rises = λ i l a. k.rises i l (was i l a); below = k.below };
        }
      where
        was : (i : ℕ) → i < links → S' i ≡ 2 → S i ≡ 2
        was i l t = ⊎_elim (λ e. sym e ∙ t) (λ z. absurd (omega arith)) (on i l)

        old_into : {v : ℕ} → Into g S' v → Into g S v
        old_into (m, l, t, e) = (m, l, was m l t, e)

        old_need : {v : ℕ} → Needed g c S' R v → Needed g c S R v
        old_need (inl y) = inl y
        old_need (inr (i, l, e, p, q)) = ⊎_elim (λ h. inr (i, l, e, rw h at p, rw h at q)) (λ z. inr (i, l, e, z.0, z.1)) (on i l)

    module _ {j : ℕ} (j< : j < links) where
      -- a link that is offered or refused goes on, and then its start gives nothing back
      pub go_on_inv : {w : ℕ} → Changed S j w S' → (0 < S j) × (S j < 4) × (S j ≢ 2) → 2 < w → R (head j) ≡ true → Firm g c S' (tail j) → Inv g c S' R
      go_on_inv d (lo, hi, no2) up r firm =
          onward_inv (λ i l. moved d (Onward S R) i (inr (lo, hi, up, r)) (λ n. inl refl)) (λ v n a w. inl (into a, need n a w))
        where
          into : {v : ℕ} → Into g S v → Into g S' v
          into (m, l, t, e) = (m, l, moved d (λ i w. S i ≡ 2 → w ≡ 2) m (λ p. absurd (no2 p)) (λ n p. p) t, e)

          need : {v : ℕ} → v ≢ source → Into g S v → Needed g c S R v → Needed g c S' R v
          need n a (inl y) = inl y
          need {v} n a (inr (i, l, e, p, q)) = go (ℕ_discrete i j) firm
            where
              go : Dec (i ≡ j) → Firm g c S' (tail j) → Needed g c S' R v
              go (no m) w = inr (i, l, e, rw (d.elsewhere i m) p, rw (d.elsewhere i m) q)
              go (yes h) (inl x) = absurd (n (sym e ∙ ap tail h ∙ x))
              go (yes h) (inr (inl w)) = inr (subst (OutOf g S') (sym (ap tail h) ∙ e) w)
              go (yes h) (inr (inr f)) = absurd (f (subst (Into g S') (sym e ∙ ap tail h) (into a)))

      -- an offered link whose head is reached is refused: it still holds its start
      pub refuse_inv : S j ≡ 1 → R (head j) ≡ true → Changed S j 3 S' → Inv g c S' R
      refuse_inv o r d = let z = d.there in go_on_inv d (omega arith) (omega arith) r (inr (inl (j, j<, refl, omega arith, omega arith)))

      -- a refused link is released, and the link m taken into its start, which nothing holds now, is refused
      pub fall_back_inv : S j ≡ 3 → {T : ℕ → ℕ} → Changed S j 4 T → (OutOf g T (tail j) → ⊥)
          → {m : ℕ} → m < links → T m ≡ 2 → head m ≡ tail j → Changed T m 3 S' → Inv g c S' R
      fall_back_inv o {T} d₁ alone {m} m< tm e d₂ = onward_inv on (λ v n a w. agree (ℕ_discrete v (tail j)) a w)
        where
          sm : S m ≡ 2
          sm = moved d₁ (λ i w. w ≡ 2 → S i ≡ 2) m (λ p. absurd (omega arith)) (λ n p. p) tm

          -- both changes at once
          twice : (P : ℕ → ℕ → Type 0) (i : ℕ) → P m 3 → P j 4 → (i ≢ m → i ≢ j → P i (S i)) → P i (S' i)
          twice P i p q r = moved d₂ P i p (λ a. moved d₁ P i q (λ b. r a b))

          on : (i : ℕ) → i < links → Onward S R i (S' i)
          on i l =
              let rm = I.head_reached m m< (omega (arith, sm)) in
              let rj = I.head_reached j j< (omega arith) in
              twice (Onward S R) i
              (inr (omega (arith, sm), omega (arith, sm), omega arith, rm)) (inr (omega arith, omega arith, omega arith, rj)) (λ a b. inl refl)

          none_into : {v : ℕ} → v ≡ tail j → Into g S' v → ⊥
          none_into h (i, l, t, b) =
              twice (λ i w. w ≡ 2 → i < links → head i ≢ tail j) i
              (λ p l. absurd (omega arith)) (λ p l. absurd (omega arith)) (λ a b p l h. a (I.one_in i m l m< p sm (h ∙ sym e))) t l (b ∙ h)

          none_need : {v : ℕ} → v ≡ tail j → Needed g c S' R v → ⊥
          none_need h (inl y) = ((I.opened j j<).0 (omega arith)).1 (sym h ∙ y.0)
          none_need h (inr (i, l, b, p, q)) = at-m (ℕ_discrete i m)
            where
              at-m : Dec (i ≡ m) → ⊥
              at-m (yes k) = omega (arith, I.ranked.rises m m< sm, ap I.ranked.rank (ap tail (sym k) ∙ b ∙ h ∙ sym e))
              at-m (no n) = alone (i, l, b ∙ h, rw (d₂.elsewhere i n) at p, rw (d₂.elsewhere i n) at q)

          into : {v : ℕ} → v ≢ tail j → Into g S v → Into g S' v
          into n (t, l, s, h) =
              let taken = twice (λ i w. S i ≡ 2 → head i ≢ head m → w ≡ 2) t (λ p d. absurd (d refl)) (λ p d. absurd (omega arith)) (λ a b p d. p) in
              (t, l, taken s (λ d. n (sym h ∙ d ∙ e)), h)

          need : {v : ℕ} → v ≢ tail j → Needed g c S R v → Needed g c S' R v
          need n (inl y) = inl y
          need n (inr (i, l, h, p, q)) =
              let live = twice (λ i w. tail i ≢ tail j → 0 < S i → S i < 4 → (0 < w) × (w < 4)) i
              (λ d p q. omega arith) (λ d p q. absurd (d refl)) (λ a b d p q. (p, q)) in
              let z = live (λ d. n (sym h ∙ d)) p q in
              inr (i, l, h, z.0, z.1)

          agree : {v : ℕ} → Dec (v ≡ tail j) → Into g S v → Needed g c S R v → Agrees S' R v
          agree (yes h) a w = inr (none_into h, none_need h)
          agree (no n) a w = inl (into n a, need n w)
