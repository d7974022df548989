-- Boesch and Tindell's lemma: where the open ways are strong, each link is open some way, and the ends of the link k are joined without k, one of k's two
-- ways can be shut. The idea is to look at a walk before its first and after its last use of k. Assumes nothing.
use Rattle.std.specs.Prelude.{ℕ, ◌<◌, ◌≡◌, ◌⊎◌, Bool, true, false, not}
use Rattle.std.proofs.Common.{inl, inr, ⊎_elim}
use Rattle.std.proofs.Math.Decide.{ℕ_discrete}
use Rattle.graph.specs.Walk.{here, step, one, join, stay, replace, carry}
use Rattle.graph.specs.Net.{Net, Fits, end, Ways, Arc, Leads, Strong, without, both_ways}
use Rattle.graph.specs.Laws.Arcs.{arc_below, reopen, turn, without_free, avoids}

module _ (G : Net) (m : Ways) (k : ℕ) where
  -- a walk from u to v: it avoids k, or leads to its first use of k
  abbrev pub ToFirst : ℕ → ℕ → Type 0
  ToFirst u v = Leads G (without k m) u v ⊎ ((d : Bool) × (m k d ≡ true) × Leads G (without k m) u (end G k d))

  -- it avoids k, or leads on from its last use of k
  abbrev pub FromLast : ℕ → ℕ → Type 0
  FromLast u v = Leads G (without k m) u v ⊎ ((d : Bool) × Leads G (without k m) (end G k (not d)) v)

  keep : {u v : ℕ} (a : Arc G m u v) → (a.link ≡ k → ⊥) → Arc G (without k m) u v
  keep a n = reopen a (without_free k m a.link a.way n a.free)

  pub first_use : {u v : ℕ} → Leads G m u v → ToFirst u v
  first_use here = inl here
  first_use (step {u} {v} {w} a p) = meet (ℕ_discrete a.link k) (first_use p)
    where
      meet : Dec (a.link ≡ k) → ToFirst v w → ToFirst u w
      meet (yes e) _ = inr (a.way, rw e at a.free, stay (cc a.starts))
      meet (no n) (inl q) = inl (step (keep a n) q)
      meet (no n) (inr (d, f, q)) = inr (d, f, step (keep a n) q)

  pub last_use : {u v : ℕ} → Leads G m u v → FromLast u v
  last_use here = inl here
  last_use (step {u} {v} {w} a p) = meet (ℕ_discrete a.link k) (last_use p)
    where
      meet : Dec (a.link ≡ k) → FromLast v w → FromLast u w
      meet _ (inr s) = inr s
      meet (yes e) (inl q) = inr (a.way, join (stay (cc a.ends)) q)
      meet (no n) (inl q) = inl (step (keep a n) q)

module _ {G : Net} (F : Fits G) (m : Ways) (k : ℕ) (h : k < G.links) (strong : Strong G m) where
  abbrev EitherWay : Type 0
  EitherWay = Leads G (without k m) (G.high k) (G.low k) ⊎ Leads G (without k m) (G.low k) (G.high k)

  -- where the ends of k are joined without k: one leads to the other in the open ways without k
  pub one_way : ((i : ℕ) (d : Bool) → i < G.links → (m i d ≡ true) ⊎ (m i (not d) ≡ true)) → Leads G (without k both_ways) (G.low k) (G.high k) → EitherWay
  one_way full p = ⊎_elim inr (λ e. e) (carry Joined pass p (inl here))
    where
      -- so far along the walk from the low end
      Joined : ℕ → Type 0
      Joined z = Leads G (without k m) (G.low k) z ⊎ EitherWay

      -- both ends lead to a, and a leads to the low end
      onward : {a : ℕ} → Leads G (without k m) (G.low k) a → Leads G (without k m) (G.high k) a → ToFirst G m k a (G.low k) → EitherWay
      onward q s (inl t) = inl (join s t)
      onward q s (inr (false, _, t)) = inl (join s t)
      onward q s (inr (true, _, t)) = inr (join q t)

      -- the walk goes from a to b against an arc
      against : {a b : ℕ} → Leads G (without k m) (G.low k) a → Arc G (without k m) b a → FromLast G m k (G.low k) b → Joined b
      against q r (inl t) = inl t
      against q r (inr (true, t)) = inl t
      against {a} q r (inr (false, t)) = inr (onward q (join t (one r)) (first_use G m k (strong a (G.low k) (arc_below F r).1 (F.low_below k h))))

      pass : (a b : ℕ) → Arc G (without k both_ways) a b → Joined a → Joined b
      pass a b r (inr e) = inr e
      pass a b r (inl q) =
          let free : (d : Bool) → m r.link d ≡ true → without k m r.link d ≡ true = λ d f. without_free k m r.link d (avoids k both_ways r) f in
          ⊎_elim
          (λ f. inl (join q (one (reopen r (free r.way f)))))
          (λ f. against q (turn r (free (not r.way) f)) (last_use G m k (strong (G.low k) b (F.low_below k h) (arc_below F r).1)))
          (full r.link r.way r.below)

  -- ways that open what m opens but for k, and join the ends of k in both directions, are strong too
  pub strong_around : (n : Ways) → ((i : ℕ) (d : Bool) → i < G.links → without k m i d ≡ true → n i d ≡ true)
      → (d : Bool) → Leads G n (end G k d) (end G k (not d)) → Leads G n (end G k (not d)) (end G k d) → Strong G n
  strong_around n f d p q u v hu hv = replace (λ a b r. by_link r (ℕ_discrete r.link k)) (strong u v hu hv)
    where
      around : (d : Bool) → Leads G n (end G k d) (end G k (not d)) → Leads G n (end G k (not d)) (end G k d)
          → (b : Bool) → Leads G n (end G k b) (end G k (not b))
      around false p q = elim [ false ↦ p | true ↦ q ]
      around true p q = elim [ false ↦ q | true ↦ p ]

      by_link : {a b : ℕ} (r : Arc G m a b) → Dec (r.link ≡ k) → Leads G n a b
      by_link r (no q) = one (reopen r (f _ _ r.below (without_free k m _ _ q r.free)))
      by_link r (yes e) = join (stay (cc r.starts)) (join (around d p q r.way) (stay (cc r.ends)))
