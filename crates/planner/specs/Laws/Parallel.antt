-- Links with the same ends in the pass: each but the last of them gets the direction 0, since a way leads back along the next. So when the last one's turn
-- comes, the others are open from low to high only. Assumes nothing.
use Rattle.std.specs.Prelude.{ℕ, suc, ◌-◌, ◌<◌, ◌≡◌, Bool, true, false}
use Rattle.std.proofs.Common.{sym, ◌∙◌, arith}
use Rattle.std.proofs.Math.Decide.{ℕ_discrete, dec_lt}
use Rattle.scan.specs.Test.{Says, fails, eq_says}
use Rattle.graph.specs.Walk.{one}
use Rattle.graph.specs.Net.{Net, Fits}
use Rattle.graph.specs.Greedy.{direction, begun}
use Rattle.graph.specs.Laws.Arcs.{without_free}
use Rattle.graph.specs.Laws.Pass.{begun_early, begun_late, next_up}
use Rattle.nets.specs.Parallel.{Parallel, Ordered}
use Rattle.planner.specs.Parallel.{Earlier, Later, Another, Only, Stays}

module _ {G : Net} (F : Fits G) (O : Ordered G) where
  later-zero : (k : ℕ) → Later G k → direction G k ≡ 0
  later-zero k (l, (low, high)) = next_up F k (omega arith) (one (record {
    link = suc k;
    way = true;
    below = l;
    free = without_free k (begun G k) (suc k) true (λ e. omega arith) (begun_late G k (suc k) true (omega arith));
    starts = high;
    ends = low;
  }))

  -- a link before k with its ends leads from low to high
  pub before-zero : (i k : ℕ) → i < k → k < G.links → Parallel G i k → direction G i ≡ 0
  before-zero i k l h t = later-zero i (omega arith, O.gathered i (suc i) k (omega arith) l h t)

  module _ (k : ℕ) (h : k < G.links) where
    -- one after it is open both ways
    later_another : Later G k → (d : Bool) → Another G (begun G k) k d
    later_another (l, (low, high)) d = (suc k, l, λ e. omega arith, begun_late G k (suc k) d (omega arith), (sym low, sym high))

    earlier_another : Earlier G k → Another G (begun G k) k false
    earlier_another (i, e, L) =
        let l : i < k = omega arith in
        (i, omega arith, λ q. omega arith, begun_early G k i false l ∙ (eq_says _ _).1 (later-zero i L), rw e at L.1)

    module _ (last : Later G k → ⊥) where
      -- a link other than k with its ends stands before it
      not_after : (i : ℕ) → i < G.links → Parallel G i k → k < i → ⊥
      not_after i l (low, high) b = last (omega arith, O.gathered k (suc k) i (omega arith) b l (sym low, sym high))

      only : (d : Bool) → ((i : ℕ) → i < k → begun G k i d ≡ true → Parallel G i k → ⊥) → Only G (begun G k) k d
      only d none i l o t = elim (dec_lt k i) [
        | yes b ↦ absurd (not_after i l t b)
        | no b ↦ elim (ℕ_discrete i k) [ yes e ↦ e | no n ↦ absurd (none i (omega arith) o t) ]
      ]

      only_down : Only G (begun G k) k true
      only_down =
          only true (λ i l o t. let down : direction G i ≡ 1 = (eq_says (direction G i) 1).0 (sym (begun_early G k i true l) ∙ o) in
          omega (arith, before-zero i k l h t))

      only_up : (Earlier G k → ⊥) → Only G (begun G k) k false
      only_up alone =
          only false (λ i l o t. let p : suc (k - 1) ≡ k = omega arith in
          let (low, high) = O.gathered i (k - 1) k (omega arith) (omega arith) h t in
          alone (k - 1, p, rw p (h, (sym low ∙ t.0, sym high ∙ t.1))))

    -- so the flags say which of its arcs stay
    pub stays : {before after : Bool} → Says before (Earlier G k) → Says after (Later G k) → Stays G (begun G k) k false before after
    stays B A = record {
      later = λ q. later_another (A.0 q);
      last = λ q. only_down (fails A q);
      earlier = λ q. earlier_another (B.0 q);
      alone = λ q p. only_up (fails A q) (fails B p);
    }
