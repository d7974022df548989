-- Rows that have the net's open ways: walks along the rows are walks of the net, and the rows follow when one way of a link is opened. Assumes nothing.
use Rattle.std.specs.Prelude.{ℕ, ◌<◌, ◌≤◌, ◌≡◌, refl, ◌⊎◌, ◌↔◌, Bool, true, false, not, ◌&&◌, ◌||◌, List, length, eqb}
use Rattle.std.proofs.Common.{◌∙◌, ap, inl, inr, ⊎_elim, arith}
use Rattle.std.proofs.Math.Logic.{⊎_map}
use Rattle.std.proofs.Math.Logic.Iff
use Rattle.scan.specs.Test.{known, Says, eq_says, and_says, or_says}
use Rattle.graph.specs.Walk.{Walk, one, replace}
use Rattle.graph.specs.Net.{Net, Fits, end, Ways, Leads, code}
use Rattle.graph.specs.Laws.Arcs.{end_below, reopen}
use Rattle.graph.specs.Laws.Pass.{code_inj}
use Rattle.rows.specs.Rows.{Edge, put}
use Rattle.rows.specs.Laws.Edges.{length-put, put-edge}
use Rattle.nets.specs.Nets.{Table}

-- ---- one way

-- way e of link i is way d of link k
abbrev pub is_way : ℕ → Bool → ℕ → Bool → Bool
is_way k d i e = eqb i k && eqb (code e) (code d)

pub is_way_says : (k : ℕ) (d : Bool) (i : ℕ) (e : Bool) → Says (is_way k d i e) ((i ≡ k) × (e ≡ d))
is_way_says k d i e = and_says (eq_says i k) (λ q. code_inj e d ((eq_says _ _).0 q), λ q. (eq_says _ _).1 (ap code q))

-- way d of link k open too
abbrev pub opened : ℕ → Bool → Ways → Ways
opened k d w i e = w i e || is_way k d i e

pub opened_says : (k : ℕ) (d : Bool) (w : Ways) (i : ℕ) (e : Bool) → Says (opened k d w i e) ((w i e ≡ true) ⊎ ((i ≡ k) × (e ≡ d)))
opened_says k d w i e = or_says Iff.rfl (is_way_says k d i e)

-- both ways of link k
module _ (k : ℕ) (w : Ways) (i : ℕ) (e : Bool) where
  pub opened_both : Says (opened k true (opened k false w) i e) ((w i e ≡ true) ⊎ (i ≡ k))
  opened_both = (
    λ o. ⊎_elim (λ p. ⊎_map (λ f. f) (λ (q, _). q) (first.0 p)) (λ (q, _). inr q) (second.0 o),
    ⊎_elim (λ f. second.1 (inl (first.1 (inl f)))) (λ q. ⊎_elim (λ t. second.1 (inr (q, t))) (λ f. second.1 (inl (first.1 (inr (q, f))))) (known e)),
  )
    where
      first : Says (opened k false w i e) ((w i e ≡ true) ⊎ ((i ≡ k) × (e ≡ false)))
      first = opened_says k false w i e

      second : Says (opened k true (opened k false w) i e) ((opened k false w i e ≡ true) ⊎ ((i ≡ k) × (e ≡ true)))
      second = opened_says k true (opened k false w) i e

-- ---- rows and walks

module _ {G : Net} {w : Ways} {rows : List ℕ} (T : Table G w rows) where
  pub to_leads : {u v : ℕ} → Walk (Edge rows) u v → Leads G w u v
  to_leads p = replace (λ u v e. one ((T.ways u v).0 e)) p

  pub from_leads : {u v : ℕ} → Leads G w u v → Walk (Edge rows) u v
  from_leads p = replace (λ u v a. one ((T.ways u v).1 a)) p

  -- ---- rows and ways

  -- only the ways along the net's links count
  pub same_ways : (x : Ways) → ((i : ℕ) (d : Bool) → i < G.links → (x i d ≡ true) ↔ (w i d ≡ true)) → Table G x rows
  same_ways x f = record {
    sized = T.sized;
    ways = λ u v. (
      λ e. let a = (T.ways u v).0 e in reopen a ((f _ _ a.below).1 a.free),
      λ a. (T.ways u v).1 (reopen a ((f _ _ a.below).0 a.free)),
    );
  }

  module _ (F : Fits G) (n : G.nodes ≤ 64) (k : ℕ) (h : k < G.links) (d : Bool) where
    pub end_in : end G k d < length rows
    end_in = omega (arith, end_below F k h d, T.sized)

    pub put_way : Table G (opened k d w) (put rows (end G k d) (end G k (not d)))
    put_way = record {
      sized = length-put rows _ _ ∙ T.sized;
      ways = λ u v. let (out, into) = put-edge rows (end G k d) (end G k (not d)) end_in u v in (
        λ e. ⊎_elim
            (λ g. let a = (T.ways u v).0 g in reopen a ((opened_says k d w _ _).1 (inl a.free)))
            (λ (s, t). record { link = k; way = d; below = h; free = (opened_says k d w k d).1 (inr (refl, refl)); starts = s; ends = t })
            (out e),
        λ a. into (⊎_map (λ f. (T.ways u v).1 (reopen a f)) (λ (q, r). (cc a.starts, cc a.ends)) ((opened_says k d w _ _).0 a.free)),
      );
    }
