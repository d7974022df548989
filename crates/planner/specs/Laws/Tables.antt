-- The rows that have the net's open ways when both ways of a link are shut: an arc goes where no other link has it, else it stays. And two tables, of which the
-- second has the ways by the nodes that they enter. Assumes nothing.
use Rattle.std.specs.Prelude.{ℕ, ◌<◌, ◌≤◌, ◌≡◌, ◌↔◌, Bool, not, List}
use Rattle.std.proofs.Math.Path.{refl}
use Rattle.std.proofs.Common.{sym, ◌∙◌, ⊎_elim, arith}
use Rattle.std.proofs.Math.Logic.Iff
use Rattle.std.proofs.Math.Bool.{true, false, not-not}
use Rattle.std.proofs.Math.Decide.{ℕ_discrete}
use Rattle.graph.specs.Net.{Net, Fits, end, Ways, Arc, Leads, both_ways, without}
use Rattle.graph.specs.Laws.Arcs.{arc, reopen, turn}
use Rattle.rows.specs.Rows.{Mirror, Meet, Apart, put, flip, cut}
use Rattle.rows.specs.Laws.Edges.{length-flip, flip-edge}
use Rattle.rows.specs.Laws.Meeting.{meet_leads, apart_none}
use Rattle.nets.specs.Nets.{Table}
use Rattle.nets.specs.Parallel.{Parallel, Ordered}
use Rattle.nets.specs.Laws.Parallel.{parallel_arc}
use Rattle.nets.specs.Laws.Table.{opened, to_leads, from_leads, same_ways, end_in, put_way}
use Rattle.planner.specs.Parallel.{Another, Only, Stays}
use Rattle.planner.specs.Laws.Shut.{shut, shut_says, shut_both, either_way, not_self}

-- ---- ways with the same ends

-- they are the same way of links with the same ends
same_way : {G : Net} → Ordered G → (i k : ℕ) (e d : Bool) → i < G.links → k < G.links → end G i e ≡ end G k d → end G i (not e) ≡ end G k (not d)
    → (e ≡ d) × Parallel G i k
same_way O i k false false l h s t = (refl, (s, t))
same_way O i k true true l h s t = (refl, (t, s))
same_way O i k false true l h s t = absurd (omega (arith, O.upward i l, O.upward k h))
same_way O i k true false l h s t = absurd (omega (arith, O.upward i l, O.upward k h))

-- ---- one way shut

-- another link has the arc
keep_way : {G : Net} {w : Ways} {rows : List ℕ} → Table G w rows → (k : ℕ) (d : Bool) → Another G w k d → Table G (shut k d w) rows
keep_way {G} {w} T k d (i, l, n, o, t) = record {
  sized = T.sized;
  ways = λ u v. (λ e. keep ((T.ways u v).0 e), λ a. (T.ways u v).1 (reopen a ((shut_says k d w _ _).0 a.free).0));
}
  where
    keep : {u v : ℕ} → Arc G w u v → Arc G (shut k d w) u v
    keep a = elim (ℕ_discrete a.link k) [
      | yes e ↦ ⊎_elim (λ q. parallel_arc t l a e ((shut_says k d w i a.way).1 (rw q o, λ (s, _). n s))) (λ q. reopen a ((shut_says k d w _ _).1 (a.free, λ (_, r). not_self d (sym r ∙ q)))) (either_way a.way d)
      | no m ↦ reopen a ((shut_says k d w _ _).1 (a.free, λ (e, _). m e))
    ]

module _ {G : Net} (F : Fits G) (n : G.nodes ≤ 64) (O : Ordered G) (k : ℕ) (h : k < G.links) {w : Ways} {rows : List ℕ} (T : Table G w rows) (d : Bool) where
  -- no other link has it
  flip_way : w k d ≡ true → Only G w k d → Table G (shut k d w) (flip rows (end G k d) (end G k (not d)))
  flip_way on S = record {
    sized = length-flip rows _ _ ∙ T.sized;
    ways = λ u v. let (out, into) = flip-edge rows (end G k d) (end G k (not d)) (end_in T F n k h d) u v ((T.ways _ _).1 (arc k d h on)) in (
      λ e. let (g, n) = out e in let a = (T.ways u v).0 g in
          reopen a ((shut_says k d w _ _).1 (a.free, λ (q, r). n (cc a.starts, cc a.ends))),
      λ a. let (f, n) = (shut_says k d w _ _).0 a.free in
          into (
            (T.ways u v).1 (reopen a f),
            λ (s, t). let (r, p) = same_way O a.link k a.way d a.below h (sym a.starts ∙ s) (sym a.ends ∙ t) in
                n (S a.link a.below (rw r at f) p, r),
          ),
    );
  }

-- ---- both ways shut, first the way (not d)

module _ {G : Net} (F : Fits G) (n : G.nodes ≤ 64) (O : Ordered G) (k : ℕ) (h : k < G.links) {w : Ways} {rows : List ℕ} (T : Table G w rows)
    (on : (d : Bool) → w k d ≡ true) (d : Bool) where
  -- way d still open, and other links as they were
  still : shut k (not d) w k d ≡ true
  still = (shut_says k (not d) w k d).1 (on d, λ (_, e). not_self d e)

  another_still : Another G w k d → Another G (shut k (not d) w) k d
  another_still (i, l, m, o, t) = (i, l, m, (shut_says k (not d) w i d).1 (o, λ (e, _). m e), t)

  only_still : Only G w k d → Only G (shut k (not d) w) k d
  only_still S i l o t = S i l ((shut_says k (not d) w i d).0 o).0 t

  shut-first : Only G w k (not d) → Table G (shut k (not d) w) (flip rows (end G k (not d)) (end G k d))
  shut-first S = rw not-not at (flip_way F n O k h T (not d) (on (not d)) S)

  ways_shut : (before after : Bool) → Stays G w k d before after
      → Table G (shut k d (shut k (not d) w)) (cut rows (end G k d) (end G k (not d)) before after)
  unfolding cut
  ways_shut before true S = keep_way (keep_way T k (not d) (S.later refl (not d))) k d (another_still (S.later refl d))
  ways_shut true false S = keep_way (shut-first (S.last refl)) k d (another_still (S.earlier refl))
  ways_shut false false S = flip_way F n O k h (shut-first (S.last refl)) d still (only_still (S.alone refl refl))

  cut_way : (before after : Bool) → Stays G w k d before after → Table G (without k w) (cut rows (end G k d) (end G k (not d)) before after)
  cut_way before after S = same_ways (ways_shut before after S) (without k w) (λ i e l. shut_both k w i e d)

-- ---- two tables

-- the ways turned round
abbrev turned_ways : Ways → Ways
turned_ways w i d = w i (not d)

opened_turned : (k : ℕ) (d : Bool) (w : Ways) (i : ℕ) (e : Bool) → opened k d w i (not e) ≡ opened k (not d) (turned_ways w) i e
opened_turned k true w i true = refl
opened_turned k true w i false = refl
opened_turned k false w i true = refl
opened_turned k false w i false = refl

-- the net's open ways by the nodes that they leave, and by those that they enter
pub record Tables (G : Net) (w : Ways) (leaving entering : List ℕ) : Type 0 where
  pub out : Table G w leaving
  into : Table G (turned_ways w) entering

-- all ways are the same turned round
pub both_tables : {G : Net} {rows : List ℕ} → Table G both_ways rows → Tables G both_ways rows rows
both_tables T = record { out = T; into = T }

module _ {G : Net} {w : Ways} {leaving entering : List ℕ} (T : Tables G w leaving entering) where
  mirror : Mirror leaving entering
  mirror u v = (
    λ e. let a = (T.out.ways u v).0 e in (T.into.ways v u).1 (turn a (rw not-not a.free)),
    λ e. let a = (T.into.ways v u).0 e in (T.out.ways u v).1 (turn a a.free),
  )

  -- what the search from both sides found is a walk of the net, and where it found none there is none
  pub found : {u v : ℕ} → Meet leaving entering u v → Leads G w u v
  found m = to_leads T.out (meet_leads leaving entering mirror m)

  pub none_found : {u v : ℕ} → Apart leaving entering u v → Leads G w u v → ⊥
  none_found a p = apart_none leaving entering mirror a (from_leads T.out p)

  pub same_tables : (x : Ways) → ((i : ℕ) (d : Bool) → i < G.links → (x i d ≡ true) ↔ (w i d ≡ true)) → Tables G x leaving entering
  same_tables x f = record { out = same_ways T.out x f; into = same_ways T.into (turned_ways x) (λ i d. f i (not d)) }

  module _ (F : Fits G) (n : G.nodes ≤ 64) (k : ℕ) (h : k < G.links) where
    pub put_tables : (d : Bool)
        → Tables G (opened k d w) (put leaving (end G k d) (end G k (not d))) (put entering (end G k (not d)) (end G k d))
    put_tables d = record {
      out = put_way T.out F n k h d;
      into = same_ways (rw not-not at (put_way T.into F n k h (not d))) (turned_ways (opened k d w)) (λ i e l. rw (opened_turned k d w i e) Iff.rfl);
    }

module _ {G : Net} (F : Fits G) (n : G.nodes ≤ 64) (O : Ordered G) (k : ℕ) (h : k < G.links) {w : Ways} {leaving entering : List ℕ} (T : Tables G w leaving entering)
    (on : (d : Bool) → w k d ≡ true) where
  pub cut_tables : (before after : Bool) → Stays G w k false before after
      → Tables G (without k w) (cut leaving (G.low k) (G.high k) before after) (cut entering (G.high k) (G.low k) before after)
  cut_tables before after S = record {
    out = cut_way F n O k h T.out on false before after S;
    into = cut_way F n O k h T.into (λ d. on (not d)) true before after (record {
      later = λ q e. S.later q (not e);
      last = S.last;
      earlier = S.earlier;
      alone = S.alone;
    });
  }
