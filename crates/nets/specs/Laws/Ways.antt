-- The rows of the links but for one that may be left out: one turn of the loop that puts them in, and of a mesh that passes the checks they have those links both
-- ways. Assumes nothing.
use Prim.Native.Nat.{ℕ, zero, suc, ◌+◌, ◌%◌, ◌<◌, ◌≤◌, min}
use Rattle.std.specs.Prelude.{◌≡◌, refl, ◌⊎◌, Bool, true, false, ◌&&◌, Option, Some, None, List, replicate, ltb}
use Rattle.std.proofs.Common.{sym, inl, inr, ⊎_elim, arith}
use Rattle.std.proofs.Math.Logic.Iff
use Rattle.std.proofs.Math.Decide.{dec_lt}
use Rattle.std.proofs.lemmas.List.{length-replicate}
use Rattle.scan.specs.Test.{clash, Says, known, lt_says, eq_says, and_says, denies}
use Rattle.scan.specs.Entry.{replicate-at}
use Rattle.scan.specs.Bits.{has_none}
use Rattle.mesh.specs.declared.Mesh.{Mesh}
use Rattle.mesh.specs.Answer.{Accepted}
use Rattle.mesh.specs.Mesh.{mesh_answer}
use Rattle.mesh.specs.WellFormed.{link}
use Rattle.mesh.specs.Laws.Checked.{passes}
use Rattle.graph.specs.Net.{Net, Ways, both_ways}
use Rattle.graph.specs.Laws.Arcs.{without_free, without_open}
use Rattle.rows.specs.Rows.{put}
use Rattle.nets.specs.Nets.{net_of, stays, ways_but, rows_of, Table}
use Rattle.nets.specs.Laws.Fits.{fits, counted}
use Rattle.nets.specs.Laws.Table.{opened_both, same_ways, put_way}

-- ---- the loop

module _ (m : Mesh) (gap : Option ℕ) where
  pub rows_none : replicate 64 0 ≡ rows_of m gap 0
  unfolding rows_of
  rows_none = refl

  module _ (k : ℕ) {t : List ℕ} (e : t ≡ rows_of m gap k) where
    pub rows_put : stays gap k ≡ true → {s x : List ℕ} → s ≡ put t ((link m k).low % 64) ((link m k).high % 64)
        → x ≡ put s ((link m k).high % 64) ((link m k).low % 64) → x ≡ rows_of m gap (k + 1)
    unfolding rows_of
    rows_put h f g = let next : k + 1 ≡ suc k = omega arith in rw (g, f, e, next, h) refl

    pub rows_skip : stays gap k ≡ false → t ≡ rows_of m gap (k + 1)
    unfolding rows_of
    rows_skip h = let next : k + 1 ≡ suc k = omega arith in rw (e, next, h) refl

-- ---- the ways

module _ (gap : Option ℕ) where
  -- the links before k but for the one that is left out, open both ways
  abbrev before : ℕ → Ways
  before k i d = stays gap i && ltb i k

  before_says : (k i : ℕ) (d : Bool) → Says (before k i d) ((stays gap i ≡ true) × (i < k))
  before_says k i d = and_says Iff.rfl (lt_says i k)

  none_before : (G : Net) → Table G (before 0) (replicate 64 0)
  none_before G = record {
    sized = length-replicate {A = ℕ} 64 0;
    ways = λ u v. (
      λ e. clash e (rw (replicate-at {A = ℕ} 64 0 u) (has_none v)),
      λ a. absurd (omega (arith, ((before_says 0 a.link a.way).0 a.free).1)),
    );
  }

  before-next : (k : ℕ) → stays gap k ≡ true → (i : ℕ) (d : Bool) → Says (before (suc k) i d) ((before k i d ≡ true) ⊎ (i ≡ k))
  before-next k s i d = (
    λ e. let (g, b) = (before_says (suc k) i d).0 e in elim (dec_lt i k) [ yes l ↦ inl ((before_says k i d).1 (g, l)) | no l ↦ inr (omega arith) ],
    ⊎_elim
        (λ e. let (g, b) = (before_says k i d).0 e in (before_says (suc k) i d).1 (g, omega arith))
        (λ e. (before_says (suc k) i d).1 (rw e s, omega arith)),
  )

  module _ (m : Mesh) (ok : mesh_answer m ≡ Accepted) where
    put_before : (k : ℕ) → k < m.count → stays gap k ≡ true → {t : List ℕ} → Table (net_of m) (before k) t
        → Table (net_of m) (before (suc k)) (put (put t ((link m k).low % 64) ((link m k).high % 64)) ((link m k).high % 64) ((link m k).low % 64))
    put_before k h s T =
        let F = fits m ok in
        let n = (passes m ok).nodes_most in
        let (low, high) = counted F n k h in
        rw (low, high)
        (same_ways (put_way (put_way T F n k h false) F n k h true) (before (suc k))
        (λ i d l. Iff.trans (before-next k s i d) (Iff.symm (opened_both k (before k) i d))))

    skip_before : (k : ℕ) → stays gap k ≡ false → {t : List ℕ} → Table (net_of m) (before k) t → Table (net_of m) (before (suc k)) t
    skip_before k s T = same_ways T (before (suc k)) (λ i d l. (
      λ e. let (g, b) = (before_says (suc k) i d).0 e in
          elim (dec_lt i k) [ yes l ↦ (before_says k i d).1 (g, l) | no l ↦ let q : i ≡ k = omega arith in clash (rw q at g) s ],
      λ e. let (g, b) = (before_says k i d).0 e in (before_says (suc k) i d).1 (g, omega arith),
    ))

    rows_before : (k : ℕ) → k ≤ m.count → Table (net_of m) (before k) (rows_of m gap k)
    unfolding rows_of
    rows_before zero h = none_before (net_of m)
    rows_before (suc k) h =
        let T = rows_before k (omega arith) in
        ⊎_elim (λ s. rw s (put_before k (omega arith) s T)) (λ s. rw s (skip_before k s T)) (known (stays gap k))

ways_says : (gap : Option ℕ) (i : ℕ) (d : Bool) → Says (ways_but gap i d) (stays gap i ≡ true)
ways_says None i d = (λ _. refl, λ _. refl)
ways_says (Some gap) i d =
    let s = denies (eq_says gap i) in
    (λ e. s.1 (λ q. (without_open gap both_ways i d e).0 (sym q)), λ e. without_free gap both_ways i d (λ q. s.0 e (sym q)) refl)

pub rows_ways : (m : Mesh) → mesh_answer m ≡ Accepted → (gap : Option ℕ) {rows : List ℕ} → rows ≡ rows_of m gap (min m.count 256) → Table (net_of m) (ways_but gap) rows
rows_ways m ok gap e =
    let most = (passes m ok).count_most in
    rw e
    (same_ways (rows_before gap m ok (min m.count 256) (omega arith)) (ways_but gap) (λ i d h. (
      λ e. (before_says gap (min m.count 256) i d).1 ((ways_says gap i d).0 e, omega arith),
      λ e. (ways_says gap i d).1 ((before_says gap (min m.count 256) i d).0 e).0,
    )))
