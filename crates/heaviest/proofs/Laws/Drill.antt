-- The heaviest drill as a mesh: by its number, a link is between a middle node and an outer node or between the two outer nodes. So the drill passes the mesh
-- checks for m up to 62. Assumes nothing.
use Prim.Native.Nat.{ℕ, zero, suc, ◌+◌, ◌*◌, ◌-◌, ◌/◌, ◌%◌, ◌<◌, ◌≤◌}
use Rattle.std.specs.Prelude.{◌≡◌, refl, ◌⊎◌, List, [], ◌∷◌, ◌++◌, get_or, replicate}
use Rattle.std.proofs.Common.{sym, ◌∙◌, ap, inl, inr, ⊎_elim, length-append, get_or-append-add}
use native.Mathlib.Omega.{arith}
use Rattle.std.proofs.Math.Decide.{dec_lt}
use Rattle.std.proofs.Math.ListN.{length, get_or-append}
use Rattle.std.proofs.lemmas.List.{length-replicate, get_or_at}
use Rattle.scan.specs.Test.{failing}
use Rattle.scan.specs.Entry.{replicate-at}
use Rattle.mesh.specs.declared.Link.{Link}
use Rattle.mesh.specs.Answer.{Accepted}
use Rattle.mesh.specs.Mesh.{zero_link, zero_mesh, mesh_answer}
use Rattle.mesh.specs.WellFormed.{link, Joins, Rises, WellFormed, LinkInRange, InRange}
use Rattle.mesh.specs.Laws.Checked.{accepts}
use Rattle.heaviest.specs.Drill.{span, spans_at, spans_below, drill_links, drill, drill_of}
use Rattle.heaviest.proofs.Laws.Tests.{size_says}
use Rattle.heaviest.proofs.Laws.Spans.{spans_length, links_length}

-- what the library makes for a size, and for any other number
pub drill_of_lem : (m : ℕ) → 1 ≤ m → m ≤ 62 → drill_of m ≡ drill m
unfolding drill_of
drill_of_lem m some most = rw ((size_says m).1 (some, most))

pub drill_none : (m : ℕ) → (m ≡ 0) ⊎ (62 < m) → drill_of m ≡ zero_mesh
unfolding drill_of
drill_none m other = rw (failing (size_says m) (λ (least, most). ⊎_elim (λ e. omega arith) (λ l. omega arith) other))

-- ---- link numbers

-- link k is between middle node i and outer node m + a, or between the outer nodes
pub data Kind (m k : ℕ) : Type 0 where
  middle : (i a : ℕ) → i < m → a < 2 → k ≡ 2 * i + a → Kind m k
  across : k ≡ 2 * m → Kind m k

pub kind : (m k : ℕ) → k < 2 * m + 1 → Kind m k
kind m k h = elim (dec_lt k (2 * m)) [
  | yes l ↦ middle (k / 2) (k % 2) (omega arith) (omega arith) (omega arith)
  | no l ↦ across (omega arith)
]

module _ (m : ℕ) where
  -- ---- the list of links

  span-at : (i a : ℕ) → a < 2 → get_or (spans_at m i) a zero_link ≡ span i (m + a)
  span-at i zero b = ap (span i) (omega arith)
  span-at i (suc zero) b = refl
  span-at i (suc (suc a)) b = absurd (omega arith)

  spans_at_lem : (n i a : ℕ) → i < n → a < 2 → get_or (spans_below m n) (2 * i + a) zero_link ≡ span i (m + a)
  unfolding spans_below
  spans_at_lem zero i a l b = absurd (omega arith)
  spans_at_lem (suc n) i a l b = elim (dec_lt i n) [
    | yes h ↦ get_or-append (spans_below m n) (spans_at m n) zero_link (2 * i + a) (omega (arith, spans_length m n)) ∙ spans_at_lem n i a h b
    | no h ↦
        let e : i ≡ n = omega arith in
        let f : 2 * i + a ≡ length (spans_below m n) + a = omega (arith, spans_length m n) in
        rw (f, e) (get_or-append-add (spans_below m n) (spans_at m n) a zero_link ∙ span-at n a b)
  ]

  abbrev rest : List Link
  rest = replicate (256 - (2 * m + 1)) zero_link

  -- ---- the links of the mesh

  in_list : (k : ℕ) → k < 2 * m + 1 → link (drill m) k ≡ get_or (drill_links m) k zero_link
  in_list k h = get_or-append (drill_links m) rest zero_link k (omega (arith, links_length m))

  pub middle_link : (i a : ℕ) → i < m → a < 2 → link (drill m) (2 * i + a) ≡ span i (m + a)
  middle_link i a l b =
      in_list (2 * i + a) (omega arith)
      ∙ get_or-append (spans_below m m) (span m (m + 1) ∷ []) zero_link (2 * i + a) (omega (arith, spans_length m m))
      ∙ spans_at_lem m i a l b

  pub across_link : link (drill m) (2 * m) ≡ span m (m + 1)
  across_link = in_list (2 * m) (omega arith) ∙ get_or_at (spans_below m m) (span m (m + 1)) [] zero_link (2 * m) (spans_length m m)

  past-link : (k : ℕ) → 2 * m + 1 ≤ k → link (drill m) k ≡ zero_link
  past-link k h =
      let e : length (drill_links m) + (k - length (drill_links m)) ≡ k = omega (arith, links_length m) in
      ap (λ (j : ℕ). get_or (drill_links m ++ rest) j zero_link) (sym e)
      ∙ get_or-append-add (drill_links m) rest (k - length (drill_links m)) zero_link
      ∙ replicate-at (256 - (2 * m + 1)) zero_link (k - length (drill_links m))

  near_link : (i : ℕ) → i < m → link (drill m) (2 * i) ≡ span i m
  near_link i l = let e : 2 * i ≡ 2 * i + 0 = omega arith in rw e (middle_link i 0 l (omega arith) ∙ ap (span i) (omega arith))

  far-link : (i : ℕ) → i < m → link (drill m) (2 * i + 1) ≡ span i (m + 1)
  far-link i l = middle_link i 1 l (omega arith)

  -- ---- the mesh checks

  drill_joins : (k : ℕ) → Kind m k → Joins (m + 2) (link (drill m) k)
  drill_joins k (middle i a l b e) = rw (e, middle_link i a l b) (record { apart = omega arith; inside = omega arith })
  drill_joins k (across e) = rw (e, across_link) (record { apart = omega arith; inside = omega arith })

  -- (i, m), (i, m + 1), (i + 1, m) and at last (m, m + 1)
  drill_rises : (k : ℕ) → Kind m k → k + 1 < 2 * m + 1 → Rises (link (drill m) k) (link (drill m) (k + 1))
  drill_rises k (middle i zero l b e) h = let q : k ≡ 2 * i = omega arith in rw (q, near_link i l, far-link i l) (inr (refl, omega arith))
  drill_rises k (middle i (suc zero) l b e) h = elim (dec_lt (suc i) m) [
    | yes c ↦ let q : 2 * i + 1 + 1 ≡ 2 * suc i = omega arith in rw (e, far-link i l, q, near_link (suc i) c) (inl (omega arith))
    | no c ↦ let q : 2 * i + 1 + 1 ≡ 2 * m = omega arith in rw (e, far-link i l, q, across_link) (inl (omega arith))
  ]
  drill_rises k (middle i (suc (suc a)) l b e) h = absurd (omega arith)
  drill_rises k (across e) h = absurd (omega arith)

  module _ (most : m ≤ 62) where
    pub drill_sized : length (drill m).links ≡ 256
    drill_sized = omega (arith, length-append (drill_links m) rest, links_length m, length-replicate (256 - (2 * m + 1)) zero_link)

    drill_formed : WellFormed (drill m)
    drill_formed = record {
      nodes_least = omega arith;
      nodes_most = omega arith;
      count_most = omega arith;
      joins = λ k h. drill_joins k (kind m k h);
      rises = λ k h. drill_rises k (kind m k (omega arith)) h;
      zeros = past-link;
      ductless = λ k h. replicate-at 256 0 k;
    }

    pub drill-accepted : mesh_answer (drill m) ≡ Accepted
    drill-accepted = accepts (drill m) drill_sized drill_formed

    -- every field is within the range of its type
    pub drill_in_range : InRange (drill m)
    drill_in_range = record {
      entries = drill_sized;
      links = λ k. elim (dec_lt k (2 * m + 1)) [ yes h ↦ in_range k (kind m k h) | no h ↦ rw (past-link k (omega arith)) (ends (omega arith) (omega arith)) ];
      numbers = length-replicate {A = ℕ} 256 0;
      ducts = λ k. omega (arith, replicate-at {A = ℕ} 256 0 k);
    }
      where
        ends : {low high : ℕ} → low < 256 → high < 256 → LinkInRange (span low high)
        ends a b = record { low = a; high = b; length = omega arith; pair = omega arith }

        in_range : (k : ℕ) → Kind m k → LinkInRange (link (drill m) k)
        in_range k (middle i a l b e) = rw (e, middle_link i a l b) (ends (omega arith) (omega arith))
        in_range k (across e) = rw (e, across_link) (ends (omega arith) (omega arith))
