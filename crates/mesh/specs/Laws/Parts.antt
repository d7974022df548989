-- The mesh checks on the parts of a mesh are the mesh checks, and what the loops over the ends do to them. Assumes nothing.
use Prim.Native.Nat.{ℕ, zero, suc, ◌+◌, ◌-◌, ◌/◌, ◌%◌, ◌<◌, ◌≤◌}
use Rattle.std.specs.Prelude.{◌≡◌, ◌⊎◌, true, false, List, ◌∷◌, length, take, drop, replicate}
use Rattle.std.proofs.Math.Path.{refl, sym}
use Rattle.std.proofs.Common.{ap, ◌∙◌, inl, inr, lit<, leb-true}
use Rattle.std.proofs.Math.Bool.{Bool}
use Rattle.std.proofs.Math.Decide.{dec_lt}
use Rattle.std.proofs.Math.Numerals.{add-one}
use native.Mathlib.Omega.{arith}
use Rattle.scan.specs.Entry.{at}
use Rattle.scan.specs.Fill.{table_is, table_filled}
use Rattle.ends.specs.Ends.{low_of, high_of, Fits, Rising}
use Rattle.mesh.specs.declared.Link.{Link}
use Rattle.mesh.specs.declared.Mesh.{Mesh}
use Rattle.mesh.specs.Answer.{Answer, Accepted, Refused}
use Rattle.mesh.specs.Mesh.{must, and_then, zero_link, nodes_fit, count_fits, ends_answer, link_answer, links_answer, mesh_answer}
use Rattle.mesh.specs.WellFormed.{link, InRange}
use Rattle.mesh.specs.Refusal.{previous}
use Rattle.mesh.specs.Parts.{ends_of, ends_into, ends_in, rest_zero, entry_answer, entries_answer, parts_answer}
use Rattle.mesh.specs.Laws.Ends.{follows_says, ends-accepted}
use Rattle.mesh.specs.Laws.Links.{links_step, links_end}

-- ---- the entries in turn

module _ (n : ℕ) (ends : List ℕ) (k i : ℕ) where
  entries-step : i < k → entries_answer n ends i (k - i) ≡ and_then (entry_answer n ends i) (entries_answer n ends (i + 1) (k - (i + 1)))
  unfolding entries_answer
  entries-step h = let e : k - i ≡ suc (k - (i + 1)) = omega arith in rw (e, add-one i)

  -- entry i is accepted, or not, or there is none
  pub entries_next : {a : Answer} → i < k → a ≡ entry_answer n ends i → a ≡ Accepted → entries_answer n ends i (k - i) ≡ entries_answer n ends (i + 1) (k - (i + 1))
  entries_next h e t = entries-step h ∙ rw (sym e ∙ t)

  pub entries-refused : {a : Answer} {number place : ℕ} → i < k → a ≡ entry_answer n ends i → a ≡ Refused number place → a ≡ entries_answer n ends i (k - i)
  entries-refused h e t = t ∙ sym (entries-step h ∙ rw (sym e ∙ t))

  pub entries-end : k ≤ i → entries_answer n ends i (k - i) ≡ Accepted
  unfolding entries_answer
  entries-end h = let e : k - i ≡ 0 = omega arith in rw e

-- ---- the quick test

-- an entry is accepted whose low end is below its high end, that a node, and which is not below the entry before it
module _ (n : ℕ) (ends : List ℕ) (i : ℕ) (fits : Fits n ends i) where
  risen_accepted : at (0 ∷ ends) i ≤ at ends i → entry_answer n ends i ≡ Accepted
  risen_accepted h = (ends-accepted n _ _ _ _ i).1 (fits.0, fits.1, (follows_says _ _ _ _).1 after)
    where
      p : ℕ
      p = at (0 ∷ ends) i

      after : (p / 256 < at ends i / 256) ⊎ ((p / 256 ≡ at ends i / 256) × (p % 256 ≤ at ends i % 256))
      after = elim (dec_lt (p / 256) (at ends i / 256)) [ yes l ↦ inl l | no l ↦ inr (omega arith, omega arith) ]

-- where each entry is, all are
pub quick_accepted : (n k : ℕ) (ends : List ℕ) → ((i : ℕ) → i < k → Fits n ends i) → ((i : ℕ) → 0 < i → i < k → Rising ends i) → entries_answer n ends 0 k ≡ Accepted
unfolding entries_answer
quick_accepted n k ends fit rise = from 0 k (omega arith)
  where
    each : (i : ℕ) → i < k → entry_answer n ends i ≡ Accepted
    each zero h = let (a, b) = fit 0 h in risen_accepted n ends 0 (a, b) (omega arith)
    each (suc i) h =
        let (a, b) = fit (suc i) h in
        let e : suc i - 1 ≡ i = omega arith in
        risen_accepted n ends (suc i) (a, b) (rw e at (rise (suc i) (omega arith) h (omega arith)))

    from : (i d : ℕ) → i + d ≡ k → entries_answer n ends i d ≡ Accepted
    from i zero e = refl
    from i (suc d) e = rw (each i (omega arith)) (from (suc i) d (omega arith))

-- ---- the mesh

-- an array of zeros
pub ends_in_lem : (m : Mesh) → ends_into m (replicate 256 0) ≡ ends_in m
ends_in_lem m = table_is (λ i. ends_of (link m i)) m.count

-- the number of a link's ends tells them
module _ (l : Link) (byte : l.high < 256) where
  ends_low : low_of (ends_of l) ≡ l.low
  ends_low = omega arith

  ends_high : high_of (ends_of l) ≡ l.high
  ends_high = omega arith

-- with 256 entries and a high end of one byte in each
module _ (m : Mesh) (sized : length m.links ≡ 256) (bytes : (i : ℕ) → (link m i).high < 256) where
  module _ (few : m.count ≤ 256) where
    -- the entry of link i, and the one before it
    at-ends : (i : ℕ) → i < m.count → at (ends_in m) i ≡ ends_of (link m i)
    at-ends i h = table_filled (λ i. ends_of (link m i)) m.count i h (omega arith)

    at-previous : (i : ℕ) → i < m.count → at (0 ∷ ends_in m) i ≡ ends_of (previous m i)
    at-previous zero h = refl
    at-previous (suc i) h = at-ends i (omega arith)

    previous_byte : (i : ℕ) → (previous m i).high < 256
    previous_byte zero = lit< tt
    previous_byte (suc i) = bytes i

    entry_is : (i : ℕ) → i < m.count → entry_answer m.nodes (ends_in m) i ≡ link_answer m.nodes (previous m i) (link m i) i
    entry_is i h =
        let p : Link = previous m i in
        let l : Link = link m i in
        let q : p.high < 256 = previous_byte i in
        let b : l.high < 256 = bytes i in
        rw (at-previous i h, at-ends i h) (λ j. ends_answer m.nodes (ends_low p q j) (ends_high p q j) (ends_low l b j) (ends_high l b j) i)

    entries_are : (i d : ℕ) → i + d ≡ m.count
        → entries_answer m.nodes (ends_in m) i d ≡ links_answer m.nodes (previous m i) i (drop i (take m.count m.links))
    unfolding entries_answer
    entries_are i zero e = sym (links_end m.nodes (previous m i) m.links m.count i (omega arith))
    entries_are i (suc d) e =
        rw (entry_is i (omega arith), entries_are (suc i) d (omega arith))
        (sym (links_step m.nodes (previous m i) m.links m.count i (omega arith) (omega arith) ∙ rw (add-one i)))

  -- the mesh checks on a mesh's parts
  pub bytes-answer : parts_answer m.nodes m.count (rest_zero m) (ends_in m) ≡ mesh_answer m
  unfolding parts_answer mesh_answer
  bytes-answer = go (count_fits m.count) refl
    where
      -- the checks with these answers to the number of links and to the links
      checks : Bool → Answer → Answer
      checks t a = must (nodes_fit m.nodes) 3 0 (must t 4 0 (and_then a (must (rest_zero m) 13 0 Accepted)))

      go : (t : Bool) → count_fits m.count ≡ t
          → checks t (entries_answer m.nodes (ends_in m) 0 m.count) ≡ checks t (links_answer m.nodes zero_link 0 (take m.count m.links))
      go true e = ap (checks true) (entries_are (leb-true _ _ e) 0 m.count (omega arith))
      go false e = refl

pub parts-answer : (m : Mesh) → InRange m → parts_answer m.nodes m.count (rest_zero m) (ends_in m) ≡ mesh_answer m
parts-answer m ranges = bytes-answer m ranges.entries (λ i. (ranges.links i).high)

-- so is what is answered on the parts that a mesh is taken apart into
pub split_answer : (m : Mesh) → InRange m → {zeros : Bool} {ends : List ℕ} {a : Answer} → zeros ≡ rest_zero m → ends ≡ ends_into m (replicate 256 0)
    → a ≡ parts_answer m.nodes m.count zeros ends → a ≡ mesh_answer m
split_answer m ranges z e q = q ∙ (λ j. parts_answer m.nodes m.count (z j) ((e ∙ ends_in_lem m) j)) ∙ parts-answer m ranges
