-- How many links the drill has, and the loop that stores them in an array: what this holds before each turn, one turn, the end. Assumes nothing.
use Prim.Native.Nat.{ℕ, zero, suc, ◌+◌, ◌*◌, ◌-◌, ◌≤◌}
use Rattle.std.specs.Prelude.{◌≡◌, List, [], ◌∷◌, ◌++◌, length, set}
use Rattle.std.proofs.Math.Path.{refl, ap}
use Rattle.std.proofs.Common.{sym, ◌∙◌, arith}
use Rattle.std.proofs.Math.Numerals.{add-one}
use Rattle.std.proofs.Math.ListN.{replicate, length-append}
use Rattle.std.proofs.lemmas.List.Edits.{sets}
use Rattle.scan.specs.Store.{sets_append, sets_replicate}
use Rattle.mesh.specs.declared.Link.{Link}
use Rattle.mesh.specs.Mesh.{zero_link}
use Rattle.heaviest.specs.Drill.{span, spans_at, spans_below, drill_links, drill}

module _ (m : ℕ) where
  pub spans_length : (n : ℕ) → length (spans_below m n) ≡ 2 * n
  unfolding spans_below
  spans_length zero = refl
  spans_length (suc n) = omega (arith, length-append (spans_below m n) (spans_at m n), spans_length n)

  pub links_length : length (drill_links m) ≡ 2 * m + 1
  links_length = omega (arith, length-append (spans_below m m) (span m (m + 1) ∷ []), spans_length m)

  -- a run of stores behind the links of the middle nodes below n, in any array
  stored_then : (l : List Link) (n : ℕ) (vs : List Link) → sets (sets l 0 (spans_below m n)) (2 * n) vs ≡ sets l 0 (spans_below m n ++ vs)
  stored_then l n vs = let e : 0 + length (spans_below m n) ≡ 2 * n = omega (arith, spans_length n) in sym (rw (← e) (sets_append l 0 (spans_below m n) vs))

  -- an array of zeros in which these links are stored
  unfoldable pub stored : ℕ → List Link
  stored n = sets (replicate 256 zero_link) 0 (spans_below m n)

  pub stored_none : stored 0 ≡ replicate 256 zero_link
  unfolding stored spans_below
  stored_none = refl

  -- those of middle node n
  pub stored_next : (n : ℕ) → set (set (stored n) (2 * n) (span n m)) (2 * n + 1) (span n (m + 1)) ≡ stored (n + 1)
  unfolding stored spans_below
  stored_next n = rw (add-one n, add-one (2 * n)) (stored_then (replicate 256 zero_link) n (spans_at m n))

  -- and the link between the outer nodes
  pub stored-all : m ≤ 62 → set (stored m) (2 * m) (span m (m + 1)) ≡ (drill m).links
  unfolding stored
  stored-all h =
      stored_then (replicate 256 zero_link) m (span m (m + 1) ∷ [])
      ∙ sets_replicate 256 zero_link (drill_links m) (omega (arith, links_length))
      ∙ ap (λ (k : ℕ). drill_links m ++ replicate (256 - k) zero_link) links_length
