-- The indices that pass a test, as what is left of all indices. Serves the proof of `count`. Assumes nothing.
use Prim.Native.Nat.{ℕ, zero, suc}
use Rattle.std.specs.Prelude.{◌≡◌, refl, Bool, cond, List, ◌++◌, ◌∷◌, []}
use Rattle.std.proofs.Common.{sym, ◌∙◌, ap, map, zero-add, add-one}
use Rattle.std.specs.List.{filter, range_with_len}
use Rattle.std.proofs.lemmas.List.{map-id}
use Rattle.std.proofs.lemmas.List.FromFn.{filter_of_map_range_with_len_more}
use Rattle.scan.specs.Passing.{passing}

module _ (p : ℕ → Bool) where
  filtered : (n : ℕ) → filter p (map (λ i. i) (range_with_len 0 n)) ≡ passing p n
  unfolding passing
  filtered zero = refl
  filtered (suc n) =
      ap (λ (j : ℕ). filter p (map (λ i. i) (range_with_len 0 j))) (sym (add-one n))
      ∙ filter_of_map_range_with_len_more p (λ i. i) 0 n n (zero-add n)
      ∙ ap (λ (l : List ℕ). l ++ cond (p n) (n ∷ []) []) (filtered n)

  pub filter-range : (n : ℕ) → filter p (range_with_len 0 n) ≡ passing p n
  filter-range n = ap (filter p) (sym (map-id (range_with_len 0 n))) ∙ filtered n
