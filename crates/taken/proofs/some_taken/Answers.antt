-- `taken::some_taken` meets its contract: the fold gathers whether one of the links is taken.
use Rattle.std.specs.Prelude.{ℕ, zero, suc, ◌+◌, ◌≡◌, refl, Bool, false, ◌||◌}
use Rattle.std.specs.List.{fold, range_with_len}
use Rattle.std.proofs.Common.{sym, ap, ◌∙◌, arith, rules}
use Rattle.std.proofs.Math.Bool.{or_assoc, or-false}
use Rattle.std.proofs.lemmas.Iterator.{YieldsList-from_range}
use Rattle.std.proofs.lemmas.Iterator.Consumers.{fold_from_yields_List}
use Rattle.scan.specs.Lowest.{any, any-zero, any-turn, any_block, any_same}
use Rattle.taken.specs.Taken.{is_taken}
use Rattle.taken.proofs.some_taken.Goals as goal

-- a test gathered over n links from a on
gathered : (p : ℕ → Bool) (t : Bool) (a n : ℕ) → fold (λ t i. t || p i) t (range_with_len a n) ≡ (t || any (λ j. p (a + j)) n)
gathered p t a zero = rw (← any-zero (λ j. p (a + j))) (sym (or-false t))
gathered p t a (suc n) = gathered p (t || p a) (a + 1) n ∙ or_assoc t (p a) _ ∙ ap (λ (u : Bool). t || u) here
  where
    q : ℕ → Bool
    q j = p (a + j)

    here : (p a || any (λ j. p (a + 1 + j)) n) ≡ any q (suc n)
    here =
        let first = any-turn q 0 false (p a) (p a) (any-zero q) (ap p (omega arith)) refl in
        let others = any_same (λ j. p (a + 1 + j)) (λ j. q (1 + j)) n (λ j h. ap p (omega arith)) in
        rw (first, others) (any_block q 1 1 n (omega arith) (omega arith) ∙ ap (any q) (omega arith))

pub returns : goal.returns
returns c =
    let p = is_taken c.args.states.now in
    let range = YieldsList-from_range c.args.from (c.args.from + 16) 16 refl (omega arith) in
    fold_from_yields_List _ (λ t i. t || p i) false _ c.fold.ensures.ran range (λ t i u f k. search rules) ∙ gathered p false c.args.from 16
