-- The rules' tests are the flood's, with the list of states read as a function of the link. Assumes nothing.
use Rattle.std.specs.Prelude.{ℕ, zero, suc, ◌≡◌, ◌&&◌, ◌||◌, List}
use Rattle.std.proofs.Math.Path.{refl, ap, fun_ext}
use Rattle.std.proofs.Math.Bool.{and_assoc}
use Rattle.std.proofs.Common.{arith, lt-ltb, le-ltb, ne_eqb}
use Rattle.std.proofs.Math.Dec.{eqb}
use Rattle.scan.specs.Entry.{at, has}
use Rattle.scan.specs.Lowest.{lowest, any}
use Rattle.flood.specs.declared.Flood.{Flood}
use Rattle.flood.specs.Digraph.{Digraph, cut}
use Rattle.flood.specs.Machine.{under_way, live, holds, feeds, leaves, opens, first, some, at_rest}
use Rattle.history.specs.Rules.{Side, quiet_from, held_at, taken_into, rest_on}

-- what the rules see of a flood
abbrev pub shown : Flood → Side
shown f = record { state = at f.states; reached = has f.reached }

-- state 1, 2 or 3
live_is : (v : ℕ) → live v ≡ (eqb v 1 || (eqb v 2 || eqb v 3))
unfolding live
live_is zero = refl
live_is (suc zero) = refl
live_is (suc (suc zero)) = refl
live_is (suc (suc (suc zero))) = refl
live_is (suc (suc (suc (suc v)))) =
    let w : ℕ = suc (suc (suc (suc v))) in
    rw (le-ltb w 4 (omega arith), lt-ltb 0 w (omega arith), ne_eqb w 1 (λ e. omega arith), ne_eqb w 2 (λ e. omega arith), ne_eqb w 3 (λ e. omega arith))

module _ (g : Digraph) where
  open g use {links, tail}

  pub some_holds : (a : ℕ) (l : List ℕ) → some g (holds g a) l ≡ any (held_at g a (at l)) links
  unfolding some holds
  some_holds a l = ap (λ p. any p links) (fun_ext (λ i. ap (λ t. eqb (tail i) a && t) (live_is (at l i))))

  pub some-feeds : (a : ℕ) (l : List ℕ) → some g (feeds g a) l ≡ any (taken_into g a (at l)) links
  unfolding some feeds
  some-feeds a l = refl

  pub first-feeds : (a : ℕ) (l : List ℕ) → first g (feeds g a) l ≡ lowest (taken_into g a (at l)) links
  unfolding first feeds
  first-feeds a l = refl

  module _ (f : Flood) where
    pub opens_is : (k b i : ℕ) → opens g (cut g k) b i (at f.states i) ≡ quiet_from g k b (shown f) i
    unfolding opens leaves
    opens_is k b i = rw (and_assoc, and_assoc)

    pub some-opens : (k b : ℕ) → some g (opens g (cut g k) b) f.states ≡ any (quiet_from g k b (shown f)) links
    unfolding some
    some-opens k b = ap (λ p. any p links) (fun_ext (opens_is k b))

    pub rest_is : at_rest g f ≡ rest_on g (shown f)
    unfolding at_rest some under_way
    rest_is = refl
