-- `rows::Search::step` meets its contract: what is to do is not 0, so its lowest digit is that of a node, and of one that is not done.
use Prim.Native.Nat.{ℕ, ◌<◌, ◌%◌, ◌^◌}
use mathlib.Core.Path.{◌≡◌, ◌∙◌, ap}
use native.Mathlib.Omega.{arith}
use lib.Bits.{bit_xor}
use lib.Count.{count_trailing_zeros}
use Rattle.std.proofs.lemmas.Nat.{xor_lt}
use Rattle.scan.specs.Bits.{trailing_is}
use Rattle.rows.specs.declared.Search.{Search}
use Rattle.rows.specs.Laws.Spreading.{done_grows, spreading_next}
use Rattle.rows.proofs.Search.step.Goals as goal

-- the node whose arcs are followed
node : (s : Search) → s.seen < 2 ^ 64 → s.done < 2 ^ 64 → (bit_xor s.seen s.done ≡ 0 → ⊥) → count_trailing_zeros 64 (bit_xor s.seen s.done) < 64
node s a b n = (trailing_is 64 (bit_xor s.seen s.done) (omega arith) (xor_lt 64 s.seen s.done a b)).below

pub overflow_cast-v : goal.overflow_cast-v
overflow_cast-v c = omega (arith, node c.args.self.now (omega arith) (omega arith) c.requires)

pub bounds-rows-v : goal.bounds-rows-v
bounds-rows-v c = node c.args.self.now (omega arith) (omega arith) c.requires

-- and its digit
one_more : (s : Search) (d : ℕ) → s.seen < 2 ^ 64 → s.done < 2 ^ 64 → (bit_xor s.seen s.done ≡ 0 → ⊥) → d ≡ 2 ^ (count_trailing_zeros 64 (bit_xor s.seen s.done) % 64)
    → d ≡ 2 ^ count_trailing_zeros 64 (bit_xor s.seen s.done)
one_more s d a b n e = let h = node s a b n in e ∙ ap (λ (v : ℕ). 2 ^ v) (omega arith)

pub returns-clause-kept : goal.returns-clause-kept
returns-clause-kept c =
    λ u S.
    let e = one_more c.args.self.now _ S.seen_fits S.done_fits c.requires c.digit.ensures in
    spreading_next S c.requires _ e (omega arith)

pub returns-clause-grown : goal.returns-clause-grown
returns-clause-grown c =
    λ u S.
    done_grows S c.requires _ (one_more c.args.self.now _ S.seen_fits S.done_fits c.requires c.digit.ensures)
