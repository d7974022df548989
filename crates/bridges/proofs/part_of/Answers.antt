-- `bridges::part_of` meets its contract: the search through the nodes finds the lowest that the search from v comes to, and v is one.
use Prim.Native.Nat.{ℕ, ◌%◌}
use mathlib.Core.Path.{◌≡◌, sym, ◌∙◌, ap}
use mathlib.Core.Bool.{Bool, true, false}
use borrow.Author.Rules.{rules}
use native.Mathlib.Omega.{arith}
use Rattle.std.proofs.lemmas.Iterator.{first_from_Range}
use Rattle.scan.specs.Bits.{has}
use Rattle.scan.specs.Lowest.{lowest, any_found}
use Rattle.nets.specs.Nets.{lowest_of}
use Rattle.nets.specs.Laws.Finds.{lowest_of-found, lowest_of-says}
use Rattle.bridges.proofs.Laws.Parts.{part_found}
use Rattle.bridges.proofs.part_of.Goals as goal
use Rattle.bridges.proofs.part_of.Goals.{After-find}

module _ (c : After-find) where
  abbrev test : ℕ → Bool
  test u = has c.spread-reached.result (u % 64)

  found : c.find.result ≡ lowest_of test c.args.nodes
  found =
      lowest_of-found test _ _ (first_from_Range _ _ _ _ (λ u. test u ≡ true) (λ u. test u ≡ false) c.find.ensures.ran (λ x q h. search rules) (λ x q h. search rules))

pub unwrap-requires : goal.unwrap-requires
unwrap-requires c = rw (found c, any_found (test c) c.args.nodes c.args.v c.requires.1 c.spread-reached.ensures.start) (search rules)

pub returns : goal.returns
returns c =
    λ G F e T.
    let find = (goal.at.returns c).After-find in
    (lowest_of-says _ _ (sym c.unwrap.ensures ∙ found find)).1 ∙ ap (lowest (test find)) e
    ∙ part_found F (omega arith) T (omega arith) c.spread-reached.ensures
