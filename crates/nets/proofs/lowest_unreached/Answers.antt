-- `nets::lowest_unreached` meets its contract: the search through the nodes stops at the lowest that is not among those the search from node 0 comes to.
use Rattle.std.proofs.Common.{rules, ℕ, ◌≡◌, ◌%◌, Bool, true, false, not}
use Rattle.std.proofs.lemmas.Iterator.{first_from_Range}
use Rattle.scan.specs.Bits.{has}
use Rattle.nets.specs.Laws.Finds.{lowest_of-found}
use Rattle.nets.proofs.lowest_unreached.Goals as goal

pub returns : goal.returns
returns c =
    let p : ℕ → Bool = λ w. not (has c.spread-reached.result (w % 64)) in
    record {
      reached = c.spread-reached.result;
      spread = c.spread-reached.ensures;
      found = lowest_of-found p _ _ (first_from_Range _ _ _ _ (λ v. p v ≡ true) (λ v. p v ≡ false) c.find.ensures.ran (λ x q h. search rules) (λ x q h. search rules));
    }
