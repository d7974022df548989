-- The test for refusal 20 passes just where `NoPath` holds of some place, and its place is that one. Assumes nothing.
use Rattle.std.specs.Prelude.{ℕ, ◌≡◌, true}
use borrow.Author.Tests.{ltb-true, not-false}
use Rattle.scan.specs.Test.{failing}
use Rattle.scan.specs.Lowest.{lowest, lowest_is, lowest_found, any, any_found}
use Rattle.graph.specs.Net.{Net, Fits, both_ways}
use Rattle.graph.specs.Plan.{unreached}
use Rattle.graph.specs.Laws.Reached.{reaches_iff}
use Rattle.graph.specs.Laws.Refusal.{unreached_says}
use Rattle.nets.specs.Nets.{NoPath}

module _ {G : Net} (F : Fits G) where
  pub any-unreached : any (unreached G) G.nodes ≡ true → NoPath G (lowest (unreached G) G.nodes)
  unfolding any unreached
  any-unreached e =
      let L = lowest_is (unreached G) G.nodes in
      let h = ltb-true _ G.nodes e in
      record {
        node = h;
        unreached = (unreached_says F _).0 (L.passes h);
        lowest = λ v l. (reaches_iff F both_ways 0 F.some-node v).0 (not-false _ (L.before v l));
      }

  -- and where it says so, the test passes, at this place
  module _ {place : ℕ} (N : NoPath G place) where
    here : unreached G place ≡ true
    here = (unreached_says F place).1 N.unreached

    pub no_path_any : any (unreached G) G.nodes ≡ true
    no_path_any = any_found (unreached G) G.nodes place N.node here

    pub no_path_lowest : lowest (unreached G) G.nodes ≡ place
    no_path_lowest = lowest_found (unreached G) G.nodes place N.node (λ v l. failing (unreached_says F v) (λ n. n (N.lowest v l))) here
