-- The loop that follows the taken links from node u₀ on: before it, one turn, its end. It has stored n links in `row` and stands at node u.
-- Assumes nothing.
use Prim.Native.Nat.{ℕ, zero, suc, ◌+◌, ◌-◌, ◌<◌, ◌≤◌}
use Rattle.std.specs.Prelude.{◌≡◌, set, replicate}
use Rattle.std.proofs.Math.Path.{refl}
use Rattle.std.proofs.Common.{ap, ◌∙◌}
use mathlib.Core.List.{List, [], ◌∷◌, ◌++◌}
use native.Mathlib.Omega.{arith}
use Rattle.std.proofs.Math.ListN.{length}
use Rattle.std.proofs.lemmas.List.{length-replicate}
use borrow.Author.Tests.{lt-ltb, le-ltb}
use Rattle.scan.specs.Test.{branch}
use Rattle.scan.specs.Entry.{at}
use Rattle.scan.specs.Lowest.{any, lowest}
use Rattle.scan.specs.Store.{sets_replicate}
use Rattle.scan.specs.Storing.{Storing, storing_all, storing_next, storing_end}
use Rattle.flood.specs.declared.Route.{Route}
use Rattle.flood.specs.Digraph.{Digraph}
use Rattle.flood.specs.Machine.{first, some}
use Rattle.flood.specs.Topology.{carries, route_from}
use Rattle.flood.specs.Lent.{graph, taken}
use Rattle.flooding.specs.Ended.{followed}

module _ (nodes : ℕ) (T H : List ℕ) (links : ℕ) (states : List ℕ) where
  abbrev g : Digraph
  g = graph nodes T H links

  -- no more links than allowed
  from-length : (m u : ℕ) → length (route_from g m u states) ≤ m
  unfolding route_from
  from-length zero u = omega arith
  from-length (suc m) u =
      let i = first g (carries g u) states in
      branch (λ (p : List ℕ). length p ≤ suc m) (some g (carries g u) states) (λ t. omega (arith, from-length m (at H i))) (λ t. omega arith)

  module _ (u i : ℕ) (e : i ≡ lowest (taken T states u) links) where
    from_next : (m : ℕ) → i < links → route_from g (suc m) u states ≡ i ∷ route_from g m (at H i) states
    unfolding route_from some any first carries
    from_next m h = rw (← e, lt-ltb i links h)

    from_end : (m : ℕ) → links ≤ i → route_from g m u states ≡ []
    unfolding route_from some any first carries
    from_end zero h = refl
    from_end (suc m) h = rw (← e, le-ltb i links h)

  module _ (u₀ : ℕ) where
    -- the links from u₀ on are stored in an array of zeros, but for those from u on
    pub record Following (row : List ℕ) (n u : ℕ) : Type 0 where
      pub stored : Storing (replicate 256 0) 0 (route_from g links u₀ states) row n (route_from g (links - n) u states)

    pub following_none : links ≤ 256 → Following (replicate 256 0) 0 u₀
    following_none h =
        let z : links - 0 ≡ links = omega arith in
        let room : 0 + length (route_from g links u₀ states) ≤ 256 = omega (arith, from-length links u₀) in
        record { stored = rw z (storing_all (replicate 256 0) 0 (route_from g links u₀ states) (rw (length-replicate {A = ℕ} 256 0) room)) }

    module _ {row : List ℕ} {n u : ℕ} (f : Following row n u) where
      module _ (i : ℕ) (e : i ≡ lowest (taken T states u) links) (h : n < links) (l : i < links) where
        left : route_from g (links - n) u states ≡ (i ∷ []) ++ route_from g (links - (n + 1)) (at H i) states
        left = let z : links - n ≡ suc (links - (n + 1)) = omega arith in rw z (from_next u i e (links - (n + 1)) l)

        pub following-turn : Following (set row n i) (n + 1) (at H i)
        following-turn = record { stored = storing_next f.stored (i ∷ []) (route_from g (links - (n + 1)) (at H i) states) left refl refl }

      -- nothing is left
      done : links ≤ 256 → route_from g (links - n) u states ≡ [] → ◌≡◌ {A = Route} (record { links = row; length = n }) (followed g u₀ states)
      done h e =
          let w : row ≡ route_from g links u₀ states ++ replicate (256 - length (route_from g links u₀ states)) 0
          = storing_end f.stored e ∙ sets_replicate 256 0 (route_from g links u₀ states) (omega (arith, from-length links u₀)) in
          let z : n ≡ length (route_from g links u₀ states) = omega (arith, f.stored.ends, ap length e) in
          λ j. record { links = w j; length = z j }

      -- no taken link leaves u
      pub following-end : links ≤ 256 → (i : ℕ) → i ≡ lowest (taken T states u) links → links ≤ i
          → ◌≡◌ {A = Route} (record { links = row; length = n }) (followed g u₀ states)
      following-end h i e l = done h (from_end u i e (links - n) l)

      -- there are as many as there are links
      pub following_full : links ≤ 256 → links ≤ n → ◌≡◌ {A = Route} (record { links = row; length = n }) (followed g u₀ states)
      unfolding route_from
      following_full h l = done h (let z : links - n ≡ 0 = omega arith in rw z)
