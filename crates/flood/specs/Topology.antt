-- What the arrays that the code is given describe. Definitions only.
use Rattle.std.specs.Prelude.{ℕ, zero, suc, ◌-◌, min, Bool, cond, not, ◌&&◌, List, [], ◌∷◌, ◌++◌, length, replicate, eqb}
use Rattle.scan.specs.Entry.{at}
use Rattle.scan.specs.Total.{total, count}
use Rattle.flood.specs.declared.Route.{Route}
use Rattle.flood.specs.Digraph.{Digraph, Failure}
use Rattle.flood.specs.Machine.{under_way, weight, first, some}

-- a digraph with a failure, as arrays. Link i leads from tails[i] to heads[i]; it may be offered if open[i] is its tail
pub record Topology : Type 0 where
  pub nodes : ℕ
  pub count : ℕ
  pub source : ℕ
  pub target : ℕ
  pub tails : List ℕ
  pub heads : List ℕ
  pub «open» : List ℕ

-- at most 256 links, each from its tail to its head
unfoldable pub digraph_of : Topology → Digraph
digraph_of t = record { nodes = t.nodes; links = min t.count 256; tail = at t.tails; head = at t.heads }

-- a link is blocked where its open tail is not its tail
unfoldable pub failure_of : Topology → Failure
failure_of t = record { source = t.source; target = t.target; blocked = λ i. not (eqb (at t.open i) (at t.tails i)) }

module _ (g : Digraph) where
  open g use {links, tail, head}

  -- link i, in state v, is taken and leaves u
  unfoldable pub carries : ℕ → ℕ → ℕ → Bool
  carries u i v = eqb (tail i) u && eqb v 2

  -- the taken links from node u on, each the lowest that leaves the node where the one before ended, at most n of them
  unfoldable pub route_from : ℕ → ℕ → List ℕ → List ℕ
  route_from zero u states = []
  route_from (suc n) u states =
      let i : ℕ = first g (carries u) states in
      let rest : List ℕ = route_from n (head i) states in
      cond (some g (carries u) states) (i ∷ rest) []

-- links in a row, zeros past them
abbrev pub as_route : List ℕ → Route
as_route p = record { links = p ++ replicate (256 - length p) 0; length = length p }

-- how many of the first links are under way
unfoldable pub under_way_of : ℕ → List ℕ → ℕ
under_way_of links states = count (λ i. under_way (at states i)) (min links 256)

-- how many deliveries the first links have had, by their states
unfoldable pub had_of : ℕ → List ℕ → ℕ
had_of links states = total (λ i. weight (at states i)) (min links 256)
