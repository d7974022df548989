-- What a run and a route on lent arrays say. Definitions only.
use Rattle.std.specs.Prelude.{ℕ, ◌≡◌, Bool, List}
use Rattle.scan.specs.Lowest.{lowest}
use Rattle.flood.specs.declared.Flood.{Flood}
use Rattle.flood.specs.declared.Route.{Route}
use Rattle.flood.specs.Digraph.{Digraph, Failure}
use Rattle.flood.specs.Lent.{busy}
use Rattle.flood.specs.Topology.{route_from, as_route}
use Rattle.wavelengths.specs.declared.Floods.{Floods}
use Rattle.wavelengths.specs.declared.Wavelength.{Wavelength}
use Rattle.wavelengths.specs.Merge.{Ran, at_rest, run}

-- after a delivery on link k, of `links` links, that gives `to` and says r: where k was the lowest link under way, r is
pub record Turned (links : ℕ) (states : List ℕ) (k : ℕ) (got to : Flood) (r : ℕ) : Type 0 where
  pub same : got ≡ to
  pub next : k ≡ lowest (busy states) links → r ≡ lowest (busy got.states) links

-- after a run from p with the allowance n: what it made on both wavelengths, and whether both are at rest
pub record Ended (g : Wavelength → Digraph) (c : Wavelength → Failure) (n : ℕ) (p got : Floods) (made : ℕ) (rest : Bool) : Type 0 where
  pub same : ◌≡◌ {A = Ran} (record { floods = got; made = made }) (run g c n p)
  pub rests : rest ≡ at_rest g got

-- the taken links from node u on
abbrev pub followed : Digraph → ℕ → List ℕ → Route
followed g u states = as_route (route_from g g.links u states)
