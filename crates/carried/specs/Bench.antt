-- 01's P7 on the mesh of P5 with lengths and fibre pairs, made by the calls from before wavelength 2, carried over, and let run. Definitions only; the theorem
-- is `carried_bench` of Main.
use Rattle.std.specs.Prelude.{ℕ, ◌≡◌, List, [], ◌∷◌, ◌++◌, replicate}
use Rattle.metres.specs.Known.{Metres}
use Rattle.mesh.specs.Answer.{Accepted}
use Rattle.wavelengths.specs.declared.Wavelength.TheVariants.{First, Second}
use Rattle.wavelengths.specs.Merge.{turns_on}
use Rattle.formed.specs.Cut as cuts
use Rattle.recovery.specs.Answers as outcomes
use Rattle.recovery.specs.Calls.{status_of, routed_as, routed}
use Rattle.legacy.specs.declared.OldLink.{OldLink}
use Rattle.legacy.specs.declared.OldMesh.{OldMesh}
use Rattle.legacy.specs.Record.{zero_link}
use Rattle.legacy.specs.Calls as old
use Rattle.history.specs.History.{Call, run}
use Rattle.carried.specs.Demand.{Planned, upgraded, ended, log}

abbrev joined : ℕ → ℕ → ℕ → ℕ → OldLink
joined low high length pair = record { low = low; high = high; length = length; pair = pair }

abbrev pub four_nodes : OldMesh
four_nodes = record {
  nodes = 4;
  count = 5;
  links = joined 0 1 100 1 ∷ joined 0 2 200 2 ∷ joined 0 3 300 3 ∷ joined 1 2 400 4 ∷ joined 2 3 500 5 ∷ replicate 251 zero_link;
}

-- P7
abbrev pub before : List old.Call
before = old.cut 4 ∷ old.deliver 3 ∷ old.deliver 0 ∷ old.deliver 2 ∷ old.deliver 1 ∷ old.deliver 1 ∷ []

abbrev pub later : List Call
later = run 100 ∷ []

pub record Holds : Type 0 where
  pub plans : Planned four_nodes
  -- right after the carry-over wavelength 1 has its route, no length is shown, and on wavelength 2 one link is offered
  pub route_kept : routed (upgraded four_nodes before) 1 ≡ routed_as Accepted (3 ∷ 0 ∷ 2 ∷ [])
  pub no_length : status_of (upgraded four_nodes before) 0 1 ≡ outcomes.Link 2 0 (Metres 0)
  pub begun : status_of (upgraded four_nodes before) 2 2 ≡ outcomes.Link 1 1 (Metres 0)
  -- the run delivers on wavelength 2 alone
  pub delivered : log four_nodes before later
      ≡ record { cut = cuts.Link 4; made = turns_on First (3 ∷ 0 ∷ 2 ∷ 1 ∷ 1 ∷ []) ++ turns_on Second (2 ∷ 0 ∷ 1 ∷ 3 ∷ 3 ∷ 0 ∷ []) }
  -- then both wavelengths have a route and its length: 400 + 100 + 300, and 300 + 200
  pub first-length : status_of (ended four_nodes before later) 0 1 ≡ outcomes.Link 2 0 (Metres 800)
  pub second_route : routed (ended four_nodes before later) 2 ≡ routed_as Accepted (2 ∷ 1 ∷ [])
  pub second_length : status_of (ended four_nodes before later) 0 2 ≡ outcomes.Link 4 0 (Metres 500)
