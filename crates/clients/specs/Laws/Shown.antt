-- The number of deliveries that `recover` gives, and `meshplan` prints, is wavelength 1's own: those that the list "cut, run" makes on it, which are those of
-- an unhindered run of wavelength 1 alone. Assumes nothing.
use Rattle.std.specs.Prelude.{ℕ, ◌*◌, ◌<◌, ◌≤◌, min, ◌≡◌, refl, true, List, [], ◌∷◌}
use Rattle.std.proofs.Common.{ap, ◌∙◌, arith}
use Rattle.scan.specs.Total.{total}
use Rattle.flood.specs.Digraph as failures
use Rattle.flood.specs.Machine as machine
use Rattle.flood.specs.Machine.{fresh, weight}
use Rattle.flood.specs.Topology.{had_of}
use Rattle.wavelengths.specs.declared.Wavelength.TheVariants.{First}
use Rattle.mesh.specs.declared.Mesh.{Mesh}
use Rattle.mesh.specs.Answer.{Accepted}
use Rattle.mesh.specs.WellFormed.{InRange}
use Rattle.formed.specs.Cut.{Link}
use Rattle.planner.specs.Plan.{planned}
use Rattle.recovery.specs.Answers as outcomes
use Rattle.recovery.specs.declared.Session.{Session}
use Rattle.recovery.specs.Laws.Forming.{record_few}
use Rattle.history.specs.History.{Call, by_value, cut, answers}
use Rattle.history.specs.Log.{logged, deliveries_on}
use Rattle.history.specs.Demand.{Demand3, state_on, had_on, started_on, digraph_on, ended, log}
use Rattle.history.proofs.Laws.Recovered.{demand_3}
use Rattle.history.proofs.Laws.Counted.{had-made}
use Rattle.history.proofs.Laws.Undisturbed.{just_cut}
use Rattle.history.proofs.Laws.Unhindered.{cut-run-made, reports_rest}
use Rattle.clients.specs.Sessions.{unhindered, recovered}

-- what the first 256 links have had is what all have had
had-all : (s : Session) → s.mesh.count ≤ 256 → had_of s.mesh.count s.first.states ≡ had_on s First
unfolding had_of
had-all s few =
    let all : min s.mesh.count 256 ≡ s.mesh.count = omega arith in
    ap (total (λ i. weight (state_on s First i))) all

module _ (m : Mesh) (ranges : InRange m) (accepted : (planned m).answer ≡ Accepted) (k : ℕ) where
  -- the list "cut, run"
  abbrev calls : List Call
  calls = cut by_value k ∷ unhindered ∷ []

  demand : Demand3 m calls
  demand = demand_3 m ranges.entries accepted calls

  module _ (below : k < m.count) where
    -- the cut stands, and does so after the run
    cut_stands : (log m (cut by_value k ∷ [])).cut ≡ Link k
    cut_stands = just_cut m ranges.entries accepted k below (λ s l. l.cut ≡ Link k) refl

    run-stands : (log m calls).cut ≡ Link k
    unfolding answers logged
    run-stands = cut_stands

    few : (ended m calls).mesh.count ≤ 256
    few = record_few (ended m calls) (demand.holds.passes calls [] refl)

    -- the deliveries are those that the list makes on wavelength 1
    pub own-deliveries : (recovered (started_on m) k).deliveries ≡ deliveries_on First (log m calls)
    unfolding recovered
    own-deliveries = had-all (ended m calls) few ∙ had-made m ranges.entries accepted calls k run-stands First

    -- the allowance is enough for both wavelengths
    enough : 4 * m.count ≤ 4294967295
    enough = omega (arith, few, ap (λ (x : Mesh). x.count) demand.holds.mesh)

    -- so that they are those of a run of wavelength 1 alone, from the cut on a fresh flood
    pub own-run : let g = digraph_on m in
        let c = failures.cut g k in
        (recovered (started_on m) k).deliveries ≡ (machine.run g c 4294967295 (machine.begin g c (fresh 256 64))).made
    own-run = own-deliveries ∙ cut-run-made m ranges.entries accepted k below 4294967295 enough First

    -- and the run reports that nothing is under way on either wavelength
    pub comes_to_rest : (n : ℕ) × ((recovered (started_on m) k).report ≡ outcomes.Made n true)
    unfolding recovered
    comes_to_rest = reports_rest m ranges.entries accepted (cut by_value k ∷ []) k cut_stands 4294967295 enough
