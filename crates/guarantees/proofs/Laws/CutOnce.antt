-- What `one_cut` gives is what demand 3 says of the list "cut, run". Serves `one_cut` of Main. Assumes nothing.
use Prim.Native.Nat.{ℕ, ◌<◌, ◌≤◌, min}
use Rattle.std.specs.Prelude.{◌≡◌, [], ◌∷◌}
use Rattle.std.proofs.Math.Path.{refl, ap}
use Rattle.std.proofs.Common.{◌∙◌, arith}
use Rattle.scan.specs.Total.{total}
use Rattle.flood.specs.Machine.{weight}
use Rattle.flood.specs.Topology.{had_of}
use Rattle.wavelengths.specs.declared.Wavelength.{Wavelength}
use Rattle.wavelengths.specs.declared.Wavelength.TheVariants.{First}
use Rattle.mesh.specs.declared.Mesh.{Mesh}
use Rattle.mesh.specs.Answer.{Accepted}
use Rattle.mesh.specs.WellFormed.{InRange}
use Rattle.formed.specs.Cut.{Link}
use Rattle.planner.specs.Plan.{planned}
use Rattle.recovery.specs.declared.Session.{Session}
use Rattle.recovery.specs.declared.Routed.{Routed}
use Rattle.recovery.specs.Laws.Forming.{record_few}
use Rattle.history.specs.History.{by_value, cut, after, answers}
use Rattle.history.specs.Log.{logged}
use Rattle.history.specs.Demand.{Demand3, Routes, Measured, AtRest, state_on, had_on, ended, log}
use Rattle.history.proofs.Laws.Recovered.{demand_3}
use Rattle.history.proofs.Laws.Routed.{demand_route}
use Rattle.history.proofs.Laws.Measured.{demand_length}
use Rattle.history.proofs.Laws.Counted.{had-made}
use Rattle.history.proofs.Laws.Undisturbed.{just_cut}
use Rattle.history.proofs.Laws.Unhindered.{runs_out}
use Rattle.one_cut.specs.OneCut.{ran, status_metres}
use Rattle.guarantees.specs.OneCut.{cut_and_run, CutOnce}

module _ (m : Mesh) (ranges : InRange m) (accepted : (planned m).answer ≡ Accepted) (k : ℕ) (below : k < m.count) where
  abbrev s : Session
  s = ended m (cut_and_run m k)

  same : ran m k ≡ s
  unfolding after
  same = refl

  demand : Demand3 m (cut_and_run m k)
  demand = demand_3 m ranges.entries accepted (cut_and_run m k)

  cut_stands : (log m (cut by_value k ∷ [])).cut ≡ Link k
  cut_stands = just_cut m ranges.entries accepted k below (λ s l. l.cut ≡ Link k) refl

  run-stands : (log m (cut_and_run m k)).cut ≡ Link k
  unfolding answers logged
  run-stands = cut_stands

  few : s.mesh.count ≤ 256
  few = record_few s (demand.holds.passes (cut_and_run m k) [] refl)

  mesh_is : s.mesh.count ≡ m.count
  mesh_is = ap (λ (x : Mesh). x.count) demand.holds.mesh

  at_rest : (w : Wavelength) → AtRest s w
  at_rest w = (runs_out m ranges.entries accepted (cut by_value k ∷ []) k cut_stands 4294967295 (omega (arith, few, mesh_is)) w).rests

  had-all : had_of s.mesh.count s.first.states ≡ had_on s First
  unfolding had_of
  had-all =
      let all : min s.mesh.count 256 ≡ s.mesh.count = omega (arith, few) in
      ap (total (λ i. weight (state_on s First i))) all

  path : Routes s First k
  path = demand_route m ranges.entries accepted (cut_and_run m k) k run-stands First (at_rest First)

  measured : Measured s First
  measured = demand_length m ranges.entries accepted (cut_and_run m k) k run-stands at_rest First

  pub cut_once : CutOnce m k
  cut_once = record {
    session = same;
    stands = run-stands;
    rests = at_rest;
    route = rw same (ap (λ (r : Routed). r.route) path.given);
    path = path;
    deliveries = rw same (had-all ∙ had-made m ranges.entries accepted (cut_and_run m k) k run-stands First);
    metres = rw same (ap status_metres (measured.told k (rw mesh_is below)));
    measured = measured;
  }
