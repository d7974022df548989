-- Demand 3 across a carry-over: its session is one that the calls of now keep, and all of demand 3 follows from that. Assumes the ranges of the old mesh's
-- fields, which its types ensure.
use Rattle.std.specs.Prelude.{refl, List}
use Rattle.std.proofs.Common.{sym, ap, subst}
use Rattle.wavelengths.specs.declared.Wavelength.TheVariants.{First, Second}
use Rattle.wavelengths.proofs.Laws.Project.{links_turns, links_turns_other}
use Rattle.recovery.specs.declared.Change.{Change}
use Rattle.legacy.specs.declared.OldMesh.{OldMesh}
use Rattle.legacy.specs.WellFormed.{InRange}
use Rattle.legacy.specs.Calls as old
use Rattle.upgrade.specs.Carried.{mesh_of}
use Rattle.upgrade.proofs.Laws.Checks.{mesh_sized}
use Rattle.history.specs.History.{Call}
use Rattle.history.specs.Demand.{seen, DemandFrom}
use Rattle.history.proofs.Laws.Recovered.{demand_from}
use Rattle.carried.specs.Demand.{Planned, old_log, upgraded_log, CarriedOver}
use Rattle.carried.proofs.Laws.Upgraded.{upgraded-kept, upgraded_is}

pub demand_carried : (m : OldMesh) → InRange m → Planned m → (olds : List old.Call) (calls : List Call) → CarriedOver m olds calls
demand_carried m ranges good olds calls =
    let is = upgraded_is m olds ranges good in
    record {
      accepted = ap (λ (r : Change). r.answer) is;
      first-before = links_turns First (old_log m olds).made;
      second_before = links_turns_other Second First (old_log m olds).made refl;
      holds = subst (λ (r : Change). DemandFrom (mesh_of m) r.session (seen r.session) (upgraded_log m olds) calls) (sym is)
          (demand_from (mesh_of m) good.accepted (mesh_sized m ranges) (upgraded-kept m olds) calls);
    }
