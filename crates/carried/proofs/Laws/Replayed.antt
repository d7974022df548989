-- A session carried over is the one that the cut that stands and a delivery call on wavelength 1 for each delivery since give, since all deliveries were on
-- wavelength 1. Assumes the ranges of the old mesh's fields, which its types ensure.
use Rattle.std.specs.Prelude.{◌≡◌, List}
use Rattle.std.proofs.Common.{sym, ap, ap₂, ◌∙◌}
use Rattle.wavelengths.specs.declared.Wavelength.TheVariants.{First}
use Rattle.mesh.specs.declared.Mesh.{Mesh}
use Rattle.recovery.specs.declared.Change.{Change}
use Rattle.recovery.specs.declared.Session.{Session}
use Rattle.legacy.specs.declared.OldMesh.{OldMesh}
use Rattle.legacy.specs.WellFormed.{InRange}
use Rattle.legacy.specs.Calls as old
use Rattle.upgrade.specs.Carried.{mesh_of}
use Rattle.upgrade.proofs.Laws.Checks.{mesh_sized}
use Rattle.history.specs.History.{Call, after}
use Rattle.history.specs.Log.{Log}
use Rattle.history.specs.Demand as lists
use Rattle.history.specs.Demand.{seen, started_on, log_from}
use Rattle.history.proofs.Laws.Ruled.{after-append}
use Rattle.history.proofs.Laws.Started.{ended-more}
use Rattle.history.proofs.Laws.Undisturbed.{alone_is}
use Rattle.carried.specs.Demand.{Planned, old_log, upgraded, upgraded_log, replayed, Replays}
use Rattle.carried.proofs.Laws.Upgraded.{upgraded-kept, upgraded_is}

pub replayed-same : (m : OldMesh) → InRange m → Planned m → (olds : List old.Call) (calls : List Call) → Replays m olds calls
replayed-same m ranges good olds calls =
    let now : Mesh = mesh_of m in
    let again : List Call = replayed m olds in
    let (gives, says) = alone_is now (mesh_sized m ranges) good.accepted First (upgraded_log m olds).cut (old_log m olds).made (upgraded-kept m olds) in
    let is : upgraded m olds ≡ lists.ended now again = ap (λ (r : Change). r.session) (upgraded_is m olds ranges good) ∙ sym gives in
    record {
      same_session = ap (after calls) is ∙ sym (after-append again calls (started_on now));
      same_log = ap₂ (λ (s : Session) (l : Log). log_from now s (seen s) l calls) is (sym says) ∙ sym (ended-more now good.accepted (mesh_sized m ranges) again calls);
    }
