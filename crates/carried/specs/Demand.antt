-- Demand 3 across a carry-over (02, request 3): old calls from a fresh old session on its mesh's plan, the carry-over, and calls of now behind it.
-- Definitions only.
use Rattle.std.specs.Prelude.{◌≡◌, List, [], ◌++◌}
use Rattle.mesh.specs.Answer.{Accepted}
use Rattle.wavelengths.specs.declared.Wavelength.TheVariants.{First, Second}
use Rattle.wavelengths.specs.Merge.{turns_on}
use Rattle.planner.specs.Plan.{planned}
use Rattle.recovery.specs.declared.Session.{Session}
use Rattle.legacy.specs.declared.OldMesh.{OldMesh}
use Rattle.legacy.specs.declared.OldSession.{OldSession}
use Rattle.legacy.specs.Record.{mesh_answer}
use Rattle.legacy.specs.Calls as old
use Rattle.legacy.specs.History as oldLists
use Rattle.upgrade.specs.Carried.{mesh_of, cut_of, carried}
use Rattle.history.specs.History.{Call, after}
use Rattle.history.specs.Log.{Log, made_on}
use Rattle.history.specs.Demand as lists
use Rattle.history.specs.Demand.{seen, log_from, DemandFrom, calls_on}

-- planning accepted the old mesh: the old mesh checks, then 20 and 21
pub record Planned (m : OldMesh) : Type 0 where
  pub checked : mesh_answer m ≡ Accepted
  pub accepted : (planned (mesh_of m)).answer ≡ Accepted

-- a fresh old session on the mesh's plan
abbrev pub old_start : OldMesh → OldSession
old_start m = old.fresh_on m (record { directions = (planned (mesh_of m)).plan.directions })

module _ (m : OldMesh) (olds : List old.Call) where
  -- the old session after the old calls; the cut that stands by them, and the deliveries accepted since, in order
  abbrev pub old_ended : OldSession
  old_ended = oldLists.after olds (old_start m)

  abbrev pub old_log : oldLists.Log
  old_log = oldLists.logged olds (old_start m) oldLists.empty_log

  -- the session that the carry-over gives
  abbrev pub upgraded : Session
  upgraded = (carried old_ended).session

  -- the cut that stands and the deliveries since, as the calls of now go on from them: all were on wavelength 1
  abbrev pub upgraded_log : Log
  upgraded_log = record { cut = cut_of old_log.cut; made = turns_on First old_log.made }

  -- the calls of now that come to the same: the cut that stands, and a delivery on wavelength 1 for each made since
  abbrev pub replayed : List Call
  replayed = calls_on First upgraded_log.cut old_log.made

  module _ (calls : List Call) where
    -- the session after the calls; the cut that stands by all answers, before and after the carry-over, and the deliveries accepted since, in order
    abbrev pub ended : Session
    ended = after calls upgraded

    abbrev pub log : Log
    log = log_from (mesh_of m) upgraded (seen upgraded) upgraded_log calls

    -- all of demand 3 on each wavelength: wavelength 1's deliveries before the carry-over count, wavelength 2 has had none until then
    pub record CarriedOver : Type 0 where
      pub accepted : (carried old_ended).answer ≡ Accepted
      pub first-before : made_on First upgraded_log ≡ old_log.made
      pub second_before : made_on Second upgraded_log ≡ []
      pub holds : DemandFrom (mesh_of m) upgraded (seen upgraded) upgraded_log calls

    -- it is the session, and the log, of a list of calls of now from a start on the mesh and its plan: whatever holds of every such list holds here
    pub record Replays : Type 0 where
      pub same_session : ended ≡ lists.ended (mesh_of m) (replayed ++ calls)
      pub same_log : log ≡ lists.log (mesh_of m) (replayed ++ calls)
