-- What a run and a status answer (01, "Run" and "Status"). Definitions only.
use Rattle.std.specs.Prelude.{ℕ, Bool, Result, Ok}
use Rattle.metres.specs.Known.{Length}
use Rattle.mesh.specs.declared.Reason.{Reason}
use Rattle.flooding.specs.declared.running.Outcome.{Outcome}
use Rattle.status.specs.declared.LinkStatus.{LinkStatus}

-- a run: how many deliveries it made and whether it is at rest, or a refusal
abbrev pub Report : Type 0
Report = Result Outcome Reason

abbrev pub Made : ℕ → Bool → Report
Made count rest = Ok (record { made = count; rest = rest })

-- a status: a link's state on a wavelength, how many links are under way on it, and its route length, or a refusal
abbrev pub Status : Type 0
Status = Result LinkStatus Reason

abbrev pub Link : ℕ → ℕ → Length → Status
Link state under_way route = Ok (record { state = state; under_way = under_way; route = route })
