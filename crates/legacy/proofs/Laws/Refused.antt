-- Each call first tests its record: where that is refused, so is the call, with the same number and place. Assumes nothing.
use Rattle.std.specs.Prelude.{ℕ, ◌≡◌}
use Rattle.std.proofs.Common.{ap}
use Rattle.mesh.specs.Answer.{Answer, Refused}
use Rattle.mesh.specs.Mesh.{and_then}
use Rattle.legacy.specs.declared.OldSession.{OldSession}
use Rattle.legacy.specs.Record.{record_answer}
use Rattle.legacy.specs.Calls.{Call, own, answer}

pub call-refused : (s : OldSession) {number place : ℕ} → record_answer s ≡ Refused number place → (c : Call) → answer c s ≡ Refused number place
call-refused s e c = ap (λ (a : Answer). and_then a (own c s)) e
