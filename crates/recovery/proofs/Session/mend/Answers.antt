-- `recovery::Session::mend` meets its contract: refused, the cut and the floods stay; accepted, there is no cut and the floods are quiet.
use mathlib.Core.Path.{ap, ◌∙◌}
use Rattle.mesh.specs.Answer.{Answer}
use Rattle.flood.specs.Machine.{fresh}
use Rattle.wavelengths.specs.Wavelength.{pair}
use Rattle.formed.specs.Cut as cuts
use Rattle.recovery.specs.Session.{session_of}
use Rattle.recovery.specs.Calls.{fresh_on, change, after_mend}
use Rattle.recovery.specs.Pieces.{change_to}
use Rattle.recovery.specs.Laws.Calls.{change-each}
use Rattle.recovery.proofs.Session.mend.Goals as goal

pub returns : goal.returns
unfolding after_mend
returns c =
    let s = c.args.self in
    (λ i. change_to (session_of s.mesh s.plan (c.cut_after-cut.ensures i) (pair (c.flood_after-first.ensures i) (c.flood_after-second.ensures i))) c.mend_answer-answer.result)
    ∙ change-each s cuts.Nothing (fresh 256 64) (fresh 256 64) c.mend_answer-answer.result
    ∙ ap (λ (x : Answer). change x s (fresh_on s.mesh s.plan)) c.mend_answer-answer.ensures
