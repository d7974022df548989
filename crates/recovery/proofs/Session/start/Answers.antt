-- `recovery::Session::start` meets its contract: refused, it gives the session of zeros; accepted, the fresh one, whose record it tested.
use mathlib.Core.Path.{◌≡◌, ◌∙◌}
use Rattle.mesh.specs.Answer.{Answer}
use Rattle.mesh.specs.declared.Mesh.{Mesh}
use Rattle.mesh.specs.declared.Plan.{Plan}
use Rattle.flood.specs.declared.Flood.{Flood}
use Rattle.flood.specs.Machine.{fresh}
use Rattle.wavelengths.specs.Wavelength.{pair}
use Rattle.formed.specs.Formed.{start_answer}
use Rattle.formed.specs.Cut as cuts
use Rattle.formed.specs.Laws.Fresh.{fresh-answer}
use Rattle.recovery.specs.Session.{session_of}
use Rattle.recovery.specs.Formed.{record_answer}
use Rattle.recovery.specs.Calls.{fresh_on, started}
use Rattle.recovery.specs.Laws.Calls.{change_stops, change_goes}
use Rattle.recovery.proofs.Session.start.Goals as goal

-- where both floods are quiet, the answer is that of a start on the mesh and the plan
answered : (m : Mesh) (p : Plan) {f h : Flood} {r : Answer} → f ≡ fresh 256 64 → h ≡ fresh 256 64 → r ≡ record_answer (session_of m p cuts.Nothing (pair f h)) → r ≡ start_answer m p
answered m p d e t = t ∙ (λ i. record_answer (session_of m p cuts.Nothing (pair (d i) (e i)))) ∙ fresh-answer m p

pub returns-in_default : goal.returns-in_default
unfolding started
returns-in_default c =
    change_stops (answered c.args.mesh c.args.plan c.quiet-first.ensures c.quiet-second.ensures c.tested-answer.ensures) _ _ _ c.in_default.is
    (c.fresh-session.ensures ∙ (λ i. fresh_on (c.zero_mesh.ensures i) (record { directions = c.zero_plan.ensures i })))

pub returns : goal.returns
unfolding started
returns c =
    change_goes (answered c.args.mesh c.args.plan c.quiet-first.ensures c.quiet-second.ensures c.tested-answer.ensures) _ _ _ c.in-Ok.is
    (λ i. session_of c.args.mesh c.args.plan cuts.Nothing (pair (c.quiet-first.ensures i) (c.quiet-second.ensures i)))
