-- `changes::deliver_on` meets its contract: refused, the flood stays; accepted, the step is that on the wavelength's back-up digraph.
use mathlib.Core.Path.{◌≡◌, refl, sym, ap, ◌∙◌}
use Rattle.std.specs.Prelude.{Ok, Err}
use Rattle.std.proofs.Common.{rules}
use Rattle.mesh.specs.Answer.{Answer}
use Rattle.mesh.specs.Laws.Answer.{refused-accepted}
use Rattle.pieces.specs.Pieces.{giving}
use Rattle.changes.proofs.deliver_on.Goals as goal

pub returns-in_err-deliver_answer : goal.returns-in_err-deliver_answer
returns-in_err-deliver_answer c =
    let same : c.from_residual.result ≡ Err c.in_err-deliver_answer.field-0.0 = search rules in
    let t = sym c.in_err-deliver_answer.was ∙ c.deliver_answer.ensures in
    record {
      refused = λ why e. (same ∙ ap (λ (x : Answer). giving x (record { state = 0; tail = 0; head = 0 })) (t ∙ e), refl);
      stepped = λ e. refused-accepted (t ∙ e);
    }

pub returns : goal.returns
returns c =
    let t = sym c.deliver_answer.ensures ∙ c.in_ok-deliver_answer.was in
    record {
      refused = λ why e. refused-accepted (sym e ∙ t);
      stepped = λ e m given.
          let s = (rw (c.wavelength_of.ensures, c.requires) at c.step.ensures) m given in
          ((λ i. Ok (record { state = s.state i; tail = s.tail i; head = s.head i })), s.same);
    }
