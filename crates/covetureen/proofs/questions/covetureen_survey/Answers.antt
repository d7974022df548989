-- `covetureen_survey` meets its contract.
use mathlib.Core.Path.{◌≡◌, sym, ◌∙◌, ap}
use Rattle.codec.specs.declared.Decoded.{Decoded}
use Rattle.bridges.specs.declared.Surveyed.{Surveyed}
use Rattle.bridges.specs.Survey.{surveyed}
use Rattle.covetureen.specs.Interface.{number_of, place_of, mesh_in, survey_answer}
use Rattle.covetureen.proofs.questions.covetureen_survey.Goals as goal

pub returns-in_default : goal.returns-in_default
returns-in_default c =
    let s : c.survey-s.result ≡ surveyed (mesh_in c.args.book.now) = c.survey-s.ensures ∙ ap (λ (z : Decoded). surveyed z.mesh) c.decode-d.ensures in
    let e : c.and_then-surveyed.result ≡ survey_answer c.args.book.now = c.and_then-surveyed.ensures ∙ rw (s, c.decode-d.ensures) in
    let h = sym e ∙ c.in_default.is in record {
      number = c.tell.ensures.number ∙ ap number_of e;
      parts = rw h;
      bridges = rw h;
      place = c.tell.ensures.place ∙ ap place_of e;
    }

pub returns : goal.returns
returns c =
    let s : c.survey-s.result ≡ surveyed (mesh_in c.args.book.now) = c.survey-s.ensures ∙ ap (λ (z : Decoded). surveyed z.mesh) c.decode-d.ensures in
    let e : c.and_then-surveyed.result ≡ survey_answer c.args.book.now = c.and_then-surveyed.ensures ∙ rw (s, c.decode-d.ensures) in
    let h = sym e ∙ c.in-Ok.is in record {
      number = c.tell-2.ensures.number ∙ ap number_of e;
      parts = ap (λ (z : Surveyed). z.parts) s ∙ rw h;
      bridges = ap (λ (z : Surveyed). z.bridges) s ∙ rw h;
      place = c.tell-2.ensures.place ∙ ap place_of e;
    }
