-- `covetureen_plan` meets its contract.
use mathlib.Core.Path.{◌≡◌, sym, ◌∙◌, ap}
use Rattle.codec.specs.declared.Decoded.{Decoded}
use Rattle.planner.specs.declared.Planned.{Planned}
use Rattle.planner.specs.Plan.{planned}
use Rattle.covetureen.specs.Interface.{number_of, place_of, mesh_in, plan_answer}
use Rattle.covetureen.proofs.book.covetureen_plan.Goals as goal

pub returns-in_default : goal.returns-in_default
returns-in_default c =
    let p : c.plan-p.result ≡ planned (mesh_in c.args.book.now) = c.plan-p.ensures ∙ ap (λ (z : Decoded). planned z.mesh) c.decode-d.ensures in
    let e : c.and_then-planned.result ≡ plan_answer c.args.book.now = c.and_then-planned.ensures ∙ rw (p, c.decode-d.ensures) in
    let h = sym e ∙ c.in_default.is in record {
      number = c.tell.ensures.number ∙ ap number_of e;
      directions = rw h;
      place = c.tell.ensures.place ∙ ap place_of e;
    }

pub returns : goal.returns
returns c =
    let p : c.plan-p.result ≡ planned (mesh_in c.args.book.now) = c.plan-p.ensures ∙ ap (λ (z : Decoded). planned z.mesh) c.decode-d.ensures in
    let e : c.and_then-planned.result ≡ plan_answer c.args.book.now = c.and_then-planned.ensures ∙ rw (p, c.decode-d.ensures) in
    let h = sym e ∙ c.in-Ok.is in record {
      number = c.tell-2.ensures.number ∙ ap number_of e;
      directions = ap (λ (z : Planned). z.plan.directions) p ∙ rw h;
      place = c.tell-2.ensures.place ∙ ap place_of e;
    }
