-- `covetureen_route` meets its contract.
use mathlib.Core.Path.{◌≡◌, sym, ◌∙◌, ap}
use Rattle.codec.specs.declared.Decoded.{Decoded}
use Rattle.one_cut.specs.declared.Recovered.{Recovered}
use Rattle.one_cut.specs.OneCut.{recovered}
use Rattle.covetureen.specs.Interface.{number_of, place_of, cut_answer}
use Rattle.covetureen.proofs.cut.covetureen_route.Goals as goal

pub returns-in_default : goal.returns-in_default
returns-in_default c =
    let e : c.and_then-a.result ≡ cut_answer c.args.book.now c.args.link
    = c.and_then-a.ensures ∙ rw (c.link_answer.ensures, c.and_then-planned.ensures, c.plan-p.ensures, c.decode-d.ensures) in
    let h = sym e ∙ c.in_default.is in record {
      number = c.tell.ensures.number ∙ ap number_of e;
      route = rw h;
      count = rw h;
      deliveries = rw h;
      metres = rw h;
      place = c.tell.ensures.place ∙ ap place_of e;
    }

pub returns : goal.returns
returns c =
    let e : c.and_then-a.result ≡ cut_answer c.args.book.now c.args.link
    = c.and_then-a.ensures ∙ rw (c.link_answer.ensures, c.and_then-planned.ensures, c.plan-p.ensures, c.decode-d.ensures) in
    let h = sym e ∙ c.in-Ok.is in
    let d = c.decode-d.ensures in
    let k = c.args.link in
    let r = c.recover-r.ensures ∙ ap (λ (z : Decoded). recovered z.mesh k) d in record {
      number = c.tell-2.ensures.number ∙ ap number_of e;
      route = ap (λ (z : Recovered). z.route.links) r ∙ rw h;
      count = ap (λ (z : Recovered). z.route.length) r ∙ rw h;
      deliveries = ap (λ (z : Recovered). z.deliveries) r ∙ rw h;
      metres = ap (λ (z : Recovered). z.metres) r ∙ rw h;
      place = c.tell-2.ensures.place ∙ ap place_of e;
    }
