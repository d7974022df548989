-- `covetureen_link` meets its contract.
use mathlib.Core.Path.{◌≡◌, sym, ◌∙◌, ap}
use Rattle.mesh.specs.declared.Link.{Link}
use Rattle.mesh.specs.WellFormed.{link, duct}
use Rattle.codec.specs.declared.Decoded.{Decoded}
use Rattle.covetureen.specs.Interface.{number_of, place_of, named_answer}
use Rattle.covetureen.proofs.book.covetureen_link.Goals as goal

pub returns-in_default : goal.returns-in_default
returns-in_default c =
    let e : c.and_then-named.result ≡ named_answer c.args.book.now c.args.link = c.and_then-named.ensures ∙ rw (c.link_answer.ensures, c.decode-d.ensures) in
    let h = sym e ∙ c.in_default.is in record {
      number = c.tell.ensures.number ∙ ap number_of e;
      low = rw h;
      high = rw h;
      metres = rw h;
      pair = rw h;
      duct = rw h;
      place = c.tell.ensures.place ∙ ap place_of e;
    }

pub returns : goal.returns
returns c =
    let e : c.and_then-named.result ≡ named_answer c.args.book.now c.args.link = c.and_then-named.ensures ∙ rw (c.link_answer.ensures, c.decode-d.ensures) in
    let h = sym e ∙ c.in-Ok.is in
    let d = c.decode-d.ensures in
    let k = c.args.link in
    let l = c.link_of-l.ensures ∙ ap (λ (z : Decoded). link z.mesh k) d in record {
      number = c.tell-2.ensures.number ∙ ap number_of e;
      low = ap (λ (z : Link). z.low) l ∙ rw h;
      high = ap (λ (z : Link). z.high) l ∙ rw h;
      metres = ap (λ (z : Link). z.length) l ∙ rw h;
      pair = ap (λ (z : Link). z.pair) l ∙ rw h;
      duct = c.duct_of.ensures ∙ ap (λ (z : Decoded). duct z.mesh k) d ∙ rw h;
      place = c.tell-2.ensures.place ∙ ap place_of e;
    }
