-- `covetureen_mesh` meets its contract.
use mathlib.Core.Path.{sym, ◌∙◌, ap}
use Rattle.codec.specs.declared.Decoded.{Decoded}
use Rattle.covetureen.specs.Interface.{number_of, place_of}
use Rattle.covetureen.proofs.book.covetureen_mesh.Goals as goal

pub returns-in_default : goal.returns-in_default
returns-in_default c =
    let e = ap (λ (z : Decoded). z.answer) c.decode-d.ensures in
    let h = sym e ∙ c.in_default.is in record {
      number = c.tell.ensures.number ∙ ap number_of e;
      nodes = rw h;
      links = rw h;
      place = c.tell.ensures.place ∙ ap place_of e;
    }

pub returns : goal.returns
returns c =
    let d = c.decode-d.ensures in
    let e = ap (λ (z : Decoded). z.answer) d in
    let h = sym e ∙ c.in-Ok.is in record {
      number = c.tell-2.ensures.number ∙ ap number_of e;
      nodes = ap (λ (z : Decoded). z.mesh.nodes) d ∙ rw h;
      links = ap (λ (z : Decoded). z.mesh.count) d ∙ rw h;
      place = c.tell-2.ensures.place ∙ ap place_of e;
    }
