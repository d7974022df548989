-- `covetureen_check` meets its contract.
use mathlib.Core.Path.{◌∙◌, ap}
use Rattle.codec.specs.declared.Decoded.{Decoded}
use Rattle.covetureen.specs.Interface.{number_of, place_of}
use Rattle.covetureen.proofs.book.covetureen_check.Goals as goal

pub returns : goal.returns
returns c =
    let e = ap (λ (z : Decoded). z.answer) c.decode-d.ensures in record {
      number = c.tell.ensures.number ∙ ap number_of e;
      place = c.tell.ensures.place ∙ ap place_of e;
    }
