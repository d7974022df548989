-- `clients::book::rewrite` meets its contract, and by the inverse laws of reading and writing an accepted book comes out as it is.
use mathlib.Core.Path.{◌∙◌, ap}
use native.Mathlib.Omega.{arith}
use Rattle.scan.specs.Bytes.{AreBytes}
use Rattle.codec.specs.declared.Decoded.{Decoded}
use Rattle.codec.specs.Book.{output_after}
use Rattle.codec.proofs.Laws.Read.{output_decoded}
use Rattle.clients.proofs.book.rewrite.Goals as goal

pub returns-clause-inverse : goal.returns-clause-inverse
returns-clause-inverse c =
    let a = c.args in
    let small : AreBytes a.book.now = λ j. omega (arith, c.type_inv.book j) in
    let out = c.encode-writing.ensures.output ∙ ap (λ (r : Decoded). output_after r.mesh a.out.now) c.decode-read.ensures in
    λ accepted room. out ∙ (output_decoded a.book.now a.out.now small accepted room).1
