-- `clients::book::reread` meets its contract, and by the inverse laws of reading and writing a mesh that was written comes back.
use mathlib.Core.Path.{◌≡◌, sym, ◌∙◌, ap}
use lib.ListN.{length, take}
use Rattle.codec.specs.declared.Encoded.{Encoded}
use Rattle.codec.specs.Book.{encoded, output_after, decoded}
use Rattle.codec.proofs.Laws.Written.{decoded_output}
use Rattle.clients.proofs.book.reread.Goals as goal

pub returns-clause-inverse : goal.returns-clause-inverse
returns-clause-inverse c =
    let a = c.args in
    let read : c.read_front-reading.result ≡ decoded (take (encoded a.m (length a.out.now)).length (output_after a.m a.out.now)) =
    c.read_front-reading.ensures ∙ rw (c.encode-writing.ensures.output, c.encode-writing.ensures.answer) in
    λ accepted. read ∙ decoded_output a.m a.out.now c.check-checking.ensures.ranges (ap (λ (r : Encoded). r.answer) (sym c.encode-writing.ensures.answer) ∙ accepted)
