-- `codec::record_answer` meets its contract: it is the answer of what finding the record gives.
use Rattle.std.proofs.Common.{rules}
use Rattle.std.specs.Prelude.{Err}
use mathlib.Core.Path.{◌≡◌, ◌∙◌, ap}
use Rattle.reader.specs.Read.{answer_of}
use Rattle.codec.proofs.Laws.Locate.{span-answer}
use Rattle.codec.proofs.record_answer.Goals as goal

pub returns-in_err-find_record : goal.returns-in_err-find_record
returns-in_err-find_record c =
    let a = c.args in
    let same : c.from_residual.result ≡ Err c.in_err-find_record.field-0.0 = search rules in
    same ∙ ap answer_of c.in_err-find_record.ensures.value ∙ span-answer a.book.now a.link

pub returns : goal.returns
returns c = let a = c.args in ap answer_of c.in_ok-find_record.ensures.value ∙ span-answer a.book.now a.link
