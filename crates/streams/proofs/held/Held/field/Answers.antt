-- `streams::held::Held::field` meets its contract.
use Rattle.streams.proofs.Kept.{added}
use Rattle.streams.proofs.held.Held.field.Goals as goal

pub returns : goal.returns
returns c =
    let (count, digits, n) = c.number.ensures in
    (count, digits, added c.args.self.now c.args.text.now _ c.word.new.self c.number.new.self c.word.ensures n)
