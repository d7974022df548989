-- `streams::held::Held::pair` meets its contract.
use Rattle.std.proofs.Common.{[], ◌∷◌, ◌++◌, ◌∙◌}
use Rattle.io.specs.Digits.{last_digits}
use Rattle.streams.proofs.Kept.{line_added}
use Rattle.streams.proofs.held.Held.pair.Goals as goal

pub returns : goal.returns
returns c =
    let (first, first_count, a) = c.field.ensures in
    let (second, second_count, b) = c.number.ensures in
    let old = c.args.self.now ++ c.args.text.now in
    let one = 32 ∷ last_digits 10 first c.args.first in
    let two = 32 ∷ last_digits 10 second c.args.second in (
      first,
      second,
      first_count,
      second_count,
      c.end_line.ensures ∙ line_added old one two (10 ∷ []) c.field.new.self c.number.new.self a b,
    )
