-- `streams::held::Held::number` meets its contract.
use Rattle.std.proofs.Common.{[], ◌∷◌, take, append_assoc}
use Rattle.streams.proofs.Kept.{added}
use Rattle.streams.proofs.held.Held.number.Goals as goal

pub returns : goal.returns
returns c =
    let d = c.decimal-count in (
      d.result,
      d.ensures.len,
      rw (append_assoc, d.ensures.digits) at (
          added c.args.self.now (32 ∷ []) (take d.result d.new.out) c.word.new.self c.word-2.new.self c.word.ensures c.word-2.ensures),
    )
