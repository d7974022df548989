-- `streams::held::Held::end_line` meets its contract.
use Rattle.std.proofs.Common.{List, ℕ, ap, sym, ◌∙◌}
use Rattle.streams.specs.Lines.{line_end}
use Rattle.streams.proofs.Kept.{held_length, line_full, line_short}
use Rattle.streams.proofs.held.Held.end_line.Goals as goal

pub returns-then-self-ge-FULL : goal.returns-then-self-ge-FULL
returns-then-self-ge-FULL c =
    let i = c.self.inside in
    let long = held_length i.bytes c.word.new.self i.used c.self.invariant c.self.told c.self.view_is in
    c.write.ensures ∙ sym (ap (λ (bytes : List ℕ). line_end bytes) (sym c.word.ensures) ∙ line_full c.word.new.self (rw long c.if-self-ge-FULL.true))

pub returns-else-self-ge-FULL : goal.returns-else-self-ge-FULL
returns-else-self-ge-FULL c =
    let i = c.self.inside in
    let short = held_length i.bytes c.word.new.self i.used c.self.invariant c.self.told c.self.view_is in
    sym (ap (λ (bytes : List ℕ). line_end bytes) (sym c.word.ensures) ∙ line_short c.word.new.self (rw short c.if-self-ge-FULL.false))
