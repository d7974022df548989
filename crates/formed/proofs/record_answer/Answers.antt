-- `formed::record_answer` meets its contract: each return rewrites with the answers that led there.
use Rattle.std.proofs.Common.{rules}
use mathlib.Core.Path.{◌≡◌, sym, ◌∙◌}
use Rattle.formed.specs.Pieces.{record_after}
use Rattle.formed.proofs.record_answer.Goals as goal

pub returns-in_err-parts_answer : goal.returns-in_err-parts_answer
unfolding record_after
returns-in_err-parts_answer c =
    let same : c.from_residual.result ≡ c.parts_answer.result = search rules in
    let t = c.in_err-parts_answer.was in same ∙ rw (sym c.parts_answer.ensures ∙ t) t

pub returns-then-is_ill_formed : goal.returns-then-is_ill_formed
unfolding record_after
returns-then-is_ill_formed c = rw (sym c.parts_answer.ensures ∙ c.in_ok-parts_answer.was, ← c.is_ill_formed.ensures, c.if-is_ill_formed.true)

pub returns : goal.returns
unfolding record_after
returns c = rw (sym c.parts_answer.ensures ∙ c.in_ok-parts_answer.was, ← c.is_ill_formed.ensures, c.if-is_ill_formed.false)
