use Rattle.std.proofs.Common.{rules}
use mathlib.Core.Path.{◌≡◌, sym, ◌∙◌}
use native.Mathlib.Numerals.{add-one}
use native.Mathlib.Omega.{arith}
use Rattle.mesh.specs.Mesh.{ends_answer}
use Rattle.mesh.specs.Parts.{entry_answer}
use Rattle.mesh.specs.Laws.Parts.{entries_next, entries-refused, entries-end}
use Rattle.mesh.proofs.in_turn.first_refusal.Goals as goal

pub returns-in_err-ends_answer : goal.returns-in_err-ends_answer
returns-in_err-ends_answer c =
    let a = c.args in
    let lo = c.loop-i in
    let same : c.from_residual.result ≡ c.ends_answer.result = search rules in
    same ∙ entries-refused a.nodes a.ends.now a.count lo.i (omega arith) (let answered : c.ends_answer.result ≡ entry_answer a.nodes a.ends.now lo.i =
    c.ends_answer.ensures
    ∙ (λ j. ends_answer a.nodes (lo.invariant.0 j) (lo.invariant.1 j) (c.low_of-low.ensures j) (c.high_of-high.ensures j) lo.i) in answered) c.in_err-ends_answer.was ∙ sym lo.invariant.2

pub loop-i-preserved : goal.loop-i-preserved
loop-i-preserved c =
    let a = c.args in
    let lo = c.loop-i in (
      rw (add-one lo.i) c.low_of-low.ensures,
      rw (add-one lo.i) c.high_of-high.ensures,
      lo.invariant.2 ∙ entries_next a.nodes a.ends.now a.count lo.i (omega arith) (let answered : c.ends_answer.result ≡ entry_answer a.nodes a.ends.now lo.i =
          c.ends_answer.ensures
          ∙ (λ j. ends_answer a.nodes (lo.invariant.0 j) (lo.invariant.1 j) (c.low_of-low.ensures j) (c.high_of-high.ensures j) lo.i) in answered) c.in_ok-ends_answer.was,
    )

pub returns : goal.returns
returns c =
    let a = c.args in
    let lo = c.loop-i in
    sym (lo.invariant.2 ∙ entries-end a.nodes a.ends.now a.count lo.i (omega arith))
