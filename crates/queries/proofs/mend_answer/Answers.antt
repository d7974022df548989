-- `queries::mend_answer` meets its contract: the counts say whether no link is under way.
use mathlib.Core.Path.{◌∙◌}
use Rattle.wavelengths.specs.Wavelength.{pair}
use Rattle.queries.proofs.Laws.Counts.{mend_counted}
use Rattle.queries.proofs.mend_answer.Goals as goal

pub returns : goal.returns
returns c =
    let a = c.args in
    (rw (c.take_apart-tested.ensures.answer, c.is_resting.ensures, c.is_resting-2.ensures) at c.mend_answer.ensures)
    ∙ mend_counted a.mesh (record { directions = a.directions.now }) a.cut (pair a.first.now a.second.now) a.link
