-- `recovery::Session::cut` meets its contract: the answer says of the cut and of the floods whether they stay.
use mathlib.Core.Path.{ap, ◌∙◌}
use Rattle.mesh.specs.Answer.{Answer}
use Rattle.flood.specs.Digraph.{cut}
use Rattle.wavelengths.specs.declared.Wavelength.{Wavelength}
use Rattle.wavelengths.specs.Merge.{begin}
use Rattle.formed.specs.Cut as cuts
use Rattle.recovery.specs.Session.{floods, session_of}
use Rattle.recovery.specs.Calls.{digraph, cut_on, change, after_cut}
use Rattle.recovery.specs.Pieces.{change_to}
use Rattle.recovery.specs.Laws.Calls.{change-chosen}
use Rattle.recovery.proofs.Session.cut.Goals as goal

pub returns : goal.returns
unfolding after_cut
returns c =
    let a = c.args in
    let s = a.self in
    let g = digraph s in
    let r = c.cut-answer.result in
    (λ i. change_to (session_of s.mesh s.plan (c.cut_after-cut.ensures i) (c.cut-answer.ensures.floods i)) r)
    ∙ change-chosen s (cuts.Link a.link) (begin g (λ (w : Wavelength). cut (g w) a.link) (floods s)) r
    ∙ ap (λ (x : Answer). change x s (cut_on s a.link)) c.cut-answer.ensures.answer
