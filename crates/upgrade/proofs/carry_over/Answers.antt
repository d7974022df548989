-- `upgrade::carry_over` meets its contract: refused, it gives the session of zeros; accepted, the session after the start and the cut, with the old flood on
-- wavelength 1, which `carried_again` says is the one that is to be kept.
use mathlib.Core.Path.{◌≡◌, sym, ap, ◌∙◌}
use Rattle.recovery.specs.declared.Change.{Change}
use Rattle.recovery.specs.Calls.{started}
use Rattle.recovery.specs.Laws.Calls.{change_stops, change_goes}
use Rattle.legacy.specs.declared.OldSession.{OldSession}
use Rattle.upgrade.specs.Carried.{mesh_of, plan_of, with_first, cut_again, carried}
use Rattle.upgrade.proofs.Laws.Carried.{carried_again}
use Rattle.upgrade.proofs.carry_over.Goals as goal
use Rattle.upgrade.proofs.carry_over.Goals.{After-cut_again-session}

abbrev given : After-cut_again-session → OldSession
given c = c.args.old

-- the session after the start and the cut
begun : (c : After-cut_again-session) → let s = given c in c.cut_again-session.result ≡ cut_again (started (mesh_of s.mesh) (plan_of s.plan)).session s.cut
begun c =
    c.cut_again-session.ensures
    ∙ ap (λ (r : Change). cut_again r.session (given c).cut) (c.start-started.ensures ∙ (λ j. started (c.from.ensures j) (c.from-2.ensures j)))

pub returns-in_default : goal.returns-in_default
unfolding carried
returns-in_default c = change_stops c.check-answer.ensures.answer _ _ _ c.in_default.is c.zero_session-session.ensures

pub returns : goal.returns
unfolding carried
returns c =
    let accepted = c.in-Ok.is in
    change_goes c.check-answer.ensures.answer _ _ _ accepted
    ((λ j. with_first (begun c.before.before j) (c.from-session.ensures j)) ∙ carried_again (given c.before.before) c.check-answer.ensures.ranges (sym c.check-answer.ensures.answer ∙ accepted))
