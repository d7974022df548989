-- The record test by the pieces is the record test. Assumes nothing.
use Rattle.std.specs.Prelude.{◌≡◌, refl, Bool, true, false, not, ◌||◌, Err}
use Rattle.std.proofs.Common.{sym, ap, ◌∙◌}
use Rattle.std.proofs.Math.Bool.{or-true}
use Rattle.mesh.specs.declared.Mesh.{Mesh}
use Rattle.mesh.specs.declared.Plan.{Plan}
use Rattle.mesh.specs.Answer.{Answer, Accepted, Refused}
use Rattle.mesh.specs.Mesh.{must, and_then, mesh_answer}
use Rattle.mesh.specs.WellFormed.{InRange}
use Rattle.mesh.specs.Parts.{ends_in, rest_zero, parts_answer}
use Rattle.mesh.specs.Laws.Parts.{parts-answer}
use Rattle.wavelengths.specs.declared.Floods.{Floods}
use Rattle.formed.specs.Cut.{Cut}
use Rattle.faults.specs.Faults.{overflows, strays}
use Rattle.formed.specs.Formed.{misplaced, plan_fault, flood_fault, floods_fault, start_answer, record_answer}
use Rattle.formed.specs.Pieces.{ill_formed, record_after}

-- the tests of the states, the cut and the reached nodes are those of the cut and of each wavelength
by_wavelength : (cut states1 states2 reached1 reached2 : Bool)
    → ((states1 || states2) || cut || (reached1 || reached2)) ≡ (cut || ((states1 || reached1) || (states2 || reached2)))
by_wavelength true true states2 reached1 reached2 = refl
by_wavelength true false true reached1 reached2 = refl
by_wavelength true false false reached1 reached2 = refl
by_wavelength false true states2 reached1 reached2 = refl
by_wavelength false false true reached1 reached2 = sym (or-true reached1)
by_wavelength false false false reached1 reached2 = refl

-- after an answer, 13 for the plan and then for the cut and the floods is 13 for one of the tests
in_turn : (a : Answer) (plan cut states1 states2 reached1 reached2 : Bool)
    → and_then a (must (not ((plan || (states1 || states2)) || cut || (reached1 || reached2))) 13 0 Accepted)
    ≡ and_then (and_then a (must (not plan) 13 0 Accepted)) (must (not (cut || ((states1 || reached1) || (states2 || reached2)))) 13 0 Accepted)
in_turn (Err r) plan cut states1 states2 reached1 reached2 = refl
in_turn Accepted true cut states1 states2 reached1 reached2 = refl
in_turn Accepted false cut states1 states2 reached1 reached2 = rw (by_wavelength cut states1 states2 reached1 reached2)

record_after_lem : (m : Mesh) (p : Plan) (c : Cut) (f : Floods)
    → record_after (mesh_answer m) m.nodes m.count p.directions c f ≡ record_answer m p c f
unfolding record_after ill_formed record_answer start_answer plan_fault floods_fault flood_fault
record_after_lem m p c f =
    in_turn (mesh_answer m) (plan_fault m p) (misplaced m.count c)
    (overflows m.count 4 f.first.states) (overflows m.count 4 f.second.states)
    (strays m.nodes f.first.reached) (strays m.nodes f.second.reached)

-- the parts of a mesh are those that `split` gives
pub record_pieces : (m : Mesh) (p : Plan) (c : Cut) (f : Floods) → InRange m
    → record_after (parts_answer m.nodes m.count (rest_zero m) (ends_in m)) m.nodes m.count p.directions c f ≡ record_answer m p c f
record_pieces m p c f ranges =
    ap (λ (a : Answer). record_after a m.nodes m.count p.directions c f) (parts-answer m ranges) ∙ record_after_lem m p c f
