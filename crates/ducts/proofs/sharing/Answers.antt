-- `ducts::sharing` meets its contract: each of its four ways out is a law of `shared` and `output_after`.
use Prim.Native.Nat.{◌≤◌}
use mathlib.Core.Path.{◌≡◌, sym, ◌∙◌}
use Rattle.mesh.specs.Answer.{Accepted}
use Rattle.mesh.specs.Mesh.{mesh_answer}
use Rattle.mesh.specs.Laws.Checked.{passes}
use Rattle.ducts.proofs.Laws.Asking.{gives-mesh, gives_no_link, gives_short, gives_all}
use Rattle.ducts.proofs.sharing.Goals as goal
use Rattle.ducts.proofs.sharing.Goals.{In-Ok}

accepted : (c : In-Ok) → mesh_answer c.args.m ≡ Accepted
accepted c = sym c.check-a.ensures.answer ∙ c.in-Ok.is

pub returns-in_default : goal.returns-in_default
returns-in_default c =
    let a = c.args in
    let w = gives-mesh a.m a.link a.out.now c.check-a.result c.check-a.ensures.answer c.in_default.is in
    record { answer = w.0; output = w.1 }

pub returns-then-m-link : goal.returns-then-m-link
returns-then-m-link c =
    let a = c.args in
    let w = gives_no_link a.m a.link a.out.now (accepted (goal.at.returns-then-m-link c).In-Ok) c.refused.result c.if-m-link.true c.refused.ensures in
    record { answer = w.0; output = w.1 }

-- the links are counted: the mesh is accepted, and the named link is one of its links
few : (c : In-Ok) → c.args.m.count ≤ 256
few c = (passes _ (accepted c)).count_most

pub count-needed-requires : goal.count-needed-requires
count-needed-requires c = (few (goal.at.count-needed-requires c).In-Ok, c.if-m-link.false)

pub returns-then-out-needed : goal.returns-then-out-needed
returns-then-out-needed c =
    let a = c.args in
    let w =
    gives_short a.m a.link a.out.now (accepted (goal.at.returns-then-out-needed c).In-Ok) c.if-m-link.false c.count-needed.result c.count-needed.ensures
    c.refused-then-out-needed.result c.if-out-needed.true c.refused-then-out-needed.ensures
    in
    record { answer = w.0; output = w.1 }

pub list-requires-clause-link : goal.list-requires-clause-link
list-requires-clause-link c = (few (goal.at.list-requires-clause-link c).In-Ok, c.if-m-link.false)

pub returns : goal.returns
returns c =
    let a = c.args in
    let w =
    gives_all a.m a.link a.out.now (accepted (goal.at.returns c).In-Ok) c.if-m-link.false c.count-needed.result c.count-needed.ensures
    c.if-out-needed.false c.list.ensures
    in
    record { answer = w.0; output = w.1 }
