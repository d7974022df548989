-- `collection::collect` meets its contract: each of its five ways out is a law of `collected` and `output_after`.
use Prim.Native.Nat.{◌<◌}
use mathlib.Core.Path.{◌≡◌, refl, sym, ◌∙◌, ap}
use Rattle.std.proofs.lemmas.List.{length-take-le}
use Rattle.mesh.specs.Answer.{Accepted, Refused}
use Rattle.mesh.specs.Mesh.{mesh_answer}
use Rattle.mesh.specs.Laws.Checked.{well_formed}
use Rattle.collection.proofs.Laws.Collecting.{entries_fit, entries_room, entries_are, gives-refused, answer-mesh, answer_root, some-apart, answer-apart, answer_short, gives_all}
use Rattle.collection.proofs.collect.Goals as goal
use Rattle.collection.proofs.collect.Goals.{In-Ok, After-walk_from}

-- past the checks
accepted : (c : In-Ok) → mesh_answer c.args.m ≡ Accepted
accepted c = sym c.check-a.ensures.answer ∙ c.in-Ok.is

-- past the walk
module _ (c : After-walk_from) where
  inside : c.args.root < c.args.m.nodes
  inside = c.if-m-root.false

  ok : mesh_answer c.args.m ≡ Accepted
  ok = sym c.check-a.ensures.answer ∙ c.in-Ok.is

pub returns-in_default : goal.returns-in_default
returns-in_default c =
    let told = c.in_default.is in
    let a = c.args in
    let (r, after) = gives-refused a.m a.root a.out.now (answer-mesh a.m a.root a.out.now (sym c.check-a.ensures.answer ∙ told)) told c.refused.ensures in
    record { answer = r; output = after }

pub returns-then-m-root : goal.returns-then-m-root
returns-then-m-root c =
    let t = (goal.at.returns-then-m-root c).In-Ok in
    let a = c.args in
    let (r, after) = gives-refused a.m a.root a.out.now (answer_root a.m a.root a.out.now (accepted t) c.if-m-root.true) refl c.refused-then-m-root.ensures in
    record { answer = r; output = after }

pub walk_from-requires-clause-root_value : goal.walk_from-requires-clause-root_value
walk_from-requires-clause-root_value c =
    let t = (goal.at.walk_from-requires-clause-root_value c).In-Ok in
    (well_formed c.args.m c.check-a.ensures.ranges.entries (accepted t), c.if-m-root.false)

pub apart-requires : goal.apart-requires
apart-requires c =
    let w = (goal.at.apart-requires c).After-walk_from in
    let a = c.args in
    let few = rw w.walk_from.ensures.entries at c.if-walk-needed.true in
    (ok w, some-apart a.m a.root a.out.now (ok w) (inside w) few c.check-a.ensures.ranges)

pub returns-then-walk-needed : goal.returns-then-walk-needed
returns-then-walk-needed c =
    let w = (goal.at.returns-then-walk-needed c).After-walk_from in
    let a = c.args in
    let few = rw w.walk_from.ensures.entries at c.if-walk-needed.true in
    let some = some-apart a.m a.root a.out.now (ok w) (inside w) few c.check-a.ensures.ranges in
    let (r, after) = gives-refused a.m a.root a.out.now (answer-apart a.m a.root a.out.now (ok w) (inside w) some) (ap (Refused 20) c.apart.ensures)
    c.refused-then-walk-needed.ensures in
    record { answer = r; output = after }

pub returns-then-out-needed : goal.returns-then-out-needed
returns-then-out-needed c =
    let w = (goal.at.returns-then-out-needed c).After-walk_from in
    let a = c.args in
    let all = rw w.walk_from.ensures.entries at c.if-walk-needed.false in
    let (r, after) = gives-refused a.m a.root a.out.now (answer_short a.m a.root a.out.now (ok w) (inside w) all c.if-out-needed.true) refl
    c.refused-then-out-needed.ensures in
    record { answer = r; output = after }

pub entries-route-requires : goal.entries-route-requires
entries-route-requires c =
    let w = (goal.at.entries-route-requires c).After-walk_from in
    entries_fit c.args.m c.args.root (ok w) (inside w) w.walk_from.ensures

pub slice_bounds-copy_from_slice-end : goal.slice_bounds-copy_from_slice-end
slice_bounds-copy_from_slice-end c =
    let w = (goal.at.slice_bounds-copy_from_slice-end c).After-walk_from in
    entries_room c.args.m c.args.root (ok w) (inside w) w.walk_from.ensures c.entries-route.ensures c.args.out.now c.if-out-needed.false

pub slice_bounds-copy_from_slice-end-2 : goal.slice_bounds-copy_from_slice-end-2
slice_bounds-copy_from_slice-end-2 c =
    let w = (goal.at.slice_bounds-copy_from_slice-end-2 c).After-walk_from in
    sym (length-take-le _ _ (entries_room c.args.m c.args.root (ok w) (inside w) w.walk_from.ensures c.entries-route.ensures c.args.out.now c.if-out-needed.false))

pub copy_from_slice-requires : goal.copy_from_slice-requires
copy_from_slice-requires c =
    let w = (goal.at.copy_from_slice-requires c).After-walk_from in
    length-take-le _ _ (entries_room c.args.m c.args.root (ok w) (inside w) w.walk_from.ensures c.entries-route.ensures c.args.out.now c.if-out-needed.false)

pub returns : goal.returns
returns c =
    let w = (goal.at.returns c).After-walk_from in
    let a = c.args in
    let all = rw w.walk_from.ensures.entries at c.if-walk-needed.false in
    let written = c.entries-route.ensures ∙ entries_are a.m a.root (ok w) (inside w) w.walk_from.ensures in
    let (r, after) = gives_all a.m a.root a.out.now (ok w) (inside w) all c.if-out-needed.false w.walk_from.ensures (rw (c.copy_from_slice.ensures.after, written)) in
    record { answer = r; output = after }
