-- `writer::write_book` meets its contract: the mesh is refused, the output is short, or the book is stored.
use Prim.Native.Nat.{◌≤◌}
use Rattle.std.specs.Prelude.{Err}
use Rattle.std.proofs.Common.{rules}
use mathlib.Core.Path.{◌≡◌, sym, ◌∙◌}
use borrow.Author.Tests.{leb-true}
use Rattle.mesh.specs.Answer.{Accepted}
use Rattle.mesh.specs.Mesh.{mesh_answer}
use Rattle.mesh.specs.Laws.GoodMesh.{mesh-accepted}
use Rattle.mesh.specs.Laws.Parts.{split_answer}
use Rattle.writer.specs.Laws.Length.{write_refused, write_short, write_done}
use Rattle.writer.proofs.write_book.Goals as goal
use Rattle.writer.proofs.write_book.Goals.{After-parts_answer, In_ok-parts_answer}

-- the parts that are tested are those of the mesh
answered : (c : After-parts_answer) → c.parts_answer.result ≡ mesh_answer c.args.m
answered c = let split = c.split-zeros.ensures in split_answer c.args.m split.ranges split.rest split.ends c.parts_answer.ensures

module _ (c : In_ok-parts_answer) where
  accepted : mesh_answer c.args.m ≡ Accepted
  accepted = sym (answered (goal.at.In_ok-parts_answer c).After-parts_answer) ∙ c.in_ok-parts_answer.was

  few : c.args.m.count ≤ 256
  few = leb-true _ _ (mesh-accepted c.args.m accepted).count

pub returns-in_err-parts_answer : goal.returns-in_err-parts_answer
returns-in_err-parts_answer c =
    let a = c.args in
    let same : c.from_residual.result ≡ Err c.in_err-parts_answer.field-0.0 = search rules in
    let w = write_refused a.m a.out.now (sym (answered (goal.at.returns-in_err-parts_answer c).After-parts_answer) ∙ c.in_err-parts_answer.was) in
    record { answer = same ∙ w.0; output = w.1 }

pub lacking-requires : goal.lacking-requires
lacking-requires c = few (goal.at.lacking-requires c).In_ok-parts_answer

pub returns-in-Some : goal.returns-in-Some
returns-in-Some c =
    let a = c.args in
    let w = write_short a.m a.out.now (accepted (goal.at.returns-in-Some c).In_ok-parts_answer) c.in-Some.needed (sym c.in-Some.is ∙ c.lacking.ensures) in
    record { answer = w.0; output = w.1 }

pub put_book-requires-clause-few : goal.put_book-requires-clause-few
put_book-requires-clause-few c = few (goal.at.put_book-requires-clause-few c).In_ok-parts_answer

pub returns : goal.returns
returns c =
    let a = c.args in
    let done = c.put_book in
    let w =
    write_done a.m a.out.now (accepted (goal.at.returns c).In_ok-parts_answer) (sym c.in_default.is ∙ c.lacking.ensures)
    done.result done.ensures.next done.ensures.stored
    in
    record { answer = w.0; output = w.1 }
