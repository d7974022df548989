-- `mesh::check` meets its contract: the checks on the parts of a mesh are the mesh checks.
use Rattle.mesh.specs.Laws.Parts.{split_answer}
use Rattle.mesh.proofs.check.Goals as goal

pub returns : goal.returns
returns c =
    let m = c.args.m in record {
      answer = split_answer m c.split-zeros.ensures.ranges c.split-zeros.ensures.rest c.split-zeros.ensures.ends c.parts_answer.ensures;
      ranges = c.split-zeros.ensures.ranges;
    }
