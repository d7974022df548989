-- `legacy::check` meets its contract: the checks on the parts of the mesh are the mesh checks, and each return rewrites with the answers that led there.
use Rattle.std.proofs.Common.{rules}
use mathlib.Core.Path.{◌≡◌, sym, ◌∙◌}
use Rattle.scan.specs.Fill.{table_is}
use Rattle.mesh.specs.Parts.{parts_answer}
use Rattle.legacy.specs.Record.{link, ends_of, mesh_answer, record_answer}
use Rattle.legacy.proofs.check.Goals as goal
use Rattle.legacy.proofs.check.Goals.{After-parts_answer}

answered : (c : After-parts_answer) → c.parts_answer.result ≡ mesh_answer c.args.s.mesh
unfolding mesh_answer
answered c =
    let m = c.args.s.mesh in
    c.parts_answer.ensures ∙ (λ j. parts_answer m.nodes m.count (c.split-zeros.ensures.rest j) ((c.split-zeros.ensures.ends ∙ table_is (λ i. ends_of (link m i)) m.count) j))

pub returns-in_err-parts_answer : goal.returns-in_err-parts_answer
unfolding record_answer
returns-in_err-parts_answer c =
    let same : c.from_residual.result ≡ c.parts_answer.result = search rules in
    let t = c.in_err-parts_answer.was in record {
      answer = same ∙ rw (sym (answered (goal.at.returns-in_err-parts_answer c).After-parts_answer) ∙ t) t;
      ranges = c.split-zeros.ensures.ranges;
    }

pub returns-then-is_ill_formed : goal.returns-then-is_ill_formed
unfolding record_answer
returns-then-is_ill_formed c =
    record {
      answer = rw (sym (answered (goal.at.returns-then-is_ill_formed c).After-parts_answer) ∙ c.in_ok-parts_answer.was, ← c.is_ill_formed.ensures, c.if-is_ill_formed.true);
      ranges = c.split-zeros.ensures.ranges;
    }

pub returns : goal.returns
unfolding record_answer
returns c =
    record {
      answer = rw (sym (answered (goal.at.returns c).After-parts_answer) ∙ c.in_ok-parts_answer.was, ← c.is_ill_formed.ensures, c.if-is_ill_formed.false);
      ranges = c.split-zeros.ensures.ranges;
    }
