-- `pieces::take_apart` meets its contract: the record test on the mesh's parts is that of the pieces.
use mathlib.Core.Path.{◌∙◌}
use Rattle.mesh.specs.Laws.Parts.{ends_in_lem}
use Rattle.wavelengths.specs.Wavelength.{pair}
use Rattle.pieces.specs.Laws.Tested.{tested_is}
use Rattle.pieces.proofs.take_apart.Goals as goal

pub returns : goal.returns
returns c =
    let a = c.args in
    let s = c.split-zeros.ensures in
    record {
      ends = s.ends ∙ ends_in_lem a.mesh;
      answer = tested_is a.mesh _ _ (s.rest, (s.ends, s.ranges)) _ a.cut (pair a.first.now a.second.now) c.record_answer.ensures;
      ranges = s.ranges;
    }
