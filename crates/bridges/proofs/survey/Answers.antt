-- `bridges::survey` meets its contract: a refusal of the mesh checks, or the parts and bridges of the mesh's net.
use mathlib.Core.Path.{◌≡◌, refl, sym, ◌∙◌}
use Rattle.std.specs.Prelude.{None}
use Rattle.mesh.specs.Answer.{Accepted}
use Rattle.mesh.specs.Mesh.{mesh_answer}
use Rattle.mesh.specs.Laws.Checked.{passes}
use Rattle.nets.specs.Nets.{net_of}
use Rattle.nets.specs.Laws.Fits.{fits}
use Rattle.nets.specs.Laws.Ways.{rows_ways}
use Rattle.bridges.proofs.Laws.Outcome.{surveyed-refused, surveyed-made}
use Rattle.bridges.proofs.survey.Goals as goal
use Rattle.bridges.proofs.survey.Goals.{In-Ok}

-- past the checks
accepted : (c : In-Ok) → mesh_answer c.args.m ≡ Accepted
accepted c = sym c.check-answer.ensures.answer ∙ c.in-Ok.is

pub returns-in_default : goal.returns-in_default
returns-in_default c = c.refused.ensures ∙ sym (surveyed-refused c.args.m c.check-answer.ensures.answer c.in_default.is)

pub all_parts-parts-requires : goal.all_parts-parts-requires
all_parts-parts-requires c = (passes _ (accepted (goal.at.all_parts-parts-requires c).In-Ok)).nodes_most

pub returns : goal.returns
returns c =
    let m = c.args.m in
    let ok = accepted (goal.at.returns c).In-Ok in
    let table = rows_ways m ok None c.ways-table.ensures in
    sym (surveyed-made m c.check-answer.ensures.answer c.in-Ok.is (c.all_parts-parts.ensures (net_of m) (fits m ok) refl table)
    (c.all_bridges-bridges.ensures ok))
