-- The surveys of small meshes, computed. Serves `survey_bench` of Main. Assumes nothing.
use Rattle.std.specs.Prelude.{refl}
use Rattle.scan.specs.All.{all}
use Rattle.scan.specs.Lowest.{lowest, lowest_from}
use Rattle.scan.specs.Sweep.{sweep, sweep_from}
use Rattle.graph.specs.Reach.{mark_way, mark_link, mark_links, rounds, reached, reaches}
use Rattle.graph.specs.Greedy.{bridge}
use Rattle.mesh.specs.Mesh.{ends_answer, links_answer, mesh_answer}
use Rattle.bridges.specs.Survey.{part_of, surveyed}
use Rattle.guarantees.specs.SurveyBench.{Holds}

pub computed : Holds
unfolding surveyed part_of bridge mesh_answer ends_answer links_answer all reaches reached rounds mark_links mark_link mark_way lowest lowest_from sweep sweep_from
computed = record { path = refl; parts = refl; none = refl; ring = refl; refused = refl }
