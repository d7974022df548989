-- The meshes with links between the same nodes, computed. Serves `doubled_bench` of Main. Assumes nothing.
use Rattle.std.specs.Prelude.{refl}
use Rattle.scan.specs.All.{all}
use Rattle.scan.specs.Lowest.{lowest, lowest_from, any, every}
use Rattle.scan.specs.Sweep.{sweep, sweep_from}
use Rattle.scan.specs.Total.{total, count}
use Rattle.graph.specs.Reach.{mark_way, mark_link, mark_links, rounds, reached, reaches}
use Rattle.graph.specs.Plan.{connects, unreached, parts, assignments, first_that, plan}
use Rattle.mesh.specs.Mesh.{ends_answer, links_answer, mesh_answer}
use Rattle.fields.specs.Record.{record_length, fields_at, record_answer}
use Rattle.codec.specs.Book.{header_answer, records_answer, fields_from, book_answer, mesh_of, decoded}
use Rattle.planner.specs.Plan.{plan_answer, planned}
use Rattle.depth_first.specs.Tree.{tour, marked}
use Rattle.depth_first.specs.Search.{unvisited, visiting, visit_by, visit}
use Rattle.collection.specs.Collection.{collect_answer, collected, output_after}
use Rattle.mesh.specs.Parts.{entries_answer, parts_answer}
use Rattle.faults.specs.Faults.{is_over, overflows, is_stray, strays}
use Rattle.flood.specs.Machine.{fresh}
use Rattle.legacy.specs.Record as oldTest
use Rattle.upgrade.specs.Carried.{carried}
use Rattle.guarantees.specs.DoubledBench.{Holds}

pub computed : Holds
unfolding decoded book_answer header_answer records_answer record_answer record_length fields_at fields_from mesh_of mesh_answer ends_answer links_answer all
    planned plan_answer plan first_that assignments connects parts unreached reaches reached rounds mark_links mark_link mark_way lowest lowest_from any every
    carried oldTest.record_answer oldTest.mesh_answer oldTest.ill_formed oldTest.rest_zero entries_answer parts_answer is_over overflows is_stray strays fresh sweep sweep_from
    collected collect_answer output_after visit visit_by visiting unvisited count total tour marked
computed = record {
  smallest = refl;
  high_written = refl;
  low_needless = refl;
  high_needless = refl;
  high_below = refl;
  low_below = refl;
  checked = refl;
  below = refl;
  carried-over = refl;
  old_below = refl;
  one_order = refl;
  other_order = refl;
  both_ways = refl;
  tripled = refl;
  path_doubled = refl;
  one_way = refl;
  bridge = refl;
  route = refl;
  labels = refl;
}
