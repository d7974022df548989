-- Document 000's collection route, computed. Serves `collection_bench` of Main. Assumes nothing.
use Rattle.std.specs.Prelude.{refl}
use Rattle.scan.specs.All.{all}
use Rattle.scan.specs.Lowest.{lowest, lowest_from, any}
use Rattle.scan.specs.Total.{total, count}
use Rattle.graph.specs.Reach.{mark_way, mark_link, mark_links, rounds, reached, reaches}
use Rattle.graph.specs.Plan.{unreached}
use Rattle.mesh.specs.Mesh.{ends_answer, links_answer, mesh_answer}
use Rattle.depth_first.specs.Tree.{tour, marked}
use Rattle.depth_first.specs.Search.{unvisited, visiting, visit_by, visit}
use Rattle.depth_first.specs.Folded.{now, deeper, later}
use Rattle.collection.specs.Collection.{collect_answer, collected, output_after}
use Rattle.guarantees.specs.CollectionBench.{Holds}

pub computed : Holds
unfolding collected collect_answer output_after mesh_answer ends_answer links_answer all any lowest lowest_from unreached reaches reached rounds mark_links mark_link mark_way
    visit visit_by visiting unvisited count total tour marked
computed = record {
  route = refl;
  labels = refl;
  ancestors = deeper (later (deeper (now refl)));
  elsewhere = refl;
  other_labels = refl;
  smallest = refl;
  only_label = refl;
  short = (refl, refl);
  parted = (refl, refl, refl);
  no_root = (refl, refl);
  unchecked = refl;
}
