-- A mesh of two nodes with two links, and its plan, computed. Assumes nothing.
use Rattle.std.specs.Prelude.{◌≡◌, refl, [], ◌∷◌, replicate}
use Rattle.scan.specs.Lowest.{lowest, lowest_from, any, every}
use Rattle.scan.specs.All.{all}
use Rattle.mesh.specs.declared.Link.{Link}
use Rattle.mesh.specs.declared.Mesh.{Mesh}
use Rattle.mesh.specs.Answer.{Accepted}
use Rattle.mesh.specs.Mesh.{zero_link, ends_answer, links_answer, mesh_answer}
use Rattle.graph.specs.Reach.{reaches, reached, rounds, mark_links, mark_link, mark_way}
use Rattle.graph.specs.Plan.{connects, unreached, parts, assignments, first_that, plan}
use Rattle.planner.specs.Plan.{padded, plan_answer, planned}

-- two nodes with two links that have no length, fibre pair nor duct
abbrev pub two_nodes : Mesh
two_nodes = let span : Link = record { low = 0; high = 1; length = 0; pair = 0 } in
    record { nodes = 2; count = 2; links = span ∷ span ∷ replicate 254 zero_link; ducts = replicate 256 0 }

pub accepted-two : mesh_answer two_nodes ≡ Accepted
unfolding mesh_answer links_answer ends_answer all
accepted-two = refl

pub planned-two : planned two_nodes ≡ record { plan = padded (0 ∷ 1 ∷ []); answer = Accepted }
unfolding planned plan_answer plan first_that assignments connects parts unreached reaches reached rounds mark_links mark_link mark_way lowest lowest_from any every
planned-two = rw accepted-two refl
