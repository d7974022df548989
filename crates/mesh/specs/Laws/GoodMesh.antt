-- What the checks of a mesh say of the tests behind them. Assumes nothing.
use Rattle.std.specs.Prelude.{ℕ, ◌<◌, ◌≡◌, true, take, drop}
use Rattle.std.proofs.Math.Bool.{and-eq-true_iff}
use Rattle.std.proofs.Common.{arith}
use Rattle.mesh.specs.declared.Link.{Link}
use Rattle.mesh.specs.declared.Mesh.{Mesh}
use Rattle.mesh.specs.Answer.{Accepted}
use Rattle.mesh.specs.Mesh.{zero_link, nodes_fit, count_fits, link_answer, links_answer, all_zero, ductless, rest_zero, mesh_answer}
use Rattle.mesh.specs.Laws.Answer.{must-accepted, and_then-accepted}
use Rattle.mesh.specs.Laws.Ends.{ends-accepted}

-- ---- one link

module _ (n : ℕ) (p l : Link) (at : ℕ) (e : link_answer n p l at ≡ Accepted) where
  -- an accepted link is accepted wherever it stands
  pub link_anywhere : (place : ℕ) → link_answer n p l place ≡ Accepted
  link_anywhere place = (ends-accepted n p.low p.high l.low l.high place).1 ((ends-accepted n p.low p.high l.low l.high at).0 e)

  -- and its ends are nodes
  pub ends_below : (l.low < n) × (l.high < n)
  ends_below = let (apart, inside, after) = (ends-accepted n p.low p.high l.low l.high at).0 e in (omega arith, inside)

-- ---- the mesh

-- the mesh meets no refusal
pub record GoodMesh (m : Mesh) : Type 0 where
  pub nodes : nodes_fit m.nodes ≡ true
  pub count : count_fits m.count ≡ true
  pub links : links_answer m.nodes zero_link 0 (take m.count m.links) ≡ Accepted
  pub zeros : all_zero (drop m.count m.links) ≡ true
  pub ductless : ductless (drop m.count m.ducts) ≡ true

pub mesh-accepted : (m : Mesh) → mesh_answer m ≡ Accepted → GoodMesh m
unfolding mesh_answer
mesh-accepted m e =
    let (nodes, e1) = must-accepted (nodes_fit m.nodes) _ _ _ e in
    let (count, e2) = must-accepted (count_fits m.count) _ _ _ e1 in
    let (links, e3) = and_then-accepted (links_answer m.nodes zero_link 0 (take m.count m.links)) _ e2 in
    let (rest, e4) = must-accepted (rest_zero m) _ _ _ e3 in
    let (zeros, none) = (and-eq-true_iff (all_zero (drop m.count m.links)) _).0 rest in
    record { nodes = nodes; count = count; links = links; zeros = zeros; ductless = none }

pub accepted-mesh : (m : Mesh) → GoodMesh m → mesh_answer m ≡ Accepted
unfolding mesh_answer
accepted-mesh m g = rw (g.nodes, g.count, g.links, g.zeros, g.ductless)
