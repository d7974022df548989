-- A mesh that passes the checks by one order test passes them by another exactly where that one accepts each link after the link before it. Assumes nothing.
use Prim.Native.Nat.{ℕ, zero, suc, ◌+◌, ◌<◌}
use Rattle.std.specs.Prelude.{◌≡◌, true, ◌&&◌, length, get_or, take, ltb}
use Rattle.std.proofs.Math.Path.{refl}
use mathlib.Core.List.{List, [], ◌∷◌}
use Rattle.std.proofs.Common.{arith, leb-true, get_or-take, length-take-le}
use Rattle.std.proofs.Math.ListN.{length-take}
use Rattle.mesh.specs.declared.Link.{Link}
use Rattle.mesh.specs.declared.Mesh.{Mesh}
use Rattle.mesh.specs.Answer.{Accepted}
use Rattle.mesh.specs.Mesh.{zero_link, nodes_fit, count_fits, rest_zero}
use Rattle.mesh.specs.WellFormed.{link}
use Rattle.mesh.specs.Refusal.{previous}
use Rattle.mesh.specs.Laws.Answer.{must-accepted, and_then-accepted}
use Rattle.earlier.specs.Ordered.{Order, link_answer_by, links_answer_by, mesh_answer_by}

-- the test accepts l after p
abbrev pub Passes : Order → Link → Link → Type 0
Passes o p l = o p.low p.high l.low l.high ≡ true

-- each of the links ls after the one before it, the first after p
abbrev EachPasses : Order → Link → List Link → Type 0
EachPasses o p ls = (j : ℕ) → j < length ls → Passes o (get_or (p ∷ ls) j zero_link) (get_or ls j zero_link)

-- the links of m
abbrev taken : Mesh → List Link
taken m = take m.count m.links

-- link i among them, and the one before it
taken_is : (m : Mesh) (i : ℕ) → i < m.count → (get_or (taken m) i zero_link ≡ link m i) × (get_or (zero_link ∷ taken m) i zero_link ≡ previous m i)
taken_is m zero h = (get_or-take m.count m.links 0 zero_link h, refl)
taken_is m (suc i) h = (get_or-take m.count m.links (suc i) zero_link h, get_or-take m.count m.links i zero_link (omega arith))

-- ---- links in turn

module _ (o : Order) (n : ℕ) where
  -- an accepted link passes each of the tests
  pub link-parts : (p l : Link) (place : ℕ) → link_answer_by o n p l place ≡ Accepted
      → (ltb l.low l.high ≡ true) × ((ltb l.low n && ltb l.high n) ≡ true) × Passes o p l
  link-parts p l place e =
      let (apart, e1) = must-accepted (ltb l.low l.high) _ _ _ e in
      let (inside, e2) = must-accepted (ltb l.low n && ltb l.high n) _ _ _ e1 in
      (apart, inside, (must-accepted (o p.low p.high l.low l.high) _ _ _ e2).0)

  pub links_each : (p : Link) (i : ℕ) (ls : List Link) → links_answer_by o n p i ls ≡ Accepted → EachPasses o p ls
  unfolding links_answer_by
  links_each p i (l ∷ ls) e zero h = (link-parts p l i (and_then-accepted (link_answer_by o n p l i) _ e).0).2
  links_each p i (l ∷ ls) e (suc j) h = links_each l (i + 1) ls (and_then-accepted (link_answer_by o n p l i) _ e).1 j (omega arith)
  links_each p i [] e j h = absurd (omega arith)

module _ (o o' : Order) (n : ℕ) where
  pub each_links : (p : Link) (i : ℕ) (ls : List Link) → links_answer_by o n p i ls ≡ Accepted → EachPasses o' p ls → links_answer_by o' n p i ls ≡ Accepted
  unfolding links_answer_by
  each_links p i [] e f = refl
  each_links p i (l ∷ ls) e f =
      let (first, rest) = and_then-accepted (link_answer_by o n p l i) _ e in
      let (apart, inside, _) = link-parts o n p l i first in
      rw (apart, inside, f 0 (omega arith)) (each_links l (i + 1) ls rest (λ j h. f (suc j) (omega arith)))

-- ---- the mesh

module _ (o : Order) (m : Mesh) where
  -- what the checks say of its parts
  pub mesh-parts : mesh_answer_by o m ≡ Accepted
      → (nodes_fit m.nodes ≡ true) × (count_fits m.count ≡ true) × (links_answer_by o m.nodes zero_link 0 (taken m) ≡ Accepted) × (rest_zero m ≡ true)
  unfolding mesh_answer_by
  mesh-parts e =
      let (nodes, e1) = must-accepted (nodes_fit m.nodes) _ _ _ e in
      let (count, e2) = must-accepted (count_fits m.count) _ _ _ e1 in
      let (links, e3) = and_then-accepted (links_answer_by o m.nodes zero_link 0 (taken m)) _ e2 in
      (nodes, count, links, (must-accepted (rest_zero m) _ _ _ e3).0)

  pub mesh-each : length m.links ≡ 256 → mesh_answer_by o m ≡ Accepted → (i : ℕ) → i < m.count → Passes o (previous m i) (link m i)
  mesh-each sized e i h =
      let (nodes, count, links, zeros) = mesh-parts e in
      let most = leb-true m.count 256 count in
      let all : length (taken m) ≡ m.count = length-take-le m.count m.links (omega arith) in
      let (is, was) = taken_is m i h in
      rw (is, was) at (links_each o m.nodes zero_link 0 (taken m) links i (omega arith))

  pub each-mesh : (o' : Order) → mesh_answer_by o m ≡ Accepted → ((i : ℕ) → i < m.count → Passes o' (previous m i) (link m i)) → mesh_answer_by o' m ≡ Accepted
  unfolding mesh_answer_by
  each-mesh o' e f =
      let (nodes, count, links, zeros) = mesh-parts e in
      rw (nodes, count, each_links o o' m.nodes zero_link 0 (taken m) links each, zeros)
    where
      each : EachPasses o' zero_link (taken m)
      each j h =
          let l : j < m.count = omega (arith, length-take m.count m.links) in
          let (is, was) = taken_is m j l in
          rw (is, was) (f j l)
