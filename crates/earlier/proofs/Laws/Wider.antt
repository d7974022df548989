-- What an order test accepts a wider one accepts too: meshes, books, and so plans. Assumes nothing.
use Rattle.std.specs.Prelude.{ℕ, ◌≡◌, true, List, take}
use Rattle.std.proofs.Math.Path.{refl, sym}
use Rattle.std.proofs.Common.{◌∙◌}
use Rattle.mesh.specs.declared.Link.{Link}
use Rattle.mesh.specs.declared.Mesh.{Mesh}
use Rattle.mesh.specs.Answer.{Accepted}
use Rattle.mesh.specs.Mesh.{zero_link}
use Rattle.earlier.proofs.Laws.Each.{links_each, each_links, mesh-parts}
use Rattle.earlier.proofs.Laws.Books.{book_links, links_book, decoded_by_lem}
use Rattle.earlier.specs.Ordered.{Order, links_answer_by, mesh_answer_by, book_answer_by, decoded_by, plan_answer_by, planned_by}

module _ (o o' : Order) (wider : (plow phigh low high : ℕ) → o plow phigh low high ≡ true → o' plow phigh low high ≡ true) where
  -- ---- the mesh checks

  links_wider : (n : ℕ) (p : Link) (i : ℕ) (ls : List Link) → links_answer_by o n p i ls ≡ Accepted → links_answer_by o' n p i ls ≡ Accepted
  links_wider n p i ls e = each_links o o' n p i ls e (λ j h. wider _ _ _ _ (links_each o n p i ls e j h))

  pub mesh_wider : (m : Mesh) → mesh_answer_by o m ≡ Accepted → mesh_answer_by o' m ≡ Accepted
  unfolding mesh_answer_by
  mesh_wider m e =
      let (nodes, count, links, zeros) = mesh-parts o m e in
      rw (nodes, count, links_wider m.nodes zero_link 0 (take m.count m.links) links, zeros)

  -- ---- reading

  book_wider : (s : List ℕ) → book_answer_by o s ≡ Accepted → book_answer_by o' s ≡ Accepted
  book_wider s e = links_book s o e o' (links_wider _ _ _ _ (book_links s o e))

  -- the same mesh is read
  pub decoded_wider : (s : List ℕ) → (decoded_by o s).answer ≡ Accepted → decoded_by o' s ≡ decoded_by o s
  unfolding decoded_by
  decoded_wider s e =
      let a : book_answer_by o s ≡ Accepted = sym (decoded_by_lem o s) ∙ e in
      rw (a, book_wider s a) refl

  -- ---- planning

  -- a mesh that passes the checks has the same plan, or the same refusal 20 or 21
  pub planned_wider : (m : Mesh) → mesh_answer_by o m ≡ Accepted → planned_by o' m ≡ planned_by o m
  unfolding planned_by plan_answer_by
  planned_wider m e = rw (e, mesh_wider m e) refl
