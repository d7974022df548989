-- By the order test of now the mesh checks, reading and planning by an order test are the library's. Assumes nothing.
use Rattle.std.specs.Prelude.{ℕ, zero, suc, ◌+◌, ◌≡◌, refl, List, [], ◌∷◌, length, get_or, take, drop}
use Rattle.scan.specs.Bytes.{number}
use Rattle.mesh.specs.declared.Link.{Link}
use Rattle.mesh.specs.declared.Mesh.{Mesh}
use Rattle.mesh.specs.Mesh.{zero_link, follows, ends_answer, link_answer, links_answer, mesh_answer}
use Rattle.fields.specs.Record.{as_link, fields_at, record_length, record_answer}
use Rattle.codec.specs.Book.{records_answer, book_answer, decoded}
use Rattle.planner.specs.Plan.{plan_answer, planned}
use Rattle.earlier.specs.Ordered.{link_answer_by, links_answer_by, mesh_answer_by, record_answer_by, records_answer_by, book_answer_by, decoded_by, plan_answer_by, planned_by}

-- ---- the mesh checks

link-now : (n : ℕ) (p l : Link) (place : ℕ) → link_answer_by follows n p l place ≡ link_answer n p l place
unfolding ends_answer
link-now n p l place = refl

links_now : (n : ℕ) (p : Link) (i : ℕ) (ls : List Link) → links_answer_by follows n p i ls ≡ links_answer n p i ls
unfolding links_answer_by links_answer
links_now n p i [] = refl
links_now n p i (l ∷ ls) = rw (link-now n p l i, links_now n l (i + 1) ls) refl

pub mesh-now : (m : Mesh) → mesh_answer_by follows m ≡ mesh_answer m
unfolding mesh_answer_by mesh_answer
mesh-now m = rw (links_now m.nodes zero_link 0 (take m.count m.links)) refl

-- ---- reading

record_now : (n end : ℕ) (p : Link) (at : ℕ) (s : List ℕ) → record_answer_by follows n end p at s ≡ record_answer n end p at s
unfolding record_answer_by record_answer
record_now n end p at s = rw (link-now n p (as_link (fields_at p s)) at) refl

records_now : (n end : ℕ) (p : Link) (at k : ℕ) (s : List ℕ) → records_answer_by follows n end p at k s ≡ records_answer n end p at k s
unfolding records_answer_by records_answer
records_now n end p at zero s = refl
records_now n end p at (suc k) s =
    rw (record_now n end p at s, records_now n end (as_link (fields_at p s)) (at + record_length (get_or s 0 0)) k (drop (record_length (get_or s 0 0)) s)) refl

book-now : (s : List ℕ) → book_answer_by follows s ≡ book_answer s
unfolding book_answer_by book_answer
book-now s = rw (records_now (get_or s 1 0) (length s) zero_link 4 (number 2 s 2) (drop 4 s)) refl

pub decoded-now : (s : List ℕ) → decoded_by follows s ≡ decoded s
unfolding decoded_by decoded
decoded-now s = rw (book-now s) refl

-- ---- planning

pub planned-now : (m : Mesh) → planned_by follows m ≡ planned m
unfolding planned_by planned plan_answer_by plan_answer
planned-now m = rw (mesh-now m) refl
