-- What the functions for C and Rust give, by the book that is lent to them. Definitions only.
use Rattle.std.specs.Prelude.{ℕ, List, replicate, ltb, Err}
use Rattle.mesh.specs.declared.Link.{Link}
use Rattle.mesh.specs.declared.Mesh.{Mesh}
use Rattle.mesh.specs.Answer.{Answer, Accepted, Refused}
use Rattle.mesh.specs.Mesh.{must, and_then}
use Rattle.mesh.specs.WellFormed.{link, duct}
use Rattle.codec.specs.Book.{decoded}
use Rattle.planner.specs.Plan.{planned}
use Rattle.bridges.specs.Survey.{surveyed}
use Rattle.ducts.specs.Sharing as ducts
use Rattle.collection.specs.Collection as collection

-- ---- what an answer becomes

-- its number, 0 where it accepts
abbrev pub number_of : Answer → ℕ
number_of Accepted = 0
number_of (Err r) = r.number

-- its place, 0 where it accepts
abbrev pub place_of : Answer → ℕ
place_of Accepted = 0
place_of (Err r) = r.place

-- what is lent holds after a call that answers so: `after` where it accepts, and what it held before where it refuses
abbrev pub lent_as : {A : Type 0} → Answer → A → A → A
lent_as Accepted after before = after
lent_as (Err r) after before = before

-- ---- the answers, by the book s

-- the mesh of the book, all zero where reading refuses
abbrev pub mesh_in : List ℕ → Mesh
mesh_in s = (decoded s).mesh

-- link k of that mesh, and its duct number
abbrev pub link_in : List ℕ → ℕ → Link
link_in s k = link (mesh_in s) k

abbrev pub duct_in : List ℕ → ℕ → ℕ
duct_in s k = duct (mesh_in s) k

-- naming link k of so many: 12
abbrev pub link_answer : ℕ → ℕ → Answer
link_answer count k = must (ltb k count) 12 k Accepted

-- reading
abbrev pub read_answer : List ℕ → Answer
read_answer s = (decoded s).answer

-- reading, then planning
abbrev pub plan_answer : List ℕ → Answer
plan_answer s = and_then (read_answer s) (planned (mesh_in s)).answer

-- reading, then 12 for link k
abbrev pub named_answer : List ℕ → ℕ → Answer
named_answer s k = and_then (read_answer s) (link_answer (mesh_in s).count k)

-- reading, planning, then 12 for link k
abbrev pub cut_answer : List ℕ → ℕ → Answer
cut_answer s k = and_then (plan_answer s) (link_answer (mesh_in s).count k)

-- ---- the survey, and the query by duct and the collection route with room for the longest

-- reading, then the mesh checks of the survey
abbrev pub survey_answer : List ℕ → Answer
survey_answer s = and_then (read_answer s) (surveyed (mesh_in s)).answer

-- reading, then the query by duct for link k
abbrev pub sharing_answer : List ℕ → ℕ → Answer
sharing_answer s k = and_then (read_answer s) (ducts.shared (mesh_in s) k 256).answer

-- the links that share the duct of link k, zeros past them
abbrev pub shared_links : List ℕ → ℕ → List ℕ
shared_links s k = ducts.output_after (mesh_in s) k (replicate 256 0)

-- reading, then the collection route from the root
abbrev pub collect_answer : List ℕ → ℕ → Answer
collect_answer s root = and_then (read_answer s) (collection.collected (mesh_in s) root 127).answer

-- the nodes of the route, zeros past them
abbrev pub collected_nodes : List ℕ → ℕ → List ℕ
collected_nodes s root = collection.output_after (mesh_in s) root (replicate 127 0)
