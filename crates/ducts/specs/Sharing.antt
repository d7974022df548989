-- The query by duct (02, request 4): which links share the duct of a named link, and what the query gives. Definitions only.
use Rattle.std.specs.Prelude.{ℕ, Bool, not, ◌&&◌, ◌||◌, List, length, ltb, leb, eqb, Err}
use Rattle.scan.specs.Passing.{passing}
use Rattle.mesh.specs.declared.Mesh.{Mesh}
use Rattle.mesh.specs.Answer.{Answer, Accepted, Refused}
use Rattle.mesh.specs.Mesh.{must, and_then, output_as, mesh_answer}
use Rattle.mesh.specs.WellFormed.{duct}
use Rattle.ducts.specs.declared.Shared.{Shared}

-- link i shares the duct of link k, by the duct number of each link: it is link k, or both lie in the same duct, and 0 is none
abbrev pub shares : (ℕ → ℕ) → ℕ → ℕ → Bool
shares ducts k i = eqb i k || (not (eqb (ducts k) 0) && eqb (ducts i) (ducts k))

-- of so many links those that share the duct of link k, in rising order
abbrev pub links_sharing : (ℕ → ℕ) → ℕ → ℕ → List ℕ
links_sharing ducts links k = passing (shares ducts k) links

-- the links of m that share the duct of link k
unfoldable pub sharing : Mesh → ℕ → List ℕ
sharing m k = links_sharing (duct m) m.count k

-- asking for them with an output of `room` entries: the mesh checks, 12, then 11 with the entries needed
unfoldable pub sharing_answer : Mesh → ℕ → ℕ → Answer
sharing_answer m k room =
    and_then (mesh_answer m)
    (must (ltb k m.count) 12 k
    (must (leb (length (sharing m k)) room) 11 (length (sharing m k))
    Accepted))

abbrev pub shared_as : Answer → ℕ → Shared
shared_as Accepted n = record { count = n; answer = Accepted }
shared_as (Err r) n = record { count = 0; answer = Refused r.number r.place }

-- the answer, with how many links were written, 0 on a refusal
unfoldable pub shared : Mesh → ℕ → ℕ → Shared
shared m k room = shared_as (sharing_answer m k room) (length (sharing m k))

-- the output after the query: the links, then the entries past them as they were; on a refusal all as it was
unfoldable pub output_after : Mesh → ℕ → List ℕ → List ℕ
output_after m k out = output_as (sharing_answer m k (length out)) (sharing m k) out
