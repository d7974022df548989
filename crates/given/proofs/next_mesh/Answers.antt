-- `given::next_mesh` meets its contract: what is read passes the checks.
use Rattle.std.proofs.Common.{ℕ, List, ◌≡◌, ◌↔◌, refl, Option, None, Some, IsSome, IfSome}
use Rattle.mesh.specs.declared.Mesh.{Mesh}
use Rattle.mesh.specs.Answer.{Accepted}
use Rattle.mesh.specs.Mesh.{mesh_answer}
use Rattle.codec.specs.Book.{decoded}
use Rattle.codec.proofs.Laws.Read.{decoded-accepted}
use Rattle.given.proofs.next_mesh.Goals as goal

checked : (book : List ℕ) (r : Option Mesh) → (IsSome r ↔ ((decoded book).answer ≡ Accepted)) → IfSome r (λ m. m ≡ (decoded book).mesh)
    → IfSome r (λ m. mesh_answer m ≡ Accepted)
checked book None accepted mesh = tt
checked book (Some m) accepted mesh = rw mesh (decoded-accepted book (accepted.0 refl))

pub returns : goal.returns
returns c = let read = c.read_mesh.ensures in checked _ c.read_mesh.result read.accepted read.mesh
