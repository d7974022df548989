-- What a listing refuses: what reading refuses, then what planning refuses (01, the program meshplan). Definitions only.
use Rattle.std.specs.Prelude.{ℕ, List}
use Rattle.mesh.specs.Answer.{Answer}
use Rattle.mesh.specs.Mesh.{and_then}
use Rattle.codec.specs.Book.{decoded}
use Rattle.planner.specs.Plan.{planned}

unfoldable pub list_answer : List ℕ → Answer
list_answer book = and_then (decoded book).answer (planned (decoded book).mesh).answer
