-- The record test by the pieces that a function is lent, after the answer to the mesh. Definitions only.
use Rattle.std.specs.Prelude.{ℕ, Bool, not, ◌||◌, List}
use Rattle.mesh.specs.Answer.{Answer, Accepted}
use Rattle.mesh.specs.Mesh.{must, and_then}
use Rattle.wavelengths.specs.declared.Floods.{Floods}
use Rattle.formed.specs.Cut.{Cut}
use Rattle.faults.specs.Faults.{overflows, strays}
use Rattle.formed.specs.Formed.{misplaced}

-- the plan, the cut or a flood of a mesh with n nodes and k links is ill formed
unfoldable pub ill_formed : ℕ → ℕ → List ℕ → Cut → Floods → Bool
ill_formed n k directions c f =
    (overflows k 1 directions || (overflows k 4 f.first.states || overflows k 4 f.second.states))
    || misplaced k c
    || (strays n f.first.reached || strays n f.second.reached)

-- a session's record, whose mesh is answered with `tested`: that refusal, or 13
unfoldable pub record_after : Answer → ℕ → ℕ → List ℕ → Cut → Floods → Answer
record_after tested n k directions c f = and_then tested (must (not (ill_formed n k directions c f)) 13 0 Accepted)
