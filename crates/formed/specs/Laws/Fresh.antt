-- The record of a fresh session is tested as a start on its mesh and plan is. Assumes nothing.
use Rattle.std.specs.Prelude.{ℕ, ◌≡◌, cond, ltb, leb, replicate, Err}
use Rattle.std.proofs.Math.Path.{refl}
use Rattle.std.proofs.Math.Bool.{false, and-false}
use Rattle.std.proofs.Common.{arith, le-ltb}
use Rattle.scan.specs.Entry.{replicate-at}
use Rattle.scan.specs.Lowest.{any_none}
use Rattle.mesh.specs.declared.Mesh.{Mesh}
use Rattle.mesh.specs.declared.Plan.{Plan}
use Rattle.mesh.specs.Answer.{Answer, Accepted, Refused}
use Rattle.mesh.specs.Mesh.{and_then}
use Rattle.flood.specs.Machine.{fresh}
use Rattle.wavelengths.specs.Merge.{fresh_on_each}
use Rattle.formed.specs.Cut.{Nothing}
use Rattle.faults.specs.Faults.{is_over, overflows, is_stray, strays}
use Rattle.formed.specs.Formed.{flood_fault, floods_fault, start_answer, record_answer}

module _ (m : Mesh) where
  all_quiet : overflows m.count 4 (replicate 256 0) ≡ false
  unfolding overflows is_over
  all_quiet = any_none _ 256 256 (λ i b. rw (replicate-at {A = ℕ} 256 0 i) (le-ltb (cond (ltb i m.count) 4 0) 0 (omega arith))) (omega arith)

  none_reached : strays m.nodes (replicate 64 false) ≡ false
  unfolding strays is_stray
  none_reached = any_none _ 64 64 (λ v b. rw (replicate-at 64 false v) (and-false (leb m.nodes v))) (omega arith)

  pub fresh-answer : (p : Plan) → record_answer m p Nothing (fresh_on_each 256 64) ≡ start_answer m p
  unfolding record_answer floods_fault flood_fault fresh
  fresh-answer p = rw (all_quiet, none_reached) (go (start_answer m p))
    where
      go : (a : Answer) → and_then a Accepted ≡ a
      go Accepted = refl
      go (Err r) = refl
