-- `status::split_taken` meets its contract: no link has 0 metres, and the listed links are the taken ones.
use Prim.Native.Nat.{min}
use mathlib.Core.Path.{◌≡◌, sym, ap, ◌∙◌}
use mathlib.Core.Bool.{true}
use native.Mathlib.Omega.{arith}
use Rattle.scan.specs.Listed.{listing_le}
use Rattle.metres.specs.Length.{length_of}
use Rattle.metres.specs.Laws.Length.{length_none, length_listed}
use Rattle.taken.specs.Taken.{is_taken}
use Rattle.mesh.specs.WellFormed.{lengths}
use Rattle.status.proofs.split_taken.Goals as goal

pub returns-then-links-eq0-clause-length : goal.returns-then-links-eq0-clause-length
returns-then-links-eq0-clause-length c =
    let a = c.args in
    rw c.if-links-eq0.true (sym (length_none (lengths a.mesh) (is_taken a.states.now)))

pub returns-clause-length : goal.returns-clause-length
returns-clause-length c =
    let few : min c.list-n.result 256 ≡ c.list-n.result = omega (arith, listing_le c.list-n.ensures) in
    c.split_along.ensures.length ∙ ap (length_of _ (λ i. true)) few ∙ length_listed (lengths c.args.mesh) c.list-n.ensures
