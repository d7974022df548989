-- How long listed links can be together. Assumes nothing.
use Rattle.std.specs.Prelude.{ℕ, ◌*◌, ◌≤◌, List}
use Rattle.std.proofs.Common.{arith}
use Rattle.scan.specs.Entry.{at}
use Rattle.scan.specs.Total.{total, total_const, total-le}
use Rattle.mesh.specs.declared.Mesh.{Mesh}
use Rattle.mesh.specs.WellFormed.{InRange, lengths}

pub lengths_most : (m : Mesh) → InRange m → (row : List ℕ) (k : ℕ) → total (λ j. lengths m (at row j)) k ≤ 65535 * k
lengths_most m r row k =
    omega (arith, total-le (λ j. lengths m (at row j)) (λ j. 65535) k (λ j l. let b = (r.links (at row j)).length in omega arith), total_const 65535 k)
