-- The lowest link in a duct. Definitions only.
use Rattle.std.specs.Prelude.{ℕ, min, eqb}
use Rattle.scan.specs.Lowest.{lowest}
use Rattle.mesh.specs.declared.Mesh.{Mesh}
use Rattle.mesh.specs.WellFormed as WellFormed

-- the lowest of the first 256 links with this duct number, and how many links there are where none has it
abbrev pub first_in : Mesh → ℕ → ℕ
first_in m number = lowest (λ i. eqb (WellFormed.duct m i) number) (min m.count 256)
