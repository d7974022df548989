-- `clients::duct::lowest_in` meets its contract.
use Prim.Native.Nat.{ℕ, min}
use mathlib.Core.Path.{◌≡◌, sym}
use mathlib.Core.Bool.{Bool}
use native.Mathlib.Omega.{arith}
use borrow.Author.Tests.{eq-eqb}
use lib.Dec.{eqb}
use Rattle.scan.specs.Lowest.{lowest, lowest_found, lowest_none}
use Rattle.mesh.specs.declared.Mesh.{Mesh}
use Rattle.mesh.specs.WellFormed.{duct}
use Rattle.clients.proofs.duct.lowest_in.Goals as goal

-- whether link i of m has the duct number
abbrev has : Mesh → ℕ → ℕ → Bool
has m number i = eqb (duct m i) number

pub returns-then-m-from : goal.returns-then-m-from
returns-then-m-from c =
    let a = c.args in
    let i = c.loop-i.i in
    let e : lowest (has a.m a.duct) (min a.m.count 256) ≡ i
    = lowest_found (has a.m a.duct) (min a.m.count 256) i (omega arith) c.loop-i.invariant (rw (← c.from.ensures) (eq-eqb _ _ c.if-m-from.true)) in
    (omega arith, sym e)

pub returns : goal.returns
returns c =
    let a = c.args in
    let e : lowest (has a.m a.duct) (min a.m.count 256) ≡ min a.m.count 256
    = lowest_none (has a.m a.duct) (min a.m.count 256) c.loop-i.i (omega arith) c.loop-i.invariant in
    λ b. omega arith
