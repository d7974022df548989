-- The ends of a mesh's links stored as numbers: an entry tells the link's ends, and whether the next entry is the same tells whether the next link has them.
-- Assumes nothing.
use Rattle.std.specs.Prelude.{ℕ, suc, ◌+◌, ◌/◌, ◌%◌, ◌<◌, ◌≡◌, Bool}
use Rattle.std.proofs.Common.{◌∙◌, ap, arith, add-one}
use Rattle.std.proofs.Math.Decide.{dec_lt}
use Rattle.scan.specs.Test.{Says}
use Rattle.scan.specs.Entry.{at}
use Rattle.scan.specs.Fill.{table_at}
use Rattle.mesh.specs.declared.Mesh.{Mesh}
use Rattle.mesh.specs.WellFormed.{link, WellFormed}
use Rattle.mesh.specs.Parts.{ends_of, ends_in}
use Rattle.nets.specs.Nets.{net_of}
use Rattle.planner.specs.Parallel.{Later}

module _ {m : Mesh} (W : WellFormed m) where
  stored : (i : ℕ) → at (ends_in m) i ≡ ends_of (link m i)
  stored = table_at (λ i. ends_of (link m i)) m.count W.count_most (λ i h. ap ends_of (W.zeros i h))

  module _ (k : ℕ) (h : k < m.count) where
    -- the ends are nodes below 64, which count modulo 64 as themselves
    pub ends_counted : (at (ends_in m) k / 256 % 64 ≡ (link m k).low) × (at (ends_in m) k % 256 % 64 ≡ (link m k).high)
    ends_counted =
        let apart = (W.joins k h).apart in
        let inside = (W.joins k h).inside in
        let most = W.nodes_most in
        rw (stored k) (omega arith, omega arith)

    -- entries past the last link are 0, the number of no link's ends
    pub later_says : {after : Bool} → Says after ((k < 255) × (at (ends_in m) k ≡ at (ends_in m) (k + 1))) → Says after (Later (net_of m) k)
    later_says s = (
      λ e. let (_, q) = s.0 e in same (rw (stored k, add-one k, stored (suc k)) at q),
      λ (l, (low, high)). s.1 (omega (arith, W.count_most), rw (stored k, add-one k, stored (suc k)) (omega arith)),
    )
      where
        same : ends_of (link m k) ≡ ends_of (link m (suc k)) → Later (net_of m) k
        same q = elim (dec_lt (suc k) m.count) [
          | yes l ↦
              let inside = (W.joins k h).inside in
              let next = (W.joins (suc k) l).inside in
              let most = W.nodes_most in
              (l, (omega arith, omega arith))
          | no l ↦ absurd (omega (arith, (W.joins k h).apart, q ∙ ap ends_of (W.zeros (suc k) (omega arith))))
        ]
