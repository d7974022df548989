-- The topology under a cut is the back-up digraph with the failure that the cut is, where the mesh is accepted and the cut is a link.
-- Assumes nothing, also not that the mesh has 256 entries.
use Prim.Native.Nat.{ℕ, ◌<◌, ◌≤◌, min}
use Rattle.std.specs.Prelude.{◌≡◌, refl, cond, not, List, eqb, length, set}
use Rattle.std.proofs.Common.{subst, arith, eq-eqb, ne_eqb}
use Rattle.scan.specs.Test.{branch}
use Rattle.scan.specs.Entry.{at, moved, set_at}
use Rattle.scan.specs.Fill.{table_of, table_sized, table_at}
use Rattle.mesh.specs.declared.Mesh.{Mesh}
use Rattle.mesh.specs.declared.Plan.{Plan}
use Rattle.mesh.specs.Answer.{Accepted}
use Rattle.mesh.specs.Mesh.{zero_link, mesh_answer}
use Rattle.mesh.specs.WellFormed.{link}
use Rattle.mesh.specs.Refusal.{Refusal}
use Rattle.mesh.specs.Arc.{back_tail, back_head}
use Rattle.mesh.specs.Laws.Answer.{Tells, told-accepted}
use Rattle.mesh.specs.Laws.Refused.{Sound, mesh-told}
use Rattle.mesh.specs.Laws.Checked.{passes}
use Rattle.flood.specs.Digraph.{cut}
use Rattle.flood.specs.Topology.{digraph_of, failure_of}
use Rattle.wavelengths.specs.declared.Wavelength.{Wavelength}
use Rattle.wavelengths.specs.declared.Wavelength.TheVariants.{First, Second}
use Rattle.topology.specs.Backup.{backup_on, under_cut}

module _ (m : Mesh) (p : Plan) (good : mesh_answer m ≡ Accepted) where
  few : m.count ≤ 256
  few = (passes m good).count_most

  -- both ends of an entry past the last link are 0, whatever its direction
  module _ (i : ℕ) (h : m.count ≤ i) where
    past : link m i ≡ zero_link
    past = (told-accepted (subst (Tells (Sound m) (Refusal m)) good (mesh-told m))).zeros i h

    zero : cond {A = ℕ} (eqb (at p.directions i) 0) 0 0 ≡ 0
    zero = branch (λ (v : ℕ). v ≡ 0) (eqb (at p.directions i) 0) (λ e. refl) (λ e. refl)

    tail_past : back_tail m p i ≡ 0
    tail_past = rw past zero

    head_past : back_head m p i ≡ 0
    head_past = rw past zero

  -- both ends of a link are nodes, and 255 is none
  module _ (k : ℕ) (below : k < m.count) where
    low : (link m k).low < 255
    low = let P = passes m good in let end = P.low_below k below in let most = P.nodes_most in omega arith

    high : (link m k).high < 255
    high = let P = passes m good in let end = P.high_below k below in let most = P.nodes_most in omega arith

    tail_node : back_tail m p k < 255
    tail_node = branch (λ (v : ℕ). v < 255) (eqb (at p.directions k) 0) (λ e. high) (λ e. low)

    head_node : back_head m p k < 255
    head_node = branch (λ (v : ℕ). v < 255) (eqb (at p.directions k) 0) (λ e. low) (λ e. high)

  -- the same on each wavelength
  tail_past-on : (w : Wavelength) (i : ℕ) → m.count ≤ i → (backup_on w m p).tail i ≡ 0
  tail_past-on First = tail_past
  tail_past-on Second = head_past

  head_past-on : (w : Wavelength) (i : ℕ) → m.count ≤ i → (backup_on w m p).head i ≡ 0
  head_past-on First = head_past
  head_past-on Second = tail_past

  tail_node-on : (w : Wavelength) (k : ℕ) → k < m.count → (backup_on w m p).tail k < 255
  tail_node-on First = tail_node
  tail_node-on Second = head_node

  module _ (w : Wavelength) where
    -- the arrays hold the ends of every arc
    tails_at : (i : ℕ) → at (table_of (backup_on w m p).tail m.count) i ≡ (backup_on w m p).tail i
    tails_at = table_at (backup_on w m p).tail m.count few (tail_past-on w)

    heads_at : (i : ℕ) → at (table_of (backup_on w m p).head m.count) i ≡ (backup_on w m p).head i
    heads_at = table_at (backup_on w m p).head m.count few (head_past-on w)

    module _ (k : ℕ) where
      pub cut-digraph : digraph_of (under_cut w m p k) ≡ backup_on w m p
      unfolding digraph_of under_cut
      cut-digraph = λ j. record { nodes = m.nodes; links = all j; tail = λ i. tails_at i j; head = λ i. heads_at i j }
        where
          all : min m.count 256 ≡ m.count
          all = omega (arith, few)

      module _ (below : k < m.count) where
        -- only the open tail of link k is not its tail
        blocked_only : (tails : List ℕ) → length tails ≡ 256 → at tails k ≡ (backup_on w m p).tail k
            → (i : ℕ) → not (eqb (at (set tails k 255) i) (at tails i)) ≡ eqb i k
        blocked_only tails sized same i =
            let inside : k < length tails = omega (arith, few) in
            let low : at tails k < 255 = rw same (tail_node-on w k below) in
            moved (set_at tails k 255 inside) (λ i v. not (eqb v (at tails i)) ≡ eqb i k) i
            (rw (ne_eqb 255 (at tails k) (λ e. omega arith), eq-eqb k k refl))
            (λ n. rw (eq-eqb (at tails i) (at tails i) refl, ne_eqb i k n))

        pub cut-failure : failure_of (under_cut w m p k) ≡ cut (backup_on w m p) k
        unfolding failure_of under_cut
        cut-failure =
            let tail = (backup_on w m p).tail in
            let blocked = blocked_only (table_of tail m.count) (table_sized tail m.count) (tails_at k) in
            λ j. record { source = heads_at k j; target = tails_at k j; blocked = λ i. blocked i j }
