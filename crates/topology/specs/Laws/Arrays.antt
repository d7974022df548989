-- The arrays that the code fills are those of the topology under a cut. Assumes nothing.
use Rattle.std.specs.Prelude.{ℕ, min, ◌≡◌, refl, cond, eqb, replicate}
use Rattle.std.proofs.Math.Path.{ap}
use Rattle.std.proofs.Common.{◌∙◌, arith}
use mathlib.Core.List.{List}
use Rattle.std.proofs.Math.ListN.{set}
use Rattle.scan.specs.Entry.{at}
use Rattle.scan.specs.Fill.{filled, table_of, fill_all, fill_same, table_filled}
use Rattle.mesh.specs.declared.Mesh.{Mesh}
use Rattle.mesh.specs.declared.Plan.{Plan}
use Rattle.mesh.specs.Arc.{back_tail, back_head}
use Rattle.mesh.specs.WellFormed.{link, InRange}
use Rattle.ends.specs.Ends.{low_of, high_of}
use Rattle.mesh.specs.Parts.{ends_of, ends_in}
use Rattle.flood.specs.Topology.{Topology}
use Rattle.wavelengths.specs.declared.Wavelength.{Wavelength}
use Rattle.wavelengths.specs.declared.Wavelength.TheVariants.{First, Second}
use Rattle.topology.specs.Backup.{backup_on, under_cut}
use Rattle.topology.specs.Arrays.{tail_by, head_by, tails_into, heads_into}

module _ (m : Mesh) (p : Plan) (ranges : InRange m) where
  -- an array of zeros that is filled by the ends and directions of the links: f's entries where f tells the same of each link
  same : (by : ℕ → ℕ → ℕ) (f : ℕ → ℕ) → ((i : ℕ) → by (ends_of (link m i)) (at p.directions i) ≡ f i)
      → filled (λ i. by (at (ends_in m) i) (at p.directions i)) (min m.count 256) (replicate 256 0) ≡ table_of f m.count
  same by f tells =
      fill_same _ _ f (replicate 256 0)
      (λ i h b. ap (λ (e : ℕ). by e (at p.directions i)) (table_filled (λ i. ends_of (link m i)) m.count i (omega arith) (omega arith)) ∙ tells i)
      ∙ fill_all f m.count (replicate 256 0) (min m.count 256) refl (omega arith) (omega arith)

  -- the number of a link's ends tells its tail and its head
  low : (i : ℕ) → low_of (ends_of (link m i)) ≡ (link m i).low
  low i = let byte = (ranges.links i).high in omega arith

  high : (i : ℕ) → high_of (ends_of (link m i)) ≡ (link m i).high
  high i = let byte = (ranges.links i).high in omega arith

  -- where the back-up arc of a link starts on wavelength 1 and ends on 2, and where it ends on 1 and starts on 2
  one_end : (i : ℕ) → tail_by First (ends_of (link m i)) (at p.directions i) ≡ back_tail m p i
  one_end i = λ j. cond (eqb (at p.directions i) 0) (high i j) (low i j)

  other_end : (i : ℕ) → head_by First (ends_of (link m i)) (at p.directions i) ≡ back_head m p i
  other_end i = λ j. cond (eqb (at p.directions i) 0) (low i j) (high i j)

  tail_is : (w : Wavelength) (i : ℕ) → tail_by w (ends_of (link m i)) (at p.directions i) ≡ (backup_on w m p).tail i
  tail_is First = one_end
  tail_is Second = other_end

  head_is : (w : Wavelength) (i : ℕ) → head_by w (ends_of (link m i)) (at p.directions i) ≡ (backup_on w m p).head i
  head_is First = other_end
  head_is Second = one_end

  module _ (w : Wavelength) where
    tails_are : tails_into w m.count (ends_in m) p.directions (replicate 256 0) ≡ table_of (backup_on w m p).tail m.count
    tails_are = same (tail_by w) (backup_on w m p).tail (tail_is w)

    heads_are : heads_into w m.count (ends_in m) p.directions (replicate 256 0) ≡ table_of (backup_on w m p).head m.count
    heads_are = same (head_by w) (backup_on w m p).head (head_is w)

    pub under-cut_is : (k : ℕ) (tails heads : List ℕ) (source target : ℕ)
        → tails ≡ tails_into w m.count (ends_in m) p.directions (replicate 256 0)
        → heads ≡ heads_into w m.count (ends_in m) p.directions (replicate 256 0)
        → source ≡ at heads k → target ≡ at tails k
        → ◌≡◌ {A = Topology}
        (record { nodes = m.nodes; count = m.count; source = source; target = target; tails = tails; heads = heads; «open» = set tails k 255 })
        (under_cut w m p k)
    unfolding under_cut
    under-cut_is k tails heads source target t h x y = λ j. record {
      nodes = m.nodes;
      count = m.count;
      source = (x ∙ ap (λ (l : List ℕ). at l k) (h ∙ heads_are)) j;
      target = (y ∙ ap (λ (l : List ℕ). at l k) (t ∙ tails_are)) j;
      tails = (t ∙ tails_are) j;
      heads = (h ∙ heads_are) j;
      «open» = set ((t ∙ tails_are) j) k 255;
    }
