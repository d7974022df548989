-- Planning accepts the heaviest drill for every m from 1 to 62, and its plan is 0 1 0 1 .. 0, so that its back-up digraph on each wavelength is known. Assumes
-- nothing.
use Rattle.std.specs.Prelude.{ℕ, ◌+◌, ◌*◌, ◌-◌, ◌%◌, ◌<◌, ◌≤◌, ◌≡◌, refl, length, get_or, replicate}
use Rattle.std.proofs.Common.{sym, ◌∙◌, ap, subst, arith}
use Rattle.std.proofs.Math.ListN.{get_or-append}
use Rattle.flood.specs.Digraph.{Digraph, reverse}
use Rattle.wavelengths.specs.declared.Wavelength.{Wavelength}
use Rattle.wavelengths.specs.declared.Wavelength.TheVariants.{First, Second}
use Rattle.wavelengths.specs.Wavelength.{start_on, end_on}
use Rattle.mesh.specs.declared.Link.{Link}
use Rattle.mesh.specs.declared.Plan.{Plan}
use Rattle.mesh.specs.Answer.{Accepted}
use Rattle.heaviest.specs.Drill.{drill}
use Rattle.heaviest.proofs.Laws.Drill.{middle_link, across_link, drill-accepted}
use Rattle.nets.specs.Nets.{net_of}
use Rattle.planner.specs.declared.Planned.{Planned}
use Rattle.planner.specs.Plan.{padded, planned}
use Rattle.planner.specs.Laws.Meaning.{first-planned}
use Rattle.topology.specs.Backup.{backup, backup_on}
use Rattle.drilled.specs.Shape.{DrillNet, DrillDigraph, alternating}
use Rattle.drilled.proofs.Laws.Net.{alternating-length, alternating-at, alternating-first}

-- turned round the arcs go from the other side
turned : {m s t : ℕ} {g : Digraph} → DrillDigraph m s t g → DrillDigraph m t s (reverse g)
turned D = record {
  sides = omega (arith, D.sides);
  links = D.links;
  into = λ i l. let (x, y) = D.onward i l in (y, x);
  onward = λ i l. let (x, y) = D.into i l in (y, x);
  back = let (x, y) = D.back in (y, x);
}

module _ (m : ℕ) where
  pub drill_net : DrillNet m (net_of (drill m))
  drill_net = record {
    nodes = refl;
    links = refl;
    middle = λ i a l b. (ap (λ (l : Link). l.low) (middle_link m i a l b), ap (λ (l : Link). l.high) (middle_link m i a l b));
    across = (ap (λ (l : Link). l.low) (across_link m), ap (λ (l : Link). l.high) (across_link m));
  }

  abbrev plan : Plan
  plan = padded (alternating (2 * m + 1))

  direction_is : (k : ℕ) → k < 2 * m + 1 → get_or plan.directions k 0 ≡ k % 2
  direction_is k h =
      get_or-append (alternating (2 * m + 1)) (replicate (256 - length (alternating (2 * m + 1))) 0) 0 k (omega (arith, alternating-length (2 * m + 1)))
      ∙ alternating-at (2 * m + 1) k h

  middle_direction : (i a : ℕ) → i < m → a < 2 → get_or plan.directions (2 * i + a) 0 ≡ a
  middle_direction i a l b = direction_is (2 * i + a) (omega arith) ∙ omega arith

  first-backup : DrillDigraph m 0 1 (backup (drill m) plan)
  first-backup = record {
    sides = refl;
    links = refl;
    into = λ i l. rw (middle_direction i 0 l (omega arith), middle_link m i 0 l (omega arith)) (refl, refl);
    onward = λ i l. rw (middle_direction i 1 l (omega arith), middle_link m i 1 l (omega arith)) (refl, refl);
    back = let e : get_or plan.directions (2 * m) 0 ≡ 0 = direction_is (2 * m) (omega arith) ∙ omega arith in rw (e, across_link m) (refl, omega arith);
  }

  module _ (some : 0 < m) (most : m ≤ 62) where
    pub drill-planned : planned (drill m) ≡ record { plan = padded (alternating (2 * m + 1)); answer = Accepted }
    drill-planned = first-planned (drill m) (drill-accepted m most) (alternating (2 * m + 1)) (alternating-first m some drill_net)

    pub drill-backup : (w : Wavelength) → DrillDigraph m (start_on w 0 1) (end_on w 0 1) (backup_on w (drill m) (planned (drill m)).plan)
    drill-backup w = subst (λ (r : Planned). DrillDigraph m (start_on w 0 1) (end_on w 0 1) (backup_on w (drill m) r.plan)) (sym drill-planned) (on-each w)
      where
        on-each : (w : Wavelength) → DrillDigraph m (start_on w 0 1) (end_on w 0 1) (backup_on w (drill m) plan)
        on-each First = first-backup
        on-each Second = turned first-backup
