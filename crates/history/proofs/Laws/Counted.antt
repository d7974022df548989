-- How many deliveries a wavelength has had since the cut: what the states of its links tell, exactly two for each link ever offered less one for each of its
-- route at rest, never more than 2 × L - 3, and never more than 2 × L - 4 where no other link joins the ends of the cut one. Assumes 256 entries in the mesh's
-- list of links.
use Rattle.std.specs.Prelude.{ℕ, ◌+◌, ◌*◌, ◌<◌, ◌≤◌, ◌≡◌, ◌≢◌, Bool, true, false, cond, List, eqb, length}
use Rattle.std.proofs.Common.{sym, ◌∙◌, arith}
use Rattle.std.proofs.Math.Path.{ap}
use Rattle.scan.specs.Entry.{at}
use Rattle.scan.specs.Total.{bit, count, total-same}
use Rattle.flood.specs.declared.Flood.{Flood}
use Rattle.flood.specs.Digraph as failures
use Rattle.flood.specs.Machine.{at_rest, offered_links}
use Rattle.flood.specs.Laws.Progress.{Progress}
use Rattle.flood.specs.Laws.Bound.{rest-offered-each}
use Rattle.flood.specs.Laws.Route.{rest_exactly}
use Rattle.flood.specs.Laws.Cut.{cut-made_3, cut-made_3_rest, cut-made_4}
use Rattle.wavelengths.specs.declared.Wavelength.{Wavelength}
use Rattle.wavelengths.specs.declared.Wavelength.TheVariants.{First, Second}
use Rattle.wavelengths.specs.Wavelength.{on}
use Rattle.wavelengths.specs.Merge.{links_on}
use Rattle.mesh.specs.declared.Mesh.{Mesh}
use Rattle.mesh.specs.declared.Plan.{Plan}
use Rattle.mesh.specs.Answer.{Accepted}
use Rattle.mesh.specs.WellFormed.{WellFormed, OnlyLink}
use Rattle.mesh.specs.Laws.Checked.{well_formed}
use Rattle.planner.specs.Plan.{planned}
use Rattle.planner.specs.Laws.Meaning.{plan_checked}
use Rattle.topology.specs.Backup.{backup_on}
use Rattle.formed.specs.Cut.{Link}
use Rattle.recovery.specs.Session.{floods}
use Rattle.recovery.specs.Calls.{route_of}
use Rattle.history.specs.History.{Call}
use Rattle.history.specs.Log.{deliveries_on}
use Rattle.history.specs.Rules.{start}
use Rattle.history.specs.Offered.{none_offered, offered}
use Rattle.history.specs.Demand.{AtRest, had_on, digraph_on, ended, log, offered_on}
use Rattle.history.proofs.Laws.Kept.{cut_session, played, kept-cut}
use Rattle.history.proofs.Laws.Started.{sound, progress, ended-kept}
use Rattle.history.proofs.Laws.Routed.{rest-seen, seen-rest, route_found}
use Rattle.history.proofs.Laws.Offered.{ended_marks}

-- ---- links between the same nodes

-- two links of which one leads from where the other ends to where it starts have the same ends; d and e tell whether the back-up arc starts at the high end
turned : (d e : Bool) {low high low' high' : ℕ} → low < high → low' < high'
    → cond d high low ≡ cond e low' high' → cond d low high ≡ cond e high' low' → (low ≡ low') × (high ≡ high')
turned true true l l' t h = absurd (omega arith)
turned true false l l' t h = (h, t)
turned false true l l' t h = (t, h)
turned false false l l' t h = absurd (omega arith)

module _ {m : Mesh} (W : WellFormed m) (p : Plan) {k : ℕ} (k< : k < m.count) (only : OnlyLink m k) where
  abbrev high_first : ℕ → Bool
  high_first i = eqb (at p.directions i) 0

  -- where no other link joins the ends of link k, none leads straight from x to y, on either wavelength
  none_straight : (w : Wavelength) (i : ℕ) → i < m.count → i ≢ k → (backup_on w m p).tail i ≡ (backup_on w m p).head k → (backup_on w m p).head i ≢ (backup_on w m p).tail k
  none_straight First i l other t h = other (only i l (turned (high_first i) (high_first k) (W.joins i l).apart (W.joins k k<).apart t h))
  none_straight Second i l other t h = other (only i l (turned (high_first i) (high_first k) (W.joins i l).apart (W.joins k k<).apart h t))

-- ---- after any list of calls, under the cut of link k

-- a flood that has come to rest by deliveries
abbrev Rested : Mesh → ℕ → Wavelength → Flood → Type 0
Rested m k w f = let g = backup_on w m (planned m).plan in (n : ℕ) × Progress g (failures.cut g k) n f × (at_rest g f ≡ true)

module _ (m : Mesh) (sized : length m.links ≡ 256) (good : (planned m).answer ≡ Accepted) (calls : List Call) where
  -- by the states
  pub had-made : (k : ℕ) → (log m calls).cut ≡ Link k → (w : Wavelength) → had_on (ended m calls) w ≡ deliveries_on w (log m calls)
  had-made =
      kept-cut m (planned m).plan (λ s k ts. (w : Wavelength) → had_on s w ≡ length (links_on w ts))
      (λ k ts q w. sym (progress m good sized q w).spent) (ended-kept m good sized calls)

  -- the links ever offered are those that are not quiet
  offered-count : (w : Wavelength) → offered_on m calls w ≡ offered_links (backup_on w m (planned m).plan) (on w (floods (ended m calls)))
  unfolding offered_links count
  offered-count w = total-same _ _ m.count (λ i l. ap bit (ended_marks m good sized calls w i))

  -- at rest exactly 2 × P - Q
  pub made_exactly : (k : ℕ) → (log m calls).cut ≡ Link k → (w : Wavelength) → AtRest (ended m calls) w
      → deliveries_on w (log m calls) + length (route_of (ended m calls) w) ≡ 2 * offered_on m calls w
  made_exactly k e w r = rw (offered-count w) (
      kept-cut m (planned m).plan
      (λ s k ts. (w : Wavelength) → AtRest s w → length (links_on w ts) + length (route_of s w) ≡ 2 * offered_links (backup_on w m (planned m).plan) (on w (floods s)))
      (λ k ts q w r. rest_exactly _ _ (progress m good sized q w) (rest-seen (cut_session m (planned m).plan k (played m (planned m).plan k ts)) w r) (route_found m sized good q w r))
      (ended-kept m good sized calls) k e w r)

  -- the flood at rest
  rested : (k : ℕ) → (log m calls).cut ≡ Link k → (w : Wavelength) → AtRest (ended m calls) w → Rested m k w (on w (floods (ended m calls)))
  rested =
      kept-cut m (planned m).plan (λ s k ts. (w : Wavelength) → AtRest s w → Rested m k w (on w (floods s)))
      (λ k ts q w r. (length (links_on w ts), progress m good sized q w, rest-seen (cut_session m (planned m).plan k (played m (planned m).plan k ts)) w r))
      (ended-kept m good sized calls)

  -- never more than 2 × L - 3
  pub made_most : (k : ℕ) → (log m calls).cut ≡ Link k → (w : Wavelength) → deliveries_on w (log m calls) + 3 ≤ 2 * m.count
  made_most =
      kept-cut m (planned m).plan (λ s k ts. (w : Wavelength) → length (links_on w ts) + 3 ≤ 2 * m.count)
      (λ k ts q w. cut-made_3 q.link (progress m good sized q w) (sound m good sized q w))
      (ended-kept m good sized calls)

  -- and after so many none is under way
  pub made_all : (k : ℕ) → (log m calls).cut ≡ Link k → (w : Wavelength) → deliveries_on w (log m calls) + 3 ≡ 2 * m.count → AtRest (ended m calls) w
  made_all =
      kept-cut m (planned m).plan (λ s k ts. (w : Wavelength) → length (links_on w ts) + 3 ≡ 2 * m.count → AtRest s w)
      (λ k ts q w e.
      seen-rest (cut_session m (planned m).plan k (played m (planned m).plan k ts)) w
      (cut-made_3_rest q.link (progress m good sized q w) (sound m good sized q w) e))
      (ended-kept m good sized calls)

  -- nor than 2 × L - 4 under the cut of a link by itself
  pub made_most_only : (k : ℕ) → (log m calls).cut ≡ Link k → OnlyLink m k → (w : Wavelength) → deliveries_on w (log m calls) + 4 ≤ 2 * m.count
  made_most_only =
      kept-cut m (planned m).plan (λ s k ts. OnlyLink m k → (w : Wavelength) → length (links_on w ts) + 4 ≤ 2 * m.count)
      (λ k ts q only w.
      let W = well_formed m sized (plan_checked m good) in
      cut-made_4 q.link (progress m good sized q w) (sound m good sized q w) (none_straight W (planned m).plan q.link only w))
      (ended-kept m good sized calls)

-- in every order the same links are offered, and so as many
module _ (m : Mesh) (sized : length m.links ≡ 256) (good : (planned m).answer ≡ Accepted) (calls others : List Call) (k : ℕ)
    (e : (log m calls).cut ≡ Link k) (e' : (log m others).cut ≡ Link k) (w : Wavelength) (r : AtRest (ended m calls) w) (r' : AtRest (ended m others) w) where
  offered-each : (i : ℕ) → i < m.count → offered (digraph_on m) calls start none_offered w i ≡ offered (digraph_on m) others start none_offered w i
  offered-each i l =
      let (_, one, rest) = rested m sized good calls k e w r in
      let (_, other, rest') = rested m sized good others k e' w r' in
      ended_marks m good sized calls w i ∙ rest-offered-each _ _ one other rest rest' i l ∙ sym (ended_marks m good sized others w i)

  pub offered-same :
      ((i : ℕ) → i < m.count → offered (digraph_on m) calls start none_offered w i ≡ offered (digraph_on m) others start none_offered w i)
      × (offered_on m calls w ≡ offered_on m others w)
  unfolding count
  offered-same = (offered-each, total-same _ _ m.count (λ i l. ap bit (offered-each i l)))
