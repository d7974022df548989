-- What 02, request 3, says of a carry-over, field by field. Definitions only.
use Rattle.std.specs.Prelude.{ℕ, ◌≡◌}
use Rattle.mesh.specs.WellFormed.{link, duct}
use Rattle.formed.specs.Cut as cuts
use Rattle.recovery.specs.declared.Session.{Session}
use Rattle.recovery.specs.Calls.{fresh_on, cut_on}
use Rattle.legacy.specs.declared.OldCut.TheVariants as oldCuts
use Rattle.legacy.specs.declared.OldSession.{OldSession}
use Rattle.legacy.specs.Record as old

-- what the session t keeps of the old session s
pub record Keeps (s : OldSession) (t : Session) : Type 0 where
  -- the mesh
  pub nodes : t.mesh.nodes ≡ s.mesh.nodes
  pub count : t.mesh.count ≡ s.mesh.count
  pub low : (i : ℕ) → (link t.mesh i).low ≡ (old.link s.mesh i).low
  pub high : (i : ℕ) → (link t.mesh i).high ≡ (old.link s.mesh i).high
  pub length : (i : ℕ) → (link t.mesh i).length ≡ (old.link s.mesh i).length
  pub pair : (i : ℕ) → (link t.mesh i).pair ≡ (old.link s.mesh i).pair
  -- no duct, as in every session carried over (02, request 4)
  pub duct : (i : ℕ) → duct t.mesh i ≡ 0
  -- the plan
  pub directions : t.plan.directions ≡ s.plan.directions
  -- on wavelength 1 the states and the reached nodes
  pub states : t.first.states ≡ s.flood.states
  pub reached : t.first.reached ≡ s.flood.reached
  -- the cut; wavelength 2 is as in a fresh session if no cut stands, and otherwise as just after that cut
  pub with_none : s.cut ≡ oldCuts.Nothing → (t.cut ≡ cuts.Nothing) × (t.second ≡ (fresh_on t.mesh t.plan).second)
  pub under-cut : (k : ℕ) → s.cut ≡ oldCuts.Link k → (t.cut ≡ cuts.Link k) × (t.second ≡ (cut_on (fresh_on t.mesh t.plan) k).second)
