-- The arrays that `lay` and `lose` store hold a wavelength's back-up digraph and the failure that the cut is, and so do the arcs of a mesh under a cut.
-- Assumes nothing.
use Rattle.std.specs.Prelude.{ℕ, min, ◌≡◌, Bool, List, length, set, replicate}
use Rattle.std.proofs.Math.Path.{refl, ap}
use Rattle.std.proofs.Common.{sym, ◌∙◌}
use Rattle.scan.specs.Entry.{at}
use Rattle.scan.specs.Sweep.{length-sweep}
use Rattle.mesh.specs.declared.Mesh.{Mesh}
use Rattle.mesh.specs.declared.Plan.{Plan}
use Rattle.flood.specs.declared.Flood.{Flood}
use Rattle.flood.specs.Digraph.{Digraph, Failure, cut}
use Rattle.flood.specs.Machine.{step}
use Rattle.flood.specs.Topology.{Topology, digraph_of, failure_of}
use Rattle.flood.specs.Lent.{graph, failure, graph_on, failure_on}
use Rattle.wavelengths.specs.declared.Floods.{Floods}
use Rattle.wavelengths.specs.declared.Wavelength.{Wavelength}
use Rattle.wavelengths.specs.declared.Wavelength.TheVariants.{First, Second}
use Rattle.wavelengths.specs.Merge.{at_rest, run}
use Rattle.flooding.specs.Ended.{Ended}
use Rattle.topology.specs.declared.CutMesh.{CutMesh}
use Rattle.topology.specs.Backup.{backup_on, under_cut}
use Rattle.topology.specs.Arcs.{arcs_under, turned_under}
use Rattle.topology.specs.Arrays.{tails_into, heads_into}
use Rattle.topology.specs.Laws.Arrays.{under-cut_is}
use Rattle.topology.specs.Laws.Backup.{cut-digraph, cut-failure}
use Rattle.pieces.specs.Given.{Given}
use Rattle.backup.specs.declared.Acted.{Acted}
use Rattle.backup.specs.Stepped.{Stepped}

-- what `lay` stores for a wavelength, from arrays of zeros
abbrev Laid : Wavelength → ℕ → List ℕ → List ℕ → List ℕ → List ℕ → Type 0
Laid w count ends directions tails heads =
    (tails ≡ tails_into w count ends directions (replicate 256 0)) × (heads ≡ heads_into w count ends directions (replicate 256 0))

-- the arrays of wavelength 1 are those of wavelength 2 with the tails as heads and the heads as tails
pub laid_other : (count : ℕ) (ends directions tails heads : List ℕ) → Laid First count ends directions tails heads
    → Laid Second count ends directions heads tails
laid_other count ends directions tails heads (t, h) = (h, t)

-- both have 256 entries
pub laid_sized : (w : Wavelength) (count : ℕ) (ends directions tails heads : List ℕ) → Laid w count ends directions tails heads
    → (256 ≡ length tails) × (256 ≡ length heads)
laid_sized w count ends directions tails heads (t, h) = (sym (ap length t ∙ simp length-sweep), sym (ap length h ∙ simp length-sweep))

-- what `lose` gives for a cut of link k, where `starts` held the tails
abbrev Lost : ℕ → List ℕ → List ℕ → List ℕ → ℕ → ℕ → Type 0
Lost k tails heads starts x y = (starts ≡ set tails k 255) × ((x ≡ at heads k) × (y ≡ at tails k))

module _ (w : Wavelength) (m : Mesh) (p : Plan) (count : ℕ) (ends : List ℕ) (k : ℕ) (given : Given m count ends k)
    (tails heads : List ℕ) (laid : Laid w count ends p.directions tails heads) where
  -- the arrays as a record
  abbrev arrays : ℕ → ℕ → Topology
  arrays x y = record { nodes = m.nodes; count = m.count; source = x; target = y; tails = tails; heads = heads; «open» = set tails k 255 }

  arrays_are : (x y : ℕ) → x ≡ at heads k → y ≡ at tails k → arrays x y ≡ under_cut w m p k
  arrays_are x y source target =
      let (t, h) = laid in
      let e = given.stored in
      let n = given.counted in
      under-cut_is m p given.ranges w k tails heads x y
      (t ∙ (λ j. tails_into w (n j) (e j) p.directions (replicate 256 0)))
      (h ∙ (λ j. heads_into w (n j) (e j) p.directions (replicate 256 0)))
      source target

  pub arcs : graph m.nodes tails heads (min count 256) ≡ backup_on w m p
  unfolding digraph_of
  arcs =
      (λ j. graph m.nodes tails heads (min (given.counted j) 256))
      ∙ ap digraph_of (arrays_are (at heads k) (at tails k) refl refl)
      ∙ cut-digraph m p given.accepted w k

  pub lost : (starts : List ℕ) (x y : ℕ) → Lost k tails heads starts x y → failure tails starts x y ≡ cut (backup_on w m p) k
  unfolding failure_of
  lost starts x y (s, (source, target)) =
      (λ j. failure tails (s j) x y) ∙ ap failure_of (arrays_are x y source target) ∙ cut-failure m p given.accepted w k given.link

-- the same of the arcs of a mesh under a cut
module _ (w : Wavelength) (m : Mesh) (c : CutMesh) (given : Given m c.count c.ends.now c.link) where
  abbrev plan : Plan
  plan = record { directions = c.directions.now }

  pub graph_is : graph_on m.nodes (arcs_under w c) ≡ backup_on w m plan
  unfolding arcs_under
  graph_is = arcs w m plan c.count c.ends.now c.link given _ _ (refl, refl)

  pub failure_is : failure_on (arcs_under w c) ≡ cut (backup_on w m plan) c.link
  unfolding arcs_under
  failure_is = lost w m plan c.count c.ends.now c.link given _ _ (refl, refl) _ _ _ (refl, (refl, refl))

-- those of wavelength 2 are those of wavelength 1 turned round
pub turned_is : (c : CutMesh) → turned_under c.link (arcs_under First c) ≡ arcs_under Second c
unfolding arcs_under turned_under
turned_is c =
    let (t, h) = laid_other c.count c.ends.now c.directions.now _ _ (refl, refl) in
    λ j. record { tails = t j; heads = h j; starts = set (t j) c.link 255; count = c.count; source = at (h j) c.link; target = at (t j) c.link }

-- a run on equal digraphs, under equal failures
pub ended-on : {g g' : Wavelength → Digraph} {c c' : Wavelength → Failure} {n : ℕ} {f got : Floods} {made : ℕ} {rest : Bool} → g ≡ g' → c ≡ c'
    → Ended g c n f got made rest → Ended g' c' n f got made rest
ended-on {n} {f} {got} e d r = record { same = r.same ∙ (λ i. run (e i) (d i) n f); rests = r.rests ∙ (λ i. at_rest (e i) got) }

-- so is a delivery
pub stepped-on : {g g' : Digraph} {c c' : Failure} {k : ℕ} {f got : Flood} {r : Acted} → g ≡ g' → c ≡ c' → Stepped g c k f got r → Stepped g' c' k f got r
stepped-on {k} {f} e d s = record {
  same = s.same ∙ (λ i. step (e i) (d i) k f);
  state = s.state;
  tail = s.tail ∙ (λ i. (e i).tail k);
  head = s.head ∙ (λ i. (e i).head k);
}
