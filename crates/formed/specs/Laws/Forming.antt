-- The record test accepts exactly the well-formed records, and refuses with the mesh's own refusal or with 13 at 0. Assumes nothing.
use Prim.Native.Nat.{ℕ, ◌<◌, ◌≤◌}
use Rattle.std.specs.Prelude.{◌≡◌, refl, ◌↔◌, true, false, not, ◌||◌, List, eqb, length, Err}
use Rattle.std.proofs.Common.{sym, subst, ◌∙◌, arith}
use Rattle.std.proofs.Math.Bool.{Bool}
use Rattle.std.proofs.Math.Decide.{dec_lt}
use borrow.Author.Tests.{lt-ltb, le-ltb, ltb-false, leb-false, lt-leb}
use Rattle.scan.specs.Test.{branch, clash, Says, le_says, and_says, not_says, nor_says, ltb-zero, fails, failing}
use Rattle.scan.specs.Entry.{at, has}
use Rattle.scan.specs.Lowest.{any_none, any_fails}
use Rattle.mesh.specs.declared.Mesh.{Mesh}
use Rattle.mesh.specs.declared.Plan.{Plan}
use Rattle.mesh.specs.Answer.{Answer, Accepted, Refused}
use Rattle.mesh.specs.Mesh.{and_then, mesh_answer}
use Rattle.mesh.specs.WellFormed.{WellFormed}
use Rattle.mesh.specs.Laws.Answer.{refused-accepted, Tells, accepting, refusing, told-accepted, told-refused, tells_accepted, tells_and_then}
use Rattle.mesh.specs.Laws.Checked.{passes, well_formed, accepts}
use Rattle.flood.specs.declared.Flood.{Flood}
use Rattle.wavelengths.specs.declared.Floods.{Floods}
use Rattle.wavelengths.specs.declared.Wavelength.{Wavelength}
use Rattle.wavelengths.specs.declared.Wavelength.TheVariants.{First, Second}
use Rattle.wavelengths.specs.Wavelength.{on}
use Rattle.formed.specs.Cut.{Cut}
use Rattle.formed.specs.Cut as cuts
use Rattle.faults.specs.Faults.{is_over, overflows, is_stray, strays}
use Rattle.formed.specs.Formed.{misplaced, plan_fault, flood_fault, floods_fault, start_answer, record_answer}
use Rattle.formed.specs.WellFormed.{Bounded, PlanFormed, CutFormed, FloodFormed, Formed, Refusal, of_mesh, ill_formed_lem}

-- ---- one entry

module _ (links top i v : ℕ) where
  over_within : i < links → v ≤ top → is_over links top i v ≡ false
  unfolding is_over
  over_within h l = rw (lt-ltb i links h, le-ltb top v l)

  over-past : links ≤ i → is_over links top i v ≡ not (eqb v 0)
  unfolding is_over
  over-past h = rw (le-ltb i links h) (ltb-zero v)

-- ---- each part of the record

-- the entries of the plan, or the states
module _ (links top : ℕ) (entries : List ℕ) (few : links ≤ 256) where
  pub bounded_says : Says (not (overflows links top entries)) (Bounded links top entries)
  unfolding overflows is_over
  bounded_says = (λ t. to (any_fails over 256 ((not_says _).0 t)), λ B. (not_says _).1 (any_none over 256 256 (from B) (omega arith)))
    where
      over : ℕ → Bool
      over i = is_over links top i (at entries i)

      to : ((i : ℕ) → i < 256 → over i ≡ false) → Bounded links top entries
      to h = record {
        most = λ i l. ltb-false top (at entries i) (rw (lt-ltb i links l) at (h i (omega arith)));
        zeros = λ i l b. let z = ltb-false 0 (at entries i) (rw (le-ltb i links l) at (h i b)) in omega arith;
      }

      from : Bounded links top entries → (i : ℕ) → i < 256 → over i ≡ false
      from B i b = elim (dec_lt i links) [
        | yes l ↦ over_within links top i (at entries i) l (B.most i l)
        | no l ↦ over-past links top i (at entries i) (omega arith) ∙ rw (B.zeros i (omega arith) b)
      ]

pub cut_says : (m : Mesh) (c : Cut) → Says (not (misplaced m.count c)) (CutFormed m c)
cut_says m cuts.Nothing = (λ t k e. let z : ◌≡◌ {A = ℕ} 0 1 = cc in absurd (omega arith), λ h. refl)
cut_says m (cuts.Link k) = (
  λ t j e. let q : k ≡ j = cc in let l = leb-false m.count k ((not_says _).0 t) in omega arith,
  λ h. (not_says _).1 (lt-leb m.count k (h k refl)),
)

pub strays_says : (n : ℕ) (reached : List Bool) → Says (not (strays n reached)) ((v : ℕ) → v < 64 → has reached v ≡ true → v < n)
unfolding strays is_stray
strays_says n reached = (
  λ t v b r. elim (dec_lt v n) [ yes l ↦ l | no l ↦ clash ((stray v).1 (omega arith, r)) (any_fails p 64 ((not_says _).0 t) v b) ],
  λ h. (not_says _).1 (any_none p 64 64 (λ v b. failing (stray v) (λ (l, r). let q = h v b r in omega arith)) (omega arith)),
)
  where
    p : ℕ → Bool
    p v = is_stray n v (has reached v)

    stray : (v : ℕ) → Says (p v) ((n ≤ v) × (has reached v ≡ true))
    stray v = and_says (le_says n v) (λ e. e, λ e. e)

module _ (m : Mesh) (f : Flood) (few : m.count ≤ 256) where
  flood-parts : Says (not (flood_fault m f)) (Bounded m.count 4 f.states × ((v : ℕ) → v < 64 → has f.reached v ≡ true → v < m.nodes))
  unfolding flood_fault
  flood-parts =
      nor_says (overflows m.count 4 f.states) (strays m.nodes f.reached)
      (bounded_says m.count 4 f.states few) (strays_says m.nodes f.reached)

  pub flood_says : Says (not (flood_fault m f)) (FloodFormed m f)
  flood_says = (λ t. let (a, b) = flood-parts.0 t in record { states = a; reached = b }, λ F. flood-parts.1 (F.states, F.reached))

-- the floods on the two wavelengths
module _ (m : Mesh) (f : Floods) (few : m.count ≤ 256) where
  floods_says : Says (not (floods_fault m f)) ((w : Wavelength) → FloodFormed m (on w f))
  unfolding floods_fault
  floods_says = (λ t w. each (both.0 t) w, λ F. both.1 (F First, F Second))
    where
      both : Says (not (flood_fault m f.first || flood_fault m f.second)) (FloodFormed m f.first × FloodFormed m f.second)
      both = nor_says (flood_fault m f.first) (flood_fault m f.second) (flood_says m f.first few) (flood_says m f.second few)

      each : FloodFormed m f.first × FloodFormed m f.second → (w : Wavelength) → FloodFormed m (on w f)
      each (a, b) First = a
      each (a, b) Second = b

-- ---- what the answers tell

-- the mesh is accepted and F holds, or which refusal it is
abbrev Told : Mesh → Type 0 → Answer → Type 0
Told m F = Tells ((mesh_answer m ≡ Accepted) × F) (Refusal m F)

mesh-first : (m : Mesh) (F : Type 0) (next : Answer) → (mesh_answer m ≡ Accepted → Told m F next) → Told m F (and_then (mesh_answer m) next)
mesh-first m F next h = go (mesh_answer m) refl
  where
    go : (a : Answer) → mesh_answer m ≡ a → Told m F (and_then a next)
    go Accepted e = h e
    go (Err r) e = refusing (of_mesh e)

-- where F does not hold, no more than F does either
refused-more : (m : Mesh) {F G : Type 0} → (G → F) → (number place : ℕ) → Refusal m F number place → Refusal m G number place
refused-more m f number place (of_mesh e) = of_mesh e
refused-more m f number place (ill_formed_lem e n) = ill_formed_lem e (λ g. n (f g))

-- where the mesh is accepted and F holds, the answer accepts
told-accepts : (m : Mesh) {F : Type 0} {a : Answer} → Told m F a → mesh_answer m ≡ Accepted → F → a ≡ Accepted
told-accepts m {F} t b f = tells_accepted t never
  where
    never : (number place : ℕ) → Refusal m F number place → ⊥
    never number place (of_mesh e) = refused-accepted (sym e ∙ b)
    never number place (ill_formed_lem e n) = n f

-- it accepts just where the mesh is well formed and F holds
told_formed : (m : Mesh) {F : Type 0} {a : Answer} → Told m F a → length m.links ≡ 256 → (a ≡ Accepted) ↔ (WellFormed m × F)
told_formed m {F} {a} t sized = (
  λ e. let (b, f) = told-accepted (subst (Told m F) e t) in (well_formed m sized b, f),
  λ (w, f). told-accepts m t (accepts m sized w) f,
)

module _ (m : Mesh) (p : Plan) where
  start-told : Told m (PlanFormed m p) (start_answer m p)
  unfolding start_answer plan_fault
  start-told = mesh-first m (PlanFormed m p) _ (λ e.
      let says = bounded_says m.count 1 p.directions (passes m e).count_most in
      branch (Told m (PlanFormed m p)) (not (plan_fault m p)) (λ t. accepting (e, says.0 t)) (λ t. refusing (ill_formed_lem e (fails says t))))

  -- a start accepts exactly a well-formed mesh with a well-formed plan
  pub start_formed : length m.links ≡ 256 → (start_answer m p ≡ Accepted) ↔ (WellFormed m × PlanFormed m p)
  start_formed = told_formed m start-told

  -- whatever the length of the mesh's list of links
  pub start-accepts : mesh_answer m ≡ Accepted → PlanFormed m p → start_answer m p ≡ Accepted
  start-accepts = told-accepts m start-told

  pub refused-start : {number place : ℕ} → start_answer m p ≡ Refused number place → Refusal m (PlanFormed m p) number place
  refused-start e = told-refused (subst (Told m (PlanFormed m p)) e start-told)

module _ (m : Mesh) (p : Plan) (c : Cut) (f : Floods) where
  -- what a record asks for besides its mesh
  abbrev Rest : Type 0
  Rest = PlanFormed m p × (CutFormed m c × ((w : Wavelength) → FloodFormed m (on w f)))

  record_told : Told m Rest (record_answer m p c f)
  unfolding record_answer
  record_told =
      tells_and_then (start-told m p)
      (λ (e, plan). let says = parts (passes m e).count_most in
      branch (Told m Rest) (not (misplaced m.count c || floods_fault m f))
      (λ t. accepting (e, (plan, says.0 t)))
      (λ t. refusing (ill_formed_lem e (λ r. fails says t r.1))))
      (refused-more m (λ r. r.0))
    where
      parts : m.count ≤ 256 → Says (not (misplaced m.count c || floods_fault m f)) (CutFormed m c × ((w : Wavelength) → FloodFormed m (on w f)))
      parts few = nor_says (misplaced m.count c) (floods_fault m f) (cut_says m c) (floods_says m f few)

  -- the test accepts exactly the well-formed records
  pub record_formed : length m.links ≡ 256 → (record_answer m p c f ≡ Accepted) ↔ Formed m p c f
  record_formed sized =
      let says = told_formed m record_told sized in (
        λ e. let (w, (planned, (placed, flooded))) = says.0 e in record { mesh = w; plan = planned; cut = placed; flood = flooded },
        λ F. says.1 (F.mesh, (F.plan, (F.cut, F.flood))),
      )

  pub record_accepts : mesh_answer m ≡ Accepted → PlanFormed m p → CutFormed m c → ((w : Wavelength) → FloodFormed m (on w f)) → record_answer m p c f ≡ Accepted
  record_accepts b planned placed flooded = told-accepts m record_told b (planned, (placed, flooded))

  -- it refuses with the mesh's own refusal, or with 13 at 0 where the mesh is accepted and the record is ill-formed
  pub refused_record : {number place : ℕ} → record_answer m p c f ≡ Refused number place → Refusal m (Formed m p c f) number place
  refused_record e = refused-more m (λ F. (F.plan, (F.cut, F.flood))) _ _ (told-refused (subst (Told m Rest) e record_told))

  -- what holds of any accepted record, however many entries its list of links has
  pub record_mesh : record_answer m p c f ≡ Accepted → mesh_answer m ≡ Accepted
  record_mesh e = (told-accepted (subst (Told m Rest) e record_told)).0

  pub record_few : record_answer m p c f ≡ Accepted → m.count ≤ 256
  record_few e = (passes m (record_mesh e)).count_most

  pub record_cut : record_answer m p c f ≡ Accepted → CutFormed m c
  record_cut e = (told-accepted (subst (Told m Rest) e record_told)).1.1.0
