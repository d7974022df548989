-- What planning means: which meshes it refuses, with which number and place, and that an accepted plan is the first admissible assignment. The test behind
-- refusal 21 is told by walks here, that behind 20 in `nets`. Assumes nothing.
use Rattle.std.specs.Prelude.{ℕ, ◌<◌, ◌≡◌, refl, ◌⊎◌, ◌↔◌, true, false, not, List, Err}
use Rattle.std.proofs.Common.{sym, ◌∙◌, ap, subst, inl, inr, ⊎_elim}
use Rattle.std.proofs.Math.Logic.{⊎_map}
use Rattle.std.proofs.Math.Logic.Iff
use borrow.Author.Tests.{ltb-true, not-true, not-false}
use Rattle.scan.specs.Test.{branch, clash, failing}
use Rattle.scan.specs.Lowest.{lowest, lowest_is, any}
use Rattle.mesh.specs.declared.Mesh.{Mesh}
use Rattle.mesh.specs.declared.Plan.{Plan}
use Rattle.mesh.specs.Answer.{Answer, Accepted, Refused}
use Rattle.mesh.specs.Mesh.{mesh_answer}
use Rattle.mesh.specs.Laws.Answer.{and_then-accepted, Tells, accepting, refusing, told-accepted, told-refused}
use Rattle.graph.specs.Net.{Net, Fits, both_ways, without, Parted, First}
use Rattle.graph.specs.Plan.{unreached, parts}
use Rattle.graph.specs.Greedy.{greedy}
use Rattle.graph.specs.Laws.Connected.{connects_iff}
use Rattle.graph.specs.Laws.First.{first_unique}
use Rattle.graph.specs.Laws.Refusal.{all-reached, parts_says, refused_iff, refused_none, planned-first}
use Rattle.nets.specs.Nets.{net_of, NoPath}
use Rattle.nets.specs.Laws.Fits.{fits}
use Rattle.nets.specs.Laws.NoPath.{any-unreached}
use Rattle.planner.specs.declared.Planned.{Planned}
use Rattle.planner.specs.Plan.{plan_answer, padded, planned_as, planned}
use Rattle.planner.specs.Meaning.{LinkParts, FirstPlan}
use Rattle.planner.specs.Laws.Outcome.{planned-accepted}

-- ---- the test behind refusal 21

module _ {G : Net} (F : Fits G) where
  any-parts : any (unreached G) G.nodes ≡ false → any (parts G) G.links ≡ true → LinkParts G (lowest (parts G) G.links)
  unfolding any parts
  any-parts r e =
      let L = lowest_is (parts G) G.links in
      let h = ltb-true _ G.links e in
      record {
        joined = all-reached F r;
        link = h;
        parted = (parts_says F _).0 (L.passes h);
        lowest = λ k l. (connects_iff F _).0 (not-false _ (L.before k l));
      }

-- ---- the answer

pub planned-answer : (m : Mesh) → (planned m).answer ≡ plan_answer m
unfolding planned
planned-answer m = by_answer (plan_answer m) _
  where
    by_answer : (a : Answer) (p : Plan) → (planned_as a p).answer ≡ a
    by_answer Accepted p = refl
    by_answer (Err r) p = refl

-- an accepted plan is one of a mesh that passes the checks
pub plan_checked : (m : Mesh) → (planned m).answer ≡ Accepted → mesh_answer m ≡ Accepted
unfolding plan_answer
plan_checked m e = (and_then-accepted (mesh_answer m) _ (sym (planned-answer m) ∙ e)).0

module _ (m : Mesh) (ok : mesh_answer m ≡ Accepted) where
  -- neither test passes
  abbrev Neither : Type 0
  Neither = (any (unreached (net_of m)) m.nodes ≡ false) × (any (parts (net_of m)) m.count ≡ false)

  -- 20 or 21, each on its own condition
  abbrev Numbered : ℕ → ℕ → Type 0
  Numbered number place = ((number ≡ 20) × NoPath (net_of m) place) ⊎ ((number ≡ 21) × LinkParts (net_of m) place)

  told : Tells Neither Numbered (planned m).answer
  unfolding plan_answer
  told =
      rw (planned-answer m, ok)
      (branch (Tells Neither Numbered) (not (any (unreached (net_of m)) m.nodes))
      (λ a. branch (Tells Neither Numbered) (not (any (parts (net_of m)) m.count))
      (λ b. accepting (not-true _ a, not-true _ b))
      (λ b. refusing (inr (refl, any-parts (fits m ok) (not-true _ a) (not-false _ b)))))
      (λ a. refusing (inl (refl, any-unreached (fits m ok) (not-false _ a)))))

-- what each number means, and its place
pub plan-numbers : (m : Mesh) (number place : ℕ) → mesh_answer m ≡ Accepted → (planned m).answer ≡ Refused number place
    → ((number ≡ 20) × NoPath (net_of m) place) ⊎ ((number ≡ 21) × LinkParts (net_of m) place)
plan-numbers m number place ok e = told-refused (subst (Tells (Neither m ok) (Numbered m ok)) e (told m ok))

-- of an accepted plan neither test passed, so its directions are those of the pass over the links
neither : (m : Mesh) (e : (planned m).answer ≡ Accepted) → Neither m (plan_checked m e)
neither m e = let ok = plan_checked m e in told-accepted (subst (Tells (Neither m ok) (Numbered m ok)) e (told m ok))

pub plan-greedy : (m : Mesh) → (planned m).answer ≡ Accepted → (planned m).plan ≡ padded (greedy (net_of m) m.count)
plan-greedy m e = let (a, b) = neither m e in ap (λ (r : Planned). r.plan) (planned-accepted m (plan_checked m e) a b)

-- an accepted plan is the first admissible assignment
pub plan-first : (m : Mesh) → (planned m).answer ≡ Accepted → FirstPlan m
plan-first m e =
    let (a, b) = neither m e in
    record { directions = greedy (net_of m) m.count; plan_is = plan-greedy m e; first = planned-first (fits m (plan_checked m e)) a b }

-- and the first admissible assignment of a mesh that passes the checks is its plan
pub first-planned : (m : Mesh) → mesh_answer m ≡ Accepted → (p : List ℕ) → First (net_of m) p → planned m ≡ record { plan = padded p; answer = Accepted }
first-planned m ok p f =
    planned-accepted m ok reached whole
    ∙ ap (λ (q : List ℕ). record { plan = padded q; answer = Accepted }) (first_unique _ p (planned-first (fits m ok) reached whole) f)
  where
    reached : any (unreached (net_of m)) m.nodes ≡ false
    reached = failing Iff.rfl (λ e. refused_none (fits m ok) (inl e) p f.admissible)

    whole : any (parts (net_of m)) m.count ≡ false
    whole = failing Iff.rfl (λ e. refused_none (fits m ok) (inr e) p f.admissible)

-- planning refuses a mesh that passes the checks just where some two nodes have no path between them, or have none once some one link is taken away
pub plan-refuses : (m : Mesh) → mesh_answer m ≡ Accepted
    → ((number : ℕ) × (place : ℕ) × ((planned m).answer ≡ Refused number place))
    ↔ (Parted (net_of m) both_ways ⊎ ((k : ℕ) × (k < m.count) × Parted (net_of m) (without k both_ways)))
plan-refuses m ok = (
  λ (number, place, e). ⊎_map (λ (_, p). (0, place, F.some-node, p.node, p.unreached)) (λ (_, p). (place, p.link, p.parted))
      (plan-numbers m number place ok e),
  λ w. by_told (told m ok) (λ (a, b). ⊎_elim (λ t. clash t a) (λ t. clash t b) ((refused_iff F).1 w)),
)
  where
    F : Fits (net_of m)
    F = fits m ok

    by_told : {A : Type 0} {R : ℕ → ℕ → Type 0} {a : Answer} → Tells A R a → (A → ⊥) → (number : ℕ) × (place : ℕ) × (a ≡ Refused number place)
    by_told (accepting x) n = absurd (n x)
    by_told (refusing {number} {place} r) n = (number, place, refl)
