-- What planning gives, by what the mesh checks answer and what the two searches find. Assumes nothing.
use Rattle.std.specs.Prelude.{ℕ, ◌≡◌, refl, Bool, true, false, Result, MatchResult, List}
use Rattle.std.proofs.Common.{sym, ◌∙◌}
use Rattle.scan.specs.Lowest.{lowest, any}
use Rattle.mesh.specs.declared.Mesh.{Mesh}
use Rattle.mesh.specs.Answer.{Accepted, Refused}
use Rattle.mesh.specs.Mesh.{mesh_answer}
use Rattle.graph.specs.Net.{Strong, both_ways}
use Rattle.graph.specs.Plan.{unreached, parts}
use Rattle.graph.specs.Greedy.{greedy}
use Rattle.graph.specs.Laws.Pass.{greedy-length}
use Rattle.graph.specs.Laws.Refusal as refusal
use Rattle.nets.specs.Nets.{net_of}
use Rattle.nets.specs.Laws.Fits.{fits}
use Rattle.planner.specs.declared.Planned.{Planned}
use Rattle.planner.specs.Plan.{plan_answer, padded, zero_plan, planned}
use Rattle.planner.specs.Search.{directed}

module _ (m : Mesh) where
  -- a refusal, with all zeros
  pub planned-refused : {number place : ℕ} → plan_answer m ≡ Refused number place → {r : Planned} → r.plan ≡ zero_plan → r.answer ≡ Refused number place
      → r ≡ planned m
  unfolding planned
  planned-refused e p a = rw e (λ j. record { plan = p j; answer = a j })

  pub answer_unchecked : {number place : ℕ} → mesh_answer m ≡ Refused number place → plan_answer m ≡ Refused number place
  unfolding plan_answer
  answer_unchecked e = rw e

  module _ (ok : mesh_answer m ≡ Accepted) where
    -- no refusal: the greedy directions
    pub planned-accepted : any (unreached (net_of m)) m.nodes ≡ false → any (parts (net_of m)) m.count ≡ false
        → planned m ≡ record { plan = padded (greedy (net_of m) m.count); answer = Accepted }
    unfolding planned plan_answer
    planned-accepted a b = rw (ok, a, b, refusal.planned (fits m ok) a b)

    -- ---- by what the searches found

    pub answer-unreached : {v : ℕ} → any (unreached (net_of m)) m.nodes ≡ true → v ≡ lowest (unreached (net_of m)) m.nodes → plan_answer m ≡ Refused 20 v
    unfolding plan_answer
    answer-unreached a e = rw (ok, a, e)

    module _ (all : any (unreached (net_of m)) m.nodes ≡ false) where
      pub all-joined : Strong (net_of m) both_ways
      all-joined = refusal.all-reached (fits m ok) all

      by_any : (t : Bool) → any (parts (net_of m)) m.count ≡ t → {r : Result (List ℕ) ℕ} → r ≡ directed m → MatchResult r
          (λ q. record { plan = record { directions = q }; answer = Accepted } ≡ planned m)
          (λ k. plan_answer m ≡ Refused 21 k)
      unfolding plan_answer directed
      by_any true e q = rw (q, e, ok, all)
      by_any false e q = rw (q, e) (sym (planned-accepted all e ∙ rw (greedy-length (net_of m) m.count)))

      pub answer-directed : {r : Result (List ℕ) ℕ} → r ≡ directed m → MatchResult r
          (λ q. record { plan = record { directions = q }; answer = Accepted } ≡ planned m)
          (λ k. plan_answer m ≡ Refused 21 k)
      answer-directed = by_any (any (parts (net_of m)) m.count) refl
