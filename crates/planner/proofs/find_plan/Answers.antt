-- `planner::find_plan` meets its contract: each way out is one of the outcomes of planning, by what the checks answered and the searches found.
use mathlib.Core.Path.{◌≡◌, refl, sym, ◌∙◌}
use mathlib.Core.Bool.{false}
use Rattle.std.proofs.Common.{rules}
use Rattle.std.specs.Prelude.{Err, ℕ, None, Result, MatchResult, List}
use Rattle.scan.specs.Lowest.{any}
use Rattle.mesh.specs.declared.Mesh.{Mesh}
use Rattle.mesh.specs.Answer.{Accepted, Refused}
use Rattle.mesh.specs.Mesh.{mesh_answer}
use Rattle.mesh.specs.WellFormed.{InRange}
use Rattle.mesh.specs.Parts.{ends_in}
use Rattle.mesh.specs.Laws.Checked.{passes, well_formed}
use Rattle.mesh.specs.Laws.Parts.{ends_in_lem, split_answer}
use Rattle.graph.specs.Plan.{unreached}
use Rattle.nets.specs.Nets.{net_of}
use Rattle.nets.specs.Laws.Ways.{rows_ways}
use Rattle.nets.specs.Laws.Finds.{finds_unreached, lowest_of-says}
use Rattle.planner.specs.Plan.{plan_answer, planned}
use Rattle.planner.specs.Search.{directed}
use Rattle.planner.specs.Laws.Outcome.{planned-refused, answer_unchecked, answer-unreached, all-joined, answer-directed}
use Rattle.planner.proofs.find_plan.Goals as goal
use Rattle.planner.proofs.find_plan.Goals.{After-parts_answer, In_ok-parts_answer, In_default, After-all_directions}

-- the checks on the parts of the mesh are the mesh checks
module _ (c : After-parts_answer) where
  abbrev mesh : Mesh
  mesh = c.args.m.now

  ranges : InRange mesh
  ranges = c.split-zeros.ensures.ranges

  stored : c.split-zeros.new.ends ≡ ends_in mesh
  stored = c.split-zeros.ensures.ends ∙ ends_in_lem mesh

  answered : c.parts_answer.result ≡ mesh_answer mesh
  answered = split_answer mesh ranges c.split-zeros.ensures.rest c.split-zeros.ensures.ends c.parts_answer.ensures

-- past the checks
module _ (c : In_ok-parts_answer) where
  accepted : mesh_answer c.args.m.now ≡ Accepted
  accepted = sym (answered c.before.before) ∙ c.in_ok-parts_answer.was

pub returns-in_err-parts_answer : goal.returns-in_err-parts_answer
returns-in_err-parts_answer c =
    let checked = (goal.at.returns-in_err-parts_answer c).After-parts_answer in
    let m = mesh checked in
    let same : c.from_residual.result ≡ Err c.in_err-parts_answer.field-0.0 = search rules in
    rw same (planned-refused m (answer_unchecked m (sym (answered checked) ∙ c.in_err-parts_answer.was)) refl refl)

pub returns-in-Some : goal.returns-in-Some
returns-in-Some c =
    let m = c.args.m.now in
    let ok = accepted (goal.at.returns-in-Some c).In_ok-parts_answer in
    let (some, least) = lowest_of-says (unreached (net_of m)) m.nodes (finds_unreached m ok c.ways-table.ensures c.in-Some.ensures) in
    planned-refused m (answer-unreached m ok some least) refl refl

pub all_directions-requires : goal.all_directions-requires
all_directions-requires c = (passes c.args.m.now (accepted (goal.at.all_directions-requires c).In_ok-parts_answer)).count_most

-- past the search from node 0
module _ (c : In_default) where
  abbrev told : In_ok-parts_answer
  told = c.before.before.before.before

  all : any (unreached (net_of c.args.m.now)) c.args.m.now.nodes ≡ false
  all = lowest_of-says _ _ (finds_unreached c.args.m.now (accepted told) c.ways-table.ensures c.in_default.ensures)

-- past the pass over the links
module _ (c : After-all_directions) where
  abbrev searched : In_default
  searched = c.before.before

  abbrev given : Mesh
  given = c.args.m.now

  ok : mesh_answer given ≡ Accepted
  ok = accepted (told searched)

  directs : c.all_directions.result ≡ directed given
  directs = c.all_directions.ensures given (record {
    formed = well_formed given (ranges (told searched).before.before).entries ok;
    counted = refl;
    stored = stored (told searched).before.before;
    table = rows_ways given ok None c.ways-table.ensures;
    joined = all-joined given ok (all searched);
  })

  -- so it made the plan, or found the link of refusal 21
  outcome : {r : Result (List ℕ) ℕ} → c.all_directions.result ≡ r → MatchResult r
      (λ q. record { plan = record { directions = q }; answer = Accepted } ≡ planned given)
      (λ k. plan_answer given ≡ Refused 21 k)
  outcome e = answer-directed given ok (all searched) (sym e ∙ directs)

pub returns-in-Ok : goal.returns-in-Ok
returns-in-Ok c = outcome (goal.at.returns-in-Ok c).After-all_directions c.in-Ok.is

pub returns-in-Err : goal.returns-in-Err
returns-in-Err c =
    planned-refused c.args.m.now (outcome (goal.at.returns-in-Err c).After-all_directions c.in-Err.is) refl refl
