-- `status::status` meets its contract: refused, it says why; accepted, the state and the count are those of the wavelength, and the length that of its
-- taken links at rest under a cut, else of none.
use Prim.Native.Nat.{◌<◌, ◌≤◌, min}
use mathlib.Core.Path.{◌≡◌, sym, ap, ◌∙◌}
use native.Mathlib.Omega.{arith}
use Rattle.std.specs.Prelude.{Ok, Err}
use Rattle.std.proofs.Common.{rules}
use Rattle.scan.specs.Entry.{at}
use Rattle.metres.specs.Length.{length_of}
use Rattle.taken.specs.Taken.{is_taken}
use Rattle.mesh.specs.Answer.{Answer, Accepted}
use Rattle.mesh.specs.WellFormed.{lengths}
use Rattle.flood.specs.declared.Flood.{Flood}
use Rattle.flood.specs.Topology.{under_way_of}
use Rattle.wavelengths.specs.Wavelength.{each, wavelength_of, on, pair}
use Rattle.wavelengths.proofs.Laws.Wavelength.{each_on}
use Rattle.formed.specs.Laws.Forming.{record_few}
use Rattle.refusals.specs.Refusals.{status_answer}
use Rattle.refusals.proofs.Laws.Tested.{status_accepted}
use Rattle.pieces.specs.Pieces.{tested}
use Rattle.pieces.specs.Laws.Tested.{tested_is}
use Rattle.status.specs.Counts.{links_by}
use Rattle.status.proofs.Laws.Counts.{length_counted}
use Rattle.status.proofs.status.Goals as goal
use Rattle.status.proofs.status.Goals.{After-status_answer, In_ok-status_answer}

-- the answer is that of the pieces
answered : (c : After-status_answer) → let a = c.args in
    c.status_answer.result ≡ status_answer (tested a.mesh a.directions.now a.cut (pair a.first.now a.second.now)) a.mesh.count a.link a.wavelength
answered c =
    let a = c.args in
    let s = c.split_taken-parts.ensures in
    c.status_answer.ensures
    ∙ ap (λ (t : Answer). status_answer t a.mesh.count a.link a.wavelength)
    (tested_is a.mesh _ _ (s.rest, (s.ends, s.ranges)) a.directions.now a.cut (pair a.first.now a.second.now) c.record_answer-tested.ensures)

-- where it accepts
module _ (c : In_ok-status_answer) where
  accepted : let a = c.args in status_answer (tested a.mesh a.directions.now a.cut (pair a.first.now a.second.now)) a.mesh.count a.link a.wavelength ≡ Accepted
  accepted = sym (answered c.before.before) ∙ c.in_ok-status_answer.was

  small : (c.args.mesh.count ≤ 256) × (c.args.link < c.args.mesh.count)
  small =
      let a = c.args in
      let f = pair a.first.now a.second.now in
      let (r, below, named) = status_accepted (tested a.mesh a.directions.now a.cut f) a.mesh.count a.link a.wavelength accepted in
      (record_few a.mesh (record { directions = a.directions.now }) a.cut f r, below)

pub returns-in_err-status_answer : goal.returns-in_err-status_answer
returns-in_err-status_answer c =
    let same : c.from_residual.result ≡ Err c.in_err-status_answer.field-0.0 = search rules in
    rw (same, sym (answered (goal.at.returns-in_err-status_answer c).After-status_answer) ∙ c.in_err-status_answer.was)

pub bounds-flood-link : goal.bounds-flood-link
bounds-flood-link c =
    let a = c.args in
    let (few, below) = small (goal.at.bounds-flood-link c).In_ok-status_answer in
    omega arith

pub returns : goal.returns
returns c =
    let a = c.args in
    let f = pair a.first.now a.second.now in
    let s = c.split_taken-parts.ensures in
    let told = (goal.at.returns c).In_ok-status_answer in
    let (few, below) = small told in
    let w = wavelength_of a.wavelength in
    let own : c.of_wavelength-flood.result.now ≡ on c.wavelength_of-w.result f = search rules in
    let flood : c.of_wavelength-flood.result.now ≡ on w f = own ∙ ap (λ v. on v f) c.wavelength_of-w.ensures in
    let over : c.route_links-links.result ≡ links_by a.mesh.count a.cut (under_way_of a.mesh.count a.first.now.states) (under_way_of a.mesh.count a.second.now.states)
    = c.route_links-links.ensures ∙ (λ i. links_by a.mesh.count a.cut (c.under_way-busy1.ensures i) (c.under_way-busy2.ensures i)) in
    let busy = c.of_wavelength.ensures ∙ (λ i. each (c.under_way-busy1.ensures i) (c.under_way-busy2.ensures i) (c.wavelength_of-w.ensures i))
    ∙ each_on (λ (h : Flood). under_way_of a.mesh.count h.states) w f in
    let route = s.length ∙ (λ i. length_of (lengths a.mesh) (is_taken (flood i).states) (min (over i) 256))
    ∙ length_counted a.mesh (record { directions = a.directions.now }) f few (lengths a.mesh) a.cut w in
    rw (accepted told) (λ i. Ok (record { state = at (flood i).states a.link; under_way = busy i; route = route i }))
