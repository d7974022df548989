-- A mend's answer and a route by counts over the states. Assumes nothing.
use Rattle.std.specs.Prelude.{ℕ, ◌≡◌, refl, Bool, ◌&&◌, List, Err}
use Rattle.std.proofs.Common.{ap, ◌∙◌}
use Rattle.mesh.specs.declared.Mesh.{Mesh}
use Rattle.mesh.specs.declared.Plan.{Plan}
use Rattle.mesh.specs.Answer.{Answer, Accepted}
use Rattle.flood.specs.declared.Route.{Route}
use Rattle.flood.specs.Machine as machine
use Rattle.flood.specs.Topology.{as_route}
use Rattle.wavelengths.specs.declared.Floods.{Floods}
use Rattle.wavelengths.specs.declared.Wavelength.{Wavelength}
use Rattle.wavelengths.specs.Wavelength.{on}
use Rattle.wavelengths.specs.Merge as both
use Rattle.formed.specs.Cut.{Cut}
use Rattle.formed.specs.Formed.{record_answer}
use Rattle.formed.specs.Laws.Forming.{record_few}
use Rattle.topology.specs.Backup.{backup_on}
use Rattle.refusals.specs.Refusals.{resting, mend_answer}
use Rattle.pieces.specs.Pieces.{digraph, tested}
use Rattle.pieces.specs.Laws.Counts.{resting_counted, both_counted}
use Rattle.queries.specs.Queries.{links_where}

-- a mend is told that no link is under way by counts over the states, which are right where the record is accepted
pub mend_counted : (m : Mesh) (p : Plan) (c : Cut) (f : Floods) (k : ℕ)
    → mend_answer (record_answer m p c f) m.count c (resting m.count f.first.states && resting m.count f.second.states) k
    ≡ mend_answer (record_answer m p c f) m.count c (both.at_rest (λ w. backup_on w m p) f) k
unfolding mend_answer
mend_counted m p c f k = go (record_answer m p c f) (λ r. both_counted m p f (record_few m p c f r))
  where
    go : {s t : Bool} (a : Answer) → (a ≡ Accepted → s ≡ t) → mend_answer a m.count c s k ≡ mend_answer a m.count c t k
    go Accepted same = ap (λ (rest : Bool). mend_answer Accepted m.count c rest k) (same refl)
    go (Err r) same = refl

-- so is a route
pub route_counted : (m : Mesh) (directions : List ℕ) (c : Cut) (f : Floods) → tested m directions c f ≡ Accepted → (w : Wavelength) {r : Route}
    → r ≡ as_route (links_where m directions c f w (resting m.count (on w f).states))
    → r ≡ as_route (links_where m directions c f w (machine.at_rest (digraph m directions w) (on w f)))
route_counted m directions c f t w e =
    e ∙ ap (λ (b : Bool). as_route (links_where m directions c f w b)) (resting_counted (digraph m directions w) (on w f) (record_few m (record { directions = directions }) c f t))
