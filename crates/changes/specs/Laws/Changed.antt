-- What the calls leave on both wavelengths, by what they do to the flood of each. Assumes nothing.
use Rattle.std.specs.Prelude.{ℕ, ◌≡◌, refl, List, Result, Err}
use Rattle.std.proofs.Common.{sym, subst, ◌∙◌}
use Rattle.std.proofs.Math.Path.{ap}
use Rattle.mesh.specs.declared.Mesh.{Mesh}
use Rattle.mesh.specs.declared.Reason.{Reason}
use Rattle.mesh.specs.Answer.{Answer, Accepted}
use Rattle.mesh.specs.WellFormed.{InRange}
use Rattle.mesh.specs.Parts.{ends_in}
use Rattle.flood.specs.declared.Flood.{Flood}
use Rattle.wavelengths.specs.declared.Floods.{Floods}
use Rattle.wavelengths.specs.declared.Wavelength.{Wavelength}
use Rattle.wavelengths.specs.Wavelength.{wavelength_of, on, put}
use Rattle.wavelengths.specs.Merge.{turn, step}
use Rattle.wavelengths.proofs.Laws.Wavelength.{on-put-own, put-own}
use Rattle.formed.specs.Cut.{Cut}
use Rattle.refusals.specs.Refusals.{deliver_answer}
use Rattle.refusals.proofs.Laws.Tested.{deliver_accepted}
use Rattle.pieces.specs.Pieces.{chosen, giving, digraph, lost, tested}
use Rattle.pieces.specs.Laws.Tested.{given_standing}
use Rattle.backup.specs.declared.Acted.{Acted}
use Rattle.changes.specs.Changes.{AfterDelivery}
use Rattle.changes.specs.OneFlood.{acted_on, OnOneFlood}

-- a delivery on the flood of its wavelength, and the other flood left alone
module _ (m : Mesh) (ends : List ℕ) (stored : ends ≡ ends_in m) (ranges : InRange m) (directions : List ℕ) (c : Cut) (f : Floods) (k n : ℕ)
    (t : Answer) (same : t ≡ tested m directions c f) (r : Result Acted Reason) where
  abbrev Own : Wavelength → Flood → Type 0
  Own w got = OnOneFlood t m.count directions ends c (on w f) k n got r

  module _ (got : Flood) (own : Own (wavelength_of n) got) where
    abbrev w : Wavelength
    w = wavelength_of n

    abbrev stepped : Floods
    stepped = step (digraph m directions) (lost m directions c) (turn k w) f

    by_answer : (a : Answer) → deliver_answer t m.count c (on w f).states k n ≡ a
        → (r ≡ giving a (acted_on (digraph m directions w) k got)) × (put w got f ≡ chosen a f stepped)
    unfolding step
    by_answer Accepted e =
        let (passed, below, named, stands, moves) = deliver_accepted t m.count k c (on w f).states n e in
        let (said, left) = own.stepped e m (given_standing m ends stored ranges directions c f (sym same ∙ passed) stands) in
        (said, ap (λ (h : Flood). put w h f) left)
    by_answer (Err why) e =
        let (said, left) = own.refused why e in
        (said, ap (λ (h : Flood). put w h f) left ∙ put-own w f)

    on_named : AfterDelivery m directions c f k n (put w got f) r
    on_named =
        let (said, left) = by_answer (deliver_answer t m.count c (on w f).states k n) refl in
        record {
          acted = said
              ∙ (λ i. giving (deliver_answer (same i) m.count c (on w f).states k n) (acted_on (digraph m directions w) k (sym (on-put-own w got f) i)));
          floods = left ∙ (λ i. chosen (deliver_answer (same i) m.count c (on w f).states k n) f stepped);
        }

  pub delivered : (w : Wavelength) → wavelength_of n ≡ w → (got : Flood) → Own w got → AfterDelivery m directions c f k n (put w got f) r
  delivered w e = subst (λ (w : Wavelength). (got : Flood) → Own w got → AfterDelivery m directions c f k n (put w got f) r) e on_named
