-- A link that the rules ever offered on a wavelength since the cut is offered after the cut and some first ones of that wavelength's own deliveries, made alone,
-- and no other link is. Assumes 256 entries in the mesh's list of links.
use Rattle.std.specs.Prelude.{ℕ, ◌<◌, ◌≡◌, ◌↔◌, true, List, ◌++◌, length}
use Rattle.std.proofs.Math.Path.{sym}
use Rattle.std.proofs.Common.{ap, ◌∙◌}
use Rattle.std.proofs.lemmas.List.{length-map}
use Rattle.scan.specs.Test.{lt_says}
use Rattle.scan.specs.Entry.{at}
use Rattle.flood.specs.declared.Flood.{Flood}
use Rattle.flood.specs.Digraph.{Digraph, Failure}
use Rattle.flood.specs.Machine as machine
use Rattle.flood.specs.Laws.Order.{first-accepted}
use Rattle.flood.specs.Laws.Ever.{ever_offered}
use Rattle.wavelengths.specs.declared.Wavelength.{Wavelength}
use Rattle.wavelengths.specs.Wavelength.{on}
use Rattle.wavelengths.specs.Merge as merge
use Rattle.wavelengths.specs.Merge.{Turn, turns_on, links_on}
use Rattle.wavelengths.proofs.Laws.Project.{links_turns, accepted-turns}
use Rattle.mesh.specs.declared.Mesh.{Mesh}
use Rattle.mesh.specs.declared.Plan.{Plan}
use Rattle.mesh.specs.Answer.{Accepted}
use Rattle.planner.specs.Plan.{planned}
use Rattle.formed.specs.Cut.{Link}
use Rattle.recovery.specs.declared.Session.{Session}
use Rattle.history.specs.History.{Call}
use Rattle.history.specs.Rules.{start}
use Rattle.history.specs.Log.{made_on}
use Rattle.history.specs.Offered.{none_offered, offered}
use Rattle.history.specs.Demand.{state_on, digraph_on, ended, log, calls_on, EverOffered}
use Rattle.history.proofs.Laws.Kept.{graphs, lost, begun, played, Since, under, since-cut, played-own, accepted-own, kept-cut}
use Rattle.history.proofs.Laws.Started.{sound, progress, ended-kept}
use Rattle.history.proofs.Laws.Undisturbed.{alone_is}
use Rattle.history.proofs.Laws.Offered.{begun_few, ended_marks}

module _ (m : Mesh) (sized : length m.links ≡ 256) (good : (planned m).answer ≡ Accepted) where
  abbrev p : Plan
  p = (planned m).plan

  module _ {k : ℕ} {ts : List Turn} (q : Since m p k ts) (w : Wavelength) where
    abbrev g : Digraph
    g = graphs m p w

    abbrev c : Failure
    c = lost m p k w

    abbrev f : Flood
    f = on w (begun m p k)

    -- the first ones of its own deliveries, made alone
    module _ (earlier later : List ℕ) (split : links_on w ts ≡ earlier ++ later) where
      earlier_since : Since m p k (turns_on w earlier)
      earlier_since = record {
        link = q.link;
        all =
            accepted-turns (graphs m p) (lost m p k) w earlier (begun m p k)
            ∙ first-accepted g c earlier later f (rw (← split) (accepted-own m p q w))
            ∙ sym (length-map earlier _);
      }

      earlier_state : (i : ℕ) → state_on (ended m (calls_on w (Link k) earlier)) w i ≡ at (machine.play g c earlier f).states i
      earlier_state i =
          ap (λ (s : Session). state_on s w i) (alone_is m sized good w (Link k) earlier (under earlier_since)).0
          ∙ ap (λ (h : Flood). at h.states i) (played-own m p earlier_since w)
          ∙ ap (λ (js : List ℕ). at (machine.play g c js f).states i) (links_turns w earlier)

    ever : (i : ℕ) → (0 < at (on w (played m p k ts)).states i) ↔ EverOffered m w k (links_on w ts) i
    unfolding merge.play
    ever i =
        let room = (progress m good sized (since-cut m p q.link) w).room in
        let (out, into) = ever_offered g c (sound m good sized q w) (links_on w ts) {f = f} room i (begun_few m good sized k w i) in (
          λ h.
              let e = out (rw (← played-own m p q w) h) in
              record { earlier = e.earlier; later = e.later; split = e.split; offered = earlier_state e.earlier e.later e.split i ∙ e.offered },
          λ e.
              let o = sym (earlier_state e.earlier e.later e.split i) ∙ e.offered in
              rw (played-own m p q w) (into (record { earlier = e.earlier; later = e.later; split = e.split; offered = o })),
        )

  pub offered_ever : (calls : List Call) (k : ℕ) → (log m calls).cut ≡ Link k → (w : Wavelength) (i : ℕ)
      → (offered (digraph_on m) calls start none_offered w i ≡ true) ↔ EverOffered m w k (made_on w (log m calls)) i
  offered_ever calls k e w i =
      let (out, into) = kept-cut m p (λ s k ts. (0 < state_on s w i) ↔ EverOffered m w k (links_on w ts) i) (λ k ts q. ever q w i) (ended-kept m good sized calls) k e in
      let (test, says) = lt_says 0 (state_on (ended m calls) w i) in
      let marks = ended_marks m good sized calls w i in
      (λ t. out (test (sym marks ∙ t)), λ o. marks ∙ says (into o))
