-- What holds of a flood after n accepted deliveries since the failure: the failure brings it about, an accepted delivery turns n into n + 1, any other changes
-- nothing. So it holds after every list of deliveries. Assumes nothing.
use Rattle.std.specs.Prelude.{ℕ, suc, ◌+◌, ◌<◌, ◌≤◌, ◌≡◌, refl, true}
use Rattle.std.proofs.Common.{sym, ◌∙◌, arith}
use Rattle.std.proofs.Math.Path.{ap, subst}
use Rattle.std.proofs.Math.Logic.{⊎_elim}
use mathlib.Core.List.{List, [], ◌∷◌}
use Rattle.scan.specs.Test.{known}
use Rattle.scan.specs.Entry.{at, has}
use Rattle.scan.specs.Total.{bit, total, total-same, total_const}
use Rattle.graph.specs.Walk.{Walk, here, one, join}
use Rattle.flood.specs.Digraph.{Digraph, Failure, Flow, Sound}
use Rattle.flood.specs.Machine.{Flood, weight, accepts, begin, step, play, accepted, Roomy, Blank}
use Rattle.flood.specs.Laws.Tests.{accepts_says}
use Rattle.flood.specs.Laws.Frame.{begin_frame, step_frame, frame_room}
use Rattle.flood.specs.Laws.Delivery.{step_is, step_idle}
use Rattle.flood.specs.Laws.Change.{newly_reached, state_rises, weights_rise}
use Rattle.flood.specs.Laws.Invariant.{Inv}
use Rattle.flood.specs.Laws.Begin.{begin-reached, begin-at_most_1, begin_inv}
use Rattle.flood.specs.Laws.Kept.{delivery_inv}

module _ (g : Digraph) (c : Failure) where
  open g use {nodes, links, tail, head}
  open c use {source}

  -- the invariant holds; each state is at most 4; past the last link and node nothing stands; a walk leads to each reached node; and n is the sum of
  -- the links' weights
  pub record Progress (n : ℕ) (f : Flood) : Type 0 where
    pub room : Roomy g f
    pub inv : Inv g c (at f.states) (has f.reached)
    pub small : (i : ℕ) → at f.states i ≤ 4
    pub past_links : (i : ℕ) → links ≤ i → at f.states i ≡ 0
    pub past_nodes : (v : ℕ) → has f.reached v ≡ true → v < nodes
    pub walked : (v : ℕ) → has f.reached v ≡ true → Walk (Flow g c) source v
    pub spent : n ≡ total (λ i. weight (at f.states i)) links

  module _ (sound : Sound g c) where
    pub begin_progress : {f : Flood} → Blank g f → Progress 0 (begin g c f)
    begin_progress {f} blank =
        record {
          room = frame_room g (begin_frame g c f) blank.room;
          inv = begin_inv g c blank sound;
          small = λ i. omega (arith, few i);
          past_links = λ i h. (begin_frame g c f).states.past i h ∙ blank.quiet i;
          past_nodes = λ v r. rw (begin-reached g c blank r) sound.source<;
          walked = λ v r. rw (begin-reached g c blank r) here;
          spent = omega (arith, total-same (λ i. weight (at (begin g c f).states i)) (λ i. 0) links (λ i l. idle i), total_const 0 links);
        }
      where
        few : (i : ℕ) → at (begin g c f).states i ≤ 1
        few = begin-at_most_1 g c blank

        idle : (i : ℕ) → weight (at (begin g c f).states i) ≡ 0
        idle i = let q = few i in omega arith

    pub step_progress : {n : ℕ} {f : Flood} → Progress n f → (j : ℕ) → accepts g j f ≡ true → Progress (suc n) (step g c j f)
    step_progress {n} {f} p j t =
        let (j<, D) = step_is g c sound p.room j t in
        record {
          room = frame_room g (step_frame g c f j) p.room;
          inv = delivery_inv g c p.inv j< D;
          small = λ i. (state_rises g c D i).1 (p.small i);
          past_links = λ i h. (step_frame g c f j).states.past i h ∙ p.past_links i h;
          past_nodes = λ v r. ⊎_elim (p.past_nodes v) (λ e. rw e (sound.head< j j<)) (newly_reached g c D v r);
          walked = λ v r. ⊎_elim (p.walked v) (λ e. rw e to_head) (newly_reached g c D v r);
          spent = omega (arith, p.spent, weights_rise g c D j<);
        }
      where
        to_head : Walk (Flow g c) source (head j)
        to_head =
            let (l, u) = (accepts_says g j f).0 t in
            let (r, y, b) = (p.inv.opened j l).0 (⊎_elim (λ e. omega arith) (λ e. omega arith) u) in
            join (p.walked (tail j) r) (one (y, (j, l, b, refl, refl)))

    pub play_progress : (js : List ℕ) {n : ℕ} {f : Flood} → Progress n f → Progress (n + accepted g c js f) (play g c js f)
    unfolding play accepted
    play_progress [] {n} {f} p = subst (λ (m : ℕ). Progress m f) (omega arith) p
    play_progress (j ∷ js) {n} {f} p = ⊎_elim
        (λ t. counted (omega (arith, ap bit t)) (play_progress js (step_progress p j t)))
        (λ t. counted (omega (arith, ap bit t)) (play_progress js (subst (Progress n) (sym (step_idle g c j t)) p)))
        (known (accepts g j f))
      where
        counted : {m k : ℕ} → m ≡ k → Progress m (play g c js (step g c j f)) → Progress k (play g c js (step g c j f))
        counted e = subst (λ (m : ℕ). Progress m (play g c js (step g c j f))) e

    -- after the failure and a list of deliveries
    pub after_progress : {f : Flood} → Blank g f → (js : List ℕ) → Progress (accepted g c js (begin g c f)) (play g c js (begin g c f))
    after_progress {f} blank js = subst (λ (m : ℕ). Progress m (play g c js (begin g c f))) (omega arith) (play_progress js (begin_progress blank))
