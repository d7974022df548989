-- After any deliveries the links that are not quiet are just those that were ever offered: a state never falls, and leaves 0 only for 1. Assumes nothing.
use Rattle.std.specs.Prelude.{ℕ, ◌<◌, ◌≤◌, ◌≡◌, refl, ◌↔◌}
use Rattle.std.proofs.Math.Path.{ap}
use Rattle.std.proofs.Common.{⊎_elim}
use mathlib.Core.List.{List, [], ◌∷◌}
use native.Mathlib.Omega.{arith}
use Rattle.std.proofs.Math.Decide.{ℕ_discrete}
use Rattle.scan.specs.Test.{known}
use Rattle.scan.specs.Entry.{at}
use Rattle.flood.specs.Digraph.{Digraph, Failure, Sound}
use Rattle.flood.specs.Machine.{Flood, accepts, step, play, Roomy}
use Rattle.flood.specs.Path.{Ever}
use Rattle.flood.specs.Laws.Frame.{step_frame, play_frame, frame_room}
use Rattle.flood.specs.Laws.Delivery.{step_is, step_idle}
use Rattle.flood.specs.Laws.Change.{state_rises}
use Rattle.flood.specs.Laws.Run.{play-append}

module _ (g : Digraph) (c : Failure) (sound : Sound g c) where
  -- a state never falls, and a quiet link's becomes 1 at most
  pub step_rises : {f : Flood} → Roomy g f → (j i : ℕ) → let v = at f.states i in let w = at (step g c j f).states i in (v ≤ w) × (v ≡ 0 → w ≤ 1)
  step_rises {f} room j i =
      ⊎_elim
      (λ t. let (l, D) = step_is g c sound room j t in let z = state_rises g c D i in (z.0, z.2))
      (λ t. rw (step_idle g c j t) (omega arith))
      (known (accepts g j f))

  play_rises : (js : List ℕ) {f : Flood} → Roomy g f → (i : ℕ) → at f.states i ≤ at (play g c js f).states i
  unfolding play
  play_rises [] room i = omega arith
  play_rises (j ∷ js) {f} room i = omega (arith, step_rises room j i, play_rises js (frame_room g (step_frame g c f j) room) i)

  -- a link that was quiet or offered, and is not quiet now, was offered: at the first time that it was not quiet
  once_offered : (js : List ℕ) {f : Flood} → Roomy g f → (i : ℕ) → at f.states i ≤ 1 → 0 < at (play g c js f).states i → Ever g c i js f
  unfolding play
  once_offered [] room i h p = record { earlier = []; later = []; split = refl; offered = omega arith }
  once_offered (j ∷ js) {f} room i h p =
      go (ℕ_discrete (at f.states i) 0) (λ z. once_offered js (frame_room g (step_frame g c f j) room) i ((step_rises room j i).1 z) p)
    where
      go : Dec (at f.states i ≡ 0) → (at f.states i ≡ 0 → Ever g c i js (step g c j f)) → Ever g c i (j ∷ js) f
      go (no z) r = record { earlier = []; later = j ∷ js; split = refl; offered = omega arith }
      go (yes z) r = let e = r z in record { earlier = j ∷ e.earlier; later = e.later; split = ap (λ (l : List ℕ). j ∷ l) e.split; offered = e.offered }

  pub ever_offered : (js : List ℕ) {f : Flood} → Roomy g f → (i : ℕ) → at f.states i ≤ 1 → (0 < at (play g c js f).states i) ↔ Ever g c i js f
  ever_offered js {f} room i h = (
    once_offered js room i h,
    λ e.
        let since = play_rises e.later (frame_room g (play_frame g c e.earlier f) room) i in
        rw (e.split, play-append g c e.earlier e.later f) (omega (arith, e.offered, since)),
  )
