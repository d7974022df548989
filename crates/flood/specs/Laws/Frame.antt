-- What the failure and every delivery leave alone, in any flood and on any link: the lists' lengths, the states past the last link, and the nodes that are
-- reached already. Each stores below the last link, and only sets flags. Assumes nothing.
use Rattle.std.specs.Prelude.{ℕ, ◌<◌, ◌≤◌, ◌≡◌, refl, Bool, true, length, set}
use Rattle.std.proofs.Common.{◌∙◌, arith, length-set, get_or-set_other}
use mathlib.Core.List.{List, [], ◌∷◌}
use Rattle.scan.specs.Test.{branch}
use Rattle.scan.specs.Entry.{at}
use Rattle.scan.specs.Flags.{Extends, extends_refl, extends_set}
use Rattle.flood.specs.Digraph.{Digraph, Failure}
use Rattle.flood.specs.Machine.{Flood, offer, leaves, opens, begin, arrive, withdraw, step, play, Roomy}
use Rattle.flood.specs.Laws.Tests.{length-offer, at-offer, leaves_says, opens_says}
use Rattle.flood.specs.Laws.Ways.{step_ways, arrive_ways, withdraw_ways}

module _ (g : Digraph) where
  open g use {links}

  -- the states r differ from l below the last link at most
  pub record Within (l r : List ℕ) : Type 0 where
    pub sized : length r ≡ length l
    pub past : (i : ℕ) → links ≤ i → at r i ≡ at l i

  -- the flood h comes from f by changes below the last link, and every node that f reached is reached
  pub record Frame (f h : Flood) : Type 0 where
    pub states : Within f.states h.states
    pub reached : Extends f.reached h.reached

  -- so it has room where f has
  pub frame_room : {f h : Flood} → Frame f h → Roomy g f → Roomy g h
  frame_room z r = record { long = omega (arith, z.states.sized, r.long); wide = omega (arith, z.reached.sized, r.wide) }

  within_refl : (l : List ℕ) → Within l l
  within_refl l = record { sized = refl; past = λ i h. refl }

  within_set : {l r : List ℕ} → Within l r → (j v : ℕ) → j < links → Within l (set r j v)
  within_set {l} {r} w j v b = record { sized = length-set r j v ∙ w.sized; past = λ i h. get_or-set_other r j i v 0 (omega arith) ∙ w.past i h }

  within_offer : (p : ℕ → ℕ → Bool) (l : List ℕ) → ((i v : ℕ) → p i v ≡ true → i < links) → Within l (offer p l)
  within_offer p l b =
      record {
        sized = length-offer p l;
        past = λ i h.
            let none : p i (at l i) ≡ true → ⊥ = λ t. omega (arith, b i (at l i) t) in
            at-offer p l i (λ t. absurd (none t)) ∙ branch (λ (w : ℕ). w ≡ at l i) (p i (at l i)) (λ t. absurd (none t)) (λ t. refl);
      }

module _ (g : Digraph) (c : Failure) where
  open g use {links, head}
  open c use {source}

  pub begin_frame : (f : Flood) → Frame g f (begin g c f)
  unfolding begin
  begin_frame f =
      record {
        states = within_offer g (λ i v. leaves g c source i) f.states (λ i v t. ((leaves_says g c source i).0 t).0);
        reached = extends_set (extends_refl f.reached) source;
      }

  pub step_frame : (f : Flood) (j : ℕ) → Frame g f (step g c j f)
  step_frame f j = step_ways g c (Frame g f) f j (λ t. record { states = within_refl g f.states; reached = same }) arrives withdraws
    where
      same : Extends f.reached f.reached
      same = extends_refl f.reached

      more : Extends f.reached (set f.reached (head j) true)
      more = extends_set same (head j)

      put : (v : ℕ) → j < links → Within g f.states (set f.states j v)
      put v b = within_set g (within_refl g f.states) j v b

      fan : Within g f.states (offer (opens g c (head j)) f.states)
      fan = within_offer g (opens g c (head j)) f.states (λ i v t. ((opens_says g c (head j) i v).0 t).0.0)

      arrives : j < links → at f.states j ≡ 1 → Frame g f (arrive g c j f)
      arrives b o =
          arrive_ways g c (Frame g f) f j
          (λ r. record { states = put 3 b; reached = same })
          (λ n y. record { states = put 2 b; reached = more })
          (λ n y some. record { states = within_set g fan j 2 b; reached = more })
          (λ n y none. record { states = put 3 b; reached = more })

      withdraws : j < links → at f.states j ≡ 3 → Frame g f (withdraw g c j f)
      withdraws b o =
          withdraw_ways g c (Frame g f) f j
          (λ firm. record { states = put 4 b; reached = same })
          (λ x alone m m< t e. record { states = within_set g (put 4 b) m 3 m<; reached = same })

  pub play_frame : (js : List ℕ) (f : Flood) → Frame g f (play g c js f)
  unfolding play
  play_frame [] f = record { states = within_refl g f.states; reached = extends_refl f.reached }
  play_frame (j ∷ js) f =
      let a = step_frame f j in
      let b = play_frame js (step g c j f) in
      record {
        states = record { sized = b.states.sized ∙ a.states.sized; past = λ i h. b.states.past i h ∙ a.states.past i h };
        reached = record { sized = b.reached.sized ∙ a.reached.sized; keeps = λ v h. b.reached.keeps v (a.reached.keeps v h) };
      }
