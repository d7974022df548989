-- The ways through a delivery, as 01's rules have them: what holds of the outcome of each way, under what is known there, holds after the delivery. Each
-- test of `step`, `arrive` and `withdraw` is taken apart here once. Assumes nothing.
use Prim.Native.Nat.{ℕ, ◌<◌}
use Rattle.std.specs.Prelude.{◌≡◌, ◌≢◌, ◌⊎◌, Bool, true, false, List, eqb, set}
use Rattle.std.proofs.Common.{inl, inr, ⊎_elim}
use borrow.Author.Tests.{eqb-true, eqb-false}
use Rattle.scan.specs.Test.{branch, fails}
use Rattle.scan.specs.Entry.{at, has}
use Rattle.flood.specs.Digraph.{Digraph, Failure}
use Rattle.flood.specs.Machine.{Flood, offer, opens, holds, feeds, first, some, accepts, arrive, retreat, withdraw, step}
use Rattle.flood.specs.Laws.Tests.{Into, OutOf, Opens, accepts_says, feeds_says, first_passes, some-holds_says, some-feeds_says, some-opens_says}

module _ (g : Digraph) (c : Failure) where
  open g use {links, tail, head}
  open c use {source, target}

  -- node a gives nothing back: it is the source, or a link out of it holds it, or no link is taken into it
  abbrev pub Firm : (ℕ → ℕ) → ℕ → Type 0
  Firm S a = (a ≡ source) ⊎ (OutOf g S a ⊎ (Into g S a → ⊥))

  module _ (P : Flood → Type 0) (f : Flood) (j : ℕ) where
    -- P of the flood with these states and reached nodes
    abbrev Q : List ℕ → List Bool → Type 0
    Q l r = P (record { states = l; reached = r })

    abbrev S : ℕ → ℕ
    S = at f.states

    abbrev R : ℕ → Bool
    R = has f.reached

    abbrev b : ℕ
    b = head j

    abbrev marked : List Bool
    marked = set f.reached b true

    -- on a link that is not under way, an offered and a refused link
    pub step_ways : (accepts g j f ≡ false → P f)
        → (j < links → S j ≡ 1 → P (arrive g c j f))
        → (j < links → S j ≡ 3 → P (withdraw g c j f))
        → P (step g c j f)
    unfolding step
    step_ways idle arrives withdraws =
        branch P (accepts g j f)
        (λ t. let (l, u) = (accepts_says g j f).0 t in
        branch P (eqb (S j) 1) (λ e. arrives l (eqb-true (S j) 1 e)) (λ e. withdraws l (⊎_elim (λ h. absurd (eqb-false (S j) 1 e h)) (λ h. h) u)))
        idle

    -- its head is reached already; it is the target; it has links to offer; it has none
    pub arrive_ways : (R b ≡ true → Q (set f.states j 3) f.reached)
        → (R b ≡ false → b ≡ target → Q (set f.states j 2) marked)
        → (R b ≡ false → b ≢ target → (i : ℕ) × Opens g c S b i → Q (set (offer (opens g c b) f.states) j 2) marked)
        → (R b ≡ false → b ≢ target → ((i : ℕ) → Opens g c S b i → ⊥) → Q (set f.states j 3) marked)
        → P (arrive g c j f)
    unfolding arrive
    arrive_ways known reaches offers none =
        branch P (R b) known
        (λ n. branch P (eqb b target) (λ e. reaches n (eqb-true b target e))
        (λ e. let far = eqb-false b target e in
        let says = some-opens_says g c b f.states far in
        branch P (some g (opens g c b) f.states) (λ t. offers n far (says.0 t)) (λ t. none n far (λ i w. fails says t (i, w)))))

    -- its start gives nothing back; the link m that is taken into its start, which nothing holds now, is refused
    pub withdraw_ways : let l = set f.states j 4 in
        (Firm (at l) (tail j) → Q l f.reached)
        → (tail j ≢ source → (OutOf g (at l) (tail j) → ⊥) → (m : ℕ) → m < links → at l m ≡ 2 → head m ≡ tail j → Q (set l m 3) f.reached)
        → P (withdraw g c j f)
    unfolding withdraw retreat
    withdraw_ways firm falls =
        branch Q' (eqb a source) (λ e. firm (inl (eqb-true a source e)))
        (λ e. branch Q' (some g (holds g a) l) (λ h. firm (inr (inl ((some-holds_says g a l).0 h))))
        (λ h. branch Q' (some g (feeds g a) l)
        (λ t. let (m<, w) = first_passes g (feeds g a) l t in
        let (d, z) = (feeds_says g a m (at l m)).0 w in
        falls (eqb-false a source e) (fails (some-holds_says g a l) h) m m< z d)
        (λ t. firm (inr (inr (fails (some-feeds_says g a l) t))))))
      where
        a : ℕ
        a = tail j

        l : List ℕ
        l = set f.states j 4

        m : ℕ
        m = first g (feeds g a) l

        Q' : List ℕ → Type 0
        Q' l = Q l f.reached
