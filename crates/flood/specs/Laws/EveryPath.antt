-- Every simple path from the source to the target is the route of some order of deliveries: deliver along it, so that all its links are taken, then on
-- anything until rest. A taken link falls back only when no taken link leaves its head, so the links of a whole path stay taken. Assumes nothing.
use Rattle.std.specs.Prelude.{ℕ, ◌+◌, ◌*◌, ◌<◌, ◌≡◌, refl, ◌≢◌, ◌⊎◌, Bool}
use Rattle.std.proofs.Common.{sym, ap, ◌∙◌, inr}
use Rattle.std.proofs.Math.Logic.{inl, ⊎_elim}
use Rattle.std.proofs.Math.Bool.{true, false}
use mathlib.Core.List.Memᴰ
use mathlib.Core.List.{List, [], ◌∷◌, ◌++◌, map, Memᴰ}
use native.Mathlib.Omega.{arith}
use Rattle.std.proofs.Math.Decide.{dec_lt}
use Rattle.scan.specs.Test.{clash, known, zero_unless}
use Rattle.scan.specs.Entry.{at, has, Changed, moved}
use Rattle.scan.specs.Distinct.{Distinct}
use Rattle.flood.specs.Digraph.{Digraph, Failure, usable, Sound}
use Rattle.flood.specs.Machine.{Flood, at_rest, accepts, begin, play, accepted, order, run, Blank}
use Rattle.flood.specs.Path.{Chain, end, link, SimplePath, Route}
use Rattle.flood.specs.Laws.Tests.{Opens, accepts_says, at-rest_says}
use Rattle.flood.specs.Laws.Delivery.{Delivery, bounce, dead_end, visit, release, fall_back, step_is, step_idle}
use Rattle.flood.specs.Laws.Invariant.{Inv}
use Rattle.flood.specs.Laws.Begin.{begin-reached}
use Rattle.flood.specs.Laws.Progress.{Progress, begin_progress, step_progress, play_progress}
use Rattle.flood.specs.Laws.Run.{play-append, run_rests}
use Rattle.flood.specs.Laws.Chain.{Taken, end_met, head_next}
use Rattle.flood.specs.Laws.Route.{chain_route}

-- two links in different states are two
differ : (S : ℕ → ℕ) {i j v w : ℕ} → S j ≡ v → S i ≡ w → v ≢ w → i ≢ j
differ S a b n e = n (sym a ∙ ap S (sym e) ∙ b)

module _ (g : Digraph) (c : Failure) where
  open g use {links, tail, head}
  open c use {source, target, blocked}

  -- the links of p are there and not blocked
  abbrev Free : List ℕ → Type 0
  Free p = (i : ℕ) → Memᴰ i p → (i < links) × (blocked i ≡ false)

  -- ---- one delivery

  -- after a delivery on link j the taken link i is still taken, unless j was refused, leaves the head of i, and no taken link leaves that head
  abbrev StaysTaken : (ℕ → ℕ) → ℕ → ℕ → ℕ → Type 0
  StaysTaken S j i w = (w ≡ 2) ⊎ ((S j ≡ 3) × (head i ≡ tail j) × ((k : ℕ) → k < links → tail k ≡ tail j → S k ≢ 2))

  stays_taken : {S S' : ℕ → ℕ} {R R' : ℕ → Bool} {j : ℕ} → Delivery g c S R j S' R' → {i : ℕ} → S i ≡ 2 → StaysTaken S j i (S' i)
  stays_taken {S} (bounce o r d) {i} t = inl (d.elsewhere i (differ S o t (omega arith)) ∙ t)
  stays_taken {S} (dead_end o n r y none d) {i} t = inl (d.elsewhere i (differ S o t (omega arith)) ∙ t)
  stays_taken {S} (visit o n r some there spread) {i} t =
      inl (⊎_elim (λ z. let q = z.0.4 in absurd (omega arith)) (λ z. z.1 ∙ t) (spread i (differ S o t (omega arith))))
  stays_taken {S} (release o d firm) {i} t = inl (d.elsewhere i (differ S o t (omega arith)) ∙ t)
  stays_taken {S} {j} (fall_back o d x alone m m< s e d') {i} t =
      moved d' (λ i w. S i ≡ 2 → StaysTaken S j i w) i
      (λ t. inr (o, e, λ k l b q. let z = d.elsewhere k (differ S o q (omega arith)) in alone (k, l, b, omega arith, omega arith)))
      (λ a t. inl (d.elsewhere i (differ S o t (omega arith)) ∙ t)) t

  -- an offered link to a new node is taken, where the node is the target or offers
  becomes_taken : {S S' : ℕ → ℕ} {R R' : ℕ → Bool} {j : ℕ} → Delivery g c S R j S' R' → S j ≡ 1 → R (head j) ≡ false
      → (head j ≢ target → (i : ℕ) × Opens g c S (head j) i) → (S' j ≡ 2) × Changed R (head j) true R'
  becomes_taken (bounce o r d) s f w = clash r f
  becomes_taken (dead_end o n r y none d) s f w = absurd (none (w y).0 (w y).1)
  becomes_taken (visit o n r some there spread) s f w = (there, r)
  becomes_taken (release o d firm) s f w = absurd (omega arith)
  becomes_taken (fall_back o d x alone m m< t e d') s f w = absurd (omega arith)

  -- where a path goes on from a new node, the node is the target or offers
  path_opens : {u : ℕ} {p : List ℕ} → Chain g u p target → Free p → {S : ℕ → ℕ} {R : ℕ → Bool} → Inv g c S R
      → R u ≡ false → u ≢ target → (i : ℕ) × Opens g c S u i
  path_opens end free I n y = absurd (y refl)
  path_opens (link k e w) free {S} {R} I n y =
      let (l, b) = free k (Memᴰ.head refl) in
      (k, (y, l, e, b, zero_unless (λ h. clash ((I.opened k l).0 h).0 (ap R e ∙ n))))

  -- a whole path that is taken stays so
  path_stays : {p : List ℕ} → Chain g source p target → {S S' : ℕ → ℕ} {R R' : ℕ → Bool} {j : ℕ}
      → Inv g c S R → Taken g S p → j < links → Delivery g c S R j S' R' → Taken g S' p
  path_stays {p} w {S} {j} I t j< D i o =
      let (l, s) = t i o in
      (l, ⊎_elim (λ e. e) (λ z. absurd (go z.0 z.1 z.2 (head_next g w o))) (stays_taken D s))
    where
      go : S j ≡ 3 → head i ≡ tail j → ((k : ℕ) → k < links → tail k ≡ tail j → S k ≢ 2) → (head i ≡ target) ⊎ ((m : ℕ) × Memᴰ m p × (tail m ≡ head i)) → ⊥
      go a e f (inl y) = ((I.opened j j<).0 (omega arith)).1 (sym e ∙ y)
      go a e f (inr (m, q, b)) = let (l, s) = t m q in f m l (b ∙ e) s

  module _ (sound : Sound g c) where
    -- ---- many deliveries

    -- the links of a path over new nodes, delivered on in turn, are taken, and what was taken stays so
    path_taken : {p : List ℕ} {u : ℕ} → Chain g u p target → Distinct (u ∷ map head p) → Free p → {n : ℕ} {f : Flood} → Progress g c n f
        → has f.reached u ≡ true → ((v : ℕ) → Memᴰ v (map head p) → has f.reached v ≡ false)
        → ((i : ℕ) → Memᴰ i p → at (play g c p f).states i ≡ 2) × ((i : ℕ) → at f.states i ≡ 2 → at (play g c p f).states i ≡ 2)
    unfolding play
    path_taken end d free q r new = (λ i o. absurd (Memᴰ.not-nil o), λ i t. t)
    path_taken (link {p = p} j e w) d free {n} {f} q r new =
        let (j<, b) = free j (Memᴰ.head refl) in
        let nj : has f.reached (head j) ≡ false = new (head j) (Memᴰ.head refl) in
        let s : at f.states j ≡ 1 = offered j< b nj (dec_lt (at f.states j) 2) in
        let acc : accepts g j f ≡ true = (accepts_says g j f).1 (j<, inl s) in
        let D = (step_is g c sound q.room j acc).1 in
        let later : Free p = λ i o. free i (Memᴰ.tail o) in
        let (z, ch) = becomes_taken D s nj (path_opens w later q.inv nj) in
        let new' : (v : ℕ) → Memᴰ v (map head p) → _ = λ v o. ch.elsewhere v (λ h. d.1.0 v o (sym h)) ∙ new v (Memᴰ.tail o) in
        let rest = path_taken w d.1 later (step_progress g c sound q j acc) ch.there new' in (
          λ i o. ⊎_elim (λ h. rw h (rest.1 j z)) (rest.0 i) (Memᴰ.cases_cons o),
          λ i t. rest.1 i (⊎_elim (λ e. e) (λ z. absurd (omega (arith, z.0))) (stays_taken D t)),
        )
      where
        offered : j < links → blocked j ≡ false → has f.reached (head j) ≡ false → Dec (at f.states j < 2) → at f.states j ≡ 1
        offered l b n (yes h) = let z = (q.inv.opened j l).1 (rw e r, λ y. d.0 target (end_met g w) (sym e ∙ y), b) in omega arith
        offered l b n (no h) = clash (q.inv.head_reached j l (omega arith)) n

    play_stays : (js : List ℕ) {p : List ℕ} → Chain g source p target → {n : ℕ} {f : Flood} → Progress g c n f
        → Taken g (at f.states) p → Taken g (at (play g c js f).states) p
    unfolding play
    play_stays [] w q t = t
    play_stays (j ∷ js) {p} w {n} {f} q t = ⊎_elim
        (λ a. let (j<, D) = step_is g c sound q.room j a in play_stays js w (step_progress g c sound q j a) (path_stays w q.inv t j< D))
        (λ a. rw (step_idle g c j a) (play_stays js w q t))
        (known (accepts g j f))

    pub every_path : {p : List ℕ} → SimplePath g c p → {f : Flood} → Blank g f
        → (js : List ℕ) × (at_rest g (play g c js (begin g c f)) ≡ true) × Route g c (at (play g c js (begin g c f)).states) p
    unfolding run
    every_path {p} path {f} blank = (
      p ++ js,
      rw (play-append g c p js f₀) still,
      rw (play-append g c p js f₀) (chain_route g c q₂.inv ((at-rest_says g f₂).0 still) path.chain (play_stays js path.chain q₁ taken)),
    )
      where
        f₀ : Flood
        f₀ = begin g c f

        f₁ : Flood
        f₁ = play g c p f₀

        js : List ℕ
        js = order g c (2 * usable g c) f₁

        f₂ : Flood
        f₂ = play g c js f₁

        q₀ : Progress g c 0 f₀
        q₀ = begin_progress g c sound blank

        q₁ : Progress g c (0 + accepted g c p f₀) f₁
        q₁ = play_progress g c sound p q₀

        q₂ : Progress g c (0 + accepted g c p f₀ + accepted g c js f₁) f₂
        q₂ = play_progress g c sound js q₁

        still : at_rest g f₂ ≡ true
        still = run_rests g c sound (2 * usable g c) q₁ (omega arith)

        new : (v : ℕ) → Memᴰ v (map head p) → has f₀.reached v ≡ false
        new v o = ⊎_elim (λ r. absurd (path.simple.0 v o (sym (begin-reached g c blank r)))) (λ n. n) (known (has f₀.reached v))

        taken : Taken g (at f₁.states) p
        taken i o = ((path.free i o).0, (path_taken path.chain path.simple path.free q₀ q₀.inv.source_reached new).0 i o)
