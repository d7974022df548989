-- How many deliveries there can be, and how many there are at rest: each link has had as many as its weight, at most 2, and none if it is blocked; at rest it
-- has had 1 if it is taken, and 2 if it is released. Assumes nothing.
use Rattle.std.specs.Prelude.{ℕ, ◌+◌, ◌*◌, ◌<◌, ◌≤◌, ◌≡◌, refl, ◌≢◌, Bool, true, eqb}
use Rattle.std.proofs.Common.{◌∙◌, arith}
use Rattle.std.proofs.Math.Logic.{⊎_elim}
use Rattle.std.proofs.Math.Bool.{not}
use Rattle.std.proofs.Math.Decide.{ℕ_discrete}
use Rattle.std.proofs.Math.Dec.{ltb}
use Rattle.scan.specs.Test.{clash, known, lt_says, not_says, zero_unless}
use Rattle.scan.specs.Entry.{at}
use Rattle.scan.specs.Total.{bit, count, total, total-sum, total-le, total_tight, count_mono}
use Rattle.flood.specs.Digraph.{Digraph, Failure, usable}
use Rattle.flood.specs.Machine.{Flood, weight, at_rest, offered_links, taken_links}
use Rattle.flood.specs.Laws.Tests.{at-rest_says}
use Rattle.flood.specs.Laws.Progress.{Progress}

-- 2 for a test that passes, else 0
abbrev twice : Bool → ℕ
twice t = bit t + bit t

total_twice : (p : ℕ → Bool) (n : ℕ) → total (λ i. twice (p i)) n ≡ 2 * count p n
unfolding count
total_twice p n = omega (arith, total-sum (λ i. bit (p i)) (λ i. bit (p i)) (λ i. twice (p i)) n (λ i l. refl))

-- a link at rest
rest-weight : {v : ℕ} → v ≤ 4 → (v ≢ 1) × (v ≢ 3) → weight v + bit (eqb v 2) ≡ twice (ltb 0 v)
rest-weight {v} h (a, b) = go (ℕ_discrete v 0) (ℕ_discrete v 2)
  where
    go : Dec (v ≡ 0) → Dec (v ≡ 2) → weight v + bit (eqb v 2) ≡ twice (ltb 0 v)
    go (yes z) w = rw z
    go (no z) (yes w) = rw w
    go (no z) (no w) = let q : v ≡ 4 = omega arith in rw q

module _ (g : Digraph) (c : Failure) {n : ℕ} {f : Flood} (p : Progress g c n f) where
  open g use {links}
  open c use {blocked}

  abbrev S : ℕ → ℕ
  S = at f.states

  pub blocked_quiet : (i : ℕ) → i < links → blocked i ≡ true → S i ≡ 0
  blocked_quiet i l t = zero_unless (λ h. clash t ((p.inv.opened i l).0 h).2)

  weight_most : (i : ℕ) → i < links → weight (S i) ≤ twice (not (blocked i))
  weight_most i l = ⊎_elim (λ t. rw t (let q = blocked_quiet i l t in omega arith)) (λ t. rw t (let q = p.small i in omega arith)) (known (blocked i))

  -- there are at most two deliveries for each link that is not blocked
  pub made_most : n ≤ 2 * usable g c
  unfolding usable
  made_most =
      omega (arith, p.spent, total-le (λ i. weight (S i)) (λ i. twice (not (blocked i))) links weight_most, total_twice (λ i. not (blocked i)) links)

  -- and after so many none is under way
  pub made-all-rest : n ≡ 2 * usable g c → at_rest g f ≡ true
  unfolding usable
  made-all-rest e = (at-rest_says g f).1 (λ i l. ⊎_elim
      (λ t. let q = blocked_quiet i l t in omega arith)
      (λ t. let q : weight (S i) ≡ 2 = spent i l ∙ rw t in omega arith)
      (known (blocked i)))
    where
      spent : (i : ℕ) → i < links → weight (S i) ≡ twice (not (blocked i))
      spent =
          total_tight (λ i. weight (S i)) (λ i. twice (not (blocked i))) links weight_most
          (omega (arith, p.spent, total_twice (λ i. not (blocked i)) links))

  -- no blocked link is offered
  pub offered-usable : offered_links g f ≤ usable g c
  unfolding offered_links usable
  offered-usable =
      count_mono (λ i. ltb 0 (S i)) (λ i. not (blocked i)) links
      (λ i l t. (not_says (blocked i)).1 ((p.inv.opened i l).0 ((lt_says 0 (S i)).0 t)).2)

  -- at rest there are two deliveries for each link ever offered, less one for each that is taken
  pub rest-made : at_rest g f ≡ true → n + taken_links g f ≡ 2 * offered_links g f
  unfolding taken_links offered_links count
  rest-made r =
      let each = total-sum (λ i. weight (S i)) (λ i. bit (eqb (S i) 2)) (λ i. twice (ltb 0 (S i))) links
      (λ i l. rest-weight (p.small i) ((at-rest_says g f).0 r i l)) in
      omega (arith, p.spent, each, total_twice (λ i. ltb 0 (S i)) links)
