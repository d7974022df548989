-- What the answer on the ends of a link tells: none of 01's faults 7, 6 and 8, or which one. Assumes nothing.
use Rattle.std.specs.Prelude.{ℕ, ◌<◌, ◌≡◌, ◌↔◌, true, ◌&&◌}
use Rattle.std.proofs.Math.Path.{refl}
use Rattle.std.proofs.Common.{subst, inl, inr, arith}
use Rattle.std.proofs.Math.Decide.{dec_lt}
use Rattle.std.proofs.Math.Dec.{ltb}
use borrow.Author.Tests.{ltb-true, ltb-false, lt-ltb}
use Rattle.scan.specs.Test.{branch, fails, failing, Says, lt_says, le_says, eq_says, and_says, or_says}
use Rattle.mesh.specs.Answer.{Answer, Accepted, Refused}
use Rattle.mesh.specs.Mesh.{follows, ends_answer}
use Rattle.mesh.specs.WellFormed.{NotBelow}
use Rattle.mesh.specs.Refusal.{Below, EndsFault, low_not_below_high, end-not_below_nodes, pair_below}
use Rattle.mesh.specs.Laws.Answer.{Tells, accepting, refusing, told-accepted, told-refused}

module _ (plow phigh low high : ℕ) where
  pub follows_says : Says (follows plow phigh low high) (NotBelow plow phigh low high)
  follows_says = or_says (lt_says plow low) (and_says (eq_says plow low) (le_says phigh high))

  -- a pair is below another, or it is not
  below : (NotBelow plow phigh low high → ⊥) → Below plow phigh low high
  below f = elim (dec_lt low plow) [
    | yes h ↦ inl h
    | no h ↦ elim (dec_lt plow low) [
      | yes l ↦ absurd (f (inl l))
      | no l ↦ inr (omega arith, elim (dec_lt high phigh) [ yes g ↦ g | no g ↦ absurd (f (inr (omega arith, omega arith))) ])
    ]
  ]

  pub not_both : NotBelow plow phigh low high → Below plow phigh low high → ⊥
  not_both (inl h) (inl l) = omega arith
  not_both (inl h) (inr (e, l)) = omega arith
  not_both (inr (e, h)) (inl l) = omega arith
  not_both (inr (e, h)) (inr (q, l)) = omega arith

module _ (n plow phigh low high place : ℕ) where
  abbrev Told : Answer → Type 0
  Told =
      Tells
      ((low < high) × (high < n) × (follows plow phigh low high ≡ true))
      (λ number at. EndsFault n plow phigh low high number × (at ≡ place))

  -- each test passes, or the refusal has the number of the first that fails
  pub ends-told : Told (ends_answer n plow phigh low high place)
  unfolding ends_answer
  ends-told =
      branch Told (ltb low high)
      (λ a. branch Told (ltb low n && ltb high n)
      (λ b. branch Told (follows plow phigh low high)
      (λ c. accepting (ltb-true _ _ a, (inside.0 b).1, c))
      (λ c. refusing (pair_below (ltb-true _ _ a) (inside.0 b).1 (below plow phigh low high (fails (follows_says plow phigh low high) c)), refl)))
      (λ b. refusing (end-not_below_nodes (ltb-true _ _ a) (fails inside b), refl)))
      (λ a. refusing (low_not_below_high (ltb-false _ _ a), refl))
    where
      inside : Says (ltb low n && ltb high n) ((low < n) × (high < n))
      inside = and_says (lt_says low n) (lt_says high n)

  pub ends-accepted : (ends_answer n plow phigh low high place ≡ Accepted) ↔ ((low < high) × (high < n) × (follows plow phigh low high ≡ true))
  unfolding ends_answer
  ends-accepted = (λ e. told-accepted (subst Told e ends-told), λ h. rw (lt-ltb low high h.0, lt-ltb low n (omega arith), lt-ltb high n h.1, h.2))

  -- 8 exactly for a link whose ends are two nodes in order and whose pair is below the previous one
  pub order-refused : (ends_answer n plow phigh low high place ≡ Refused 8 place) ↔ ((low < high) × (high < n) × Below plow phigh low high)
  unfolding ends_answer
  order-refused = (
    λ e. by (told-refused (subst Told e ends-told)).0 refl,
    λ (apart, inside, b).
        rw (lt-ltb low high apart, lt-ltb low n (omega arith), lt-ltb high n inside, failing (follows_says plow phigh low high) (λ f. not_both plow phigh low high f b)) refl,
  )
    where
      by : {number : ℕ} → EndsFault n plow phigh low high number → number ≡ 8 → (low < high) × (high < n) × Below plow phigh low high
      by (low_not_below_high h) e = absurd (omega arith)
      by (end-not_below_nodes h f) e = absurd (omega arith)
      by (pair_below apart inside b) e = (apart, inside, b)
