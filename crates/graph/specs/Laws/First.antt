-- `plan` is the first admissible assignment, and there is only one. The search over all lists of n directions is one over those that start with 0, and then
-- one over those that start with 1, so that by induction on n it finds the first that passes. Assumes nothing.
use Rattle.std.specs.Prelude.{ℕ, zero, suc, ◌<◌, ◌≤◌, ◌≡◌, ◌⊎◌, ◌↔◌, Bool, true, false, length, get_or}
use Rattle.std.proofs.Math.Path.{refl}
use Rattle.std.proofs.Common.{sym, ap, inl, inr, arith}
use Rattle.std.proofs.Math.Logic.{⊎_elim, ⊎_map}
use Rattle.std.proofs.Math.Option.{Option, none, some}
use mathlib.Core.List.{List, [], ◌∷◌, ◌++◌, map}
use Rattle.std.proofs.Math.Nat.{suc_inj}
use Rattle.std.proofs.Math.Decide.{ℕ_discrete, dec_lt}
use Rattle.scan.specs.Test.{branch, clash, known}
use Rattle.graph.specs.Net.{Net, Fits, along, Before, First}
use Rattle.graph.specs.Plan.{connects, assignments, first_that, plan}
use Rattle.graph.specs.Laws.Connected.{connects_iff}

-- ---- the order of lists

before_head : {x y : ℕ} (p q : List ℕ) → x < y → Before (x ∷ p) (y ∷ q)
before_head p q h = record { place = 0; inside = omega arith; same = λ i l. absurd (omega arith); smaller = h }

before_tail : (x : ℕ) (p q : List ℕ) → Before p q → Before (x ∷ p) (x ∷ q)
before_tail x p q b = record {
  place = suc b.place;
  inside = omega (arith, b.inside);
  same = elim [ zero ↦ λ l. refl | suc i ↦ λ l. b.same i (omega arith) ];
  smaller = b.smaller;
}

cons : (x : ℕ) {p q : List ℕ} → p ≡ q → ◌≡◌ {A = List ℕ} (x ∷ p) (x ∷ q)
cons x e = ap {B = List ℕ} (λ r. x ∷ r) e

before_asym : (p q : List ℕ) → Before p q → Before q p → ⊥
before_asym p q a b = elim (dec_lt a.place b.place) [
  | yes l ↦ omega (arith, b.same a.place l, a.smaller)
  | no l ↦ elim (dec_lt b.place a.place) [
    | yes r ↦ omega (arith, a.same b.place r, b.smaller)
    | no r ↦ let e : a.place ≡ b.place = omega arith in omega (arith, rw e at a.smaller, b.smaller)
  ]
]

pub before-total : (p q : List ℕ) → length p ≡ length q → (p ≡ q) ⊎ (Before p q ⊎ Before q p)
before-total [] [] e = inl refl
before-total [] (y ∷ q) e = absurd (omega arith)
before-total (x ∷ p) [] e = absurd (omega arith)
before-total (x ∷ p) (y ∷ q) e = elim (ℕ_discrete x y) [
  | yes r ↦ rw r (⊎_map (cons y) (⊎_map (before_tail y p q) (before_tail y q p)) (before-total p q (suc_inj e)))
  | no n ↦ inr (elim (dec_lt x y) [ yes l ↦ inl (before_head p q l) | no l ↦ inr (before_head q p (omega arith)) ])
]

pub first_unique : {G : Net} (p q : List ℕ) → First G p → First G q → p ≡ q
first_unique p q f g =
    ⊎_elim (λ e. e) (λ a. ⊎_elim sym (λ b. absurd (before_asym p q a b)) (g.least p f.admissible)) (f.least q g.admissible)

-- ---- the search over all lists of n directions

abbrev Directions : ℕ → List ℕ → Type 0
Directions n p = (length p ≡ n) × ((i : ℕ) → i < n → get_or p i 0 ≤ 1)

-- r is the first that passes, or none does
abbrev FirstOf : (List ℕ → Bool) → ℕ → Option (List ℕ) → Type 0
FirstOf f n (some p) = Directions n p × (f p ≡ true) × ((q : List ℕ) → Directions n q → f q ≡ true → (p ≡ q) ⊎ Before p q)
FirstOf f n none = (q : List ℕ) → Directions n q → f q ≡ false

abbrev under : ℕ → Option (List ℕ) → Option (List ℕ)
under x (some p) = some (x ∷ p)
under x none = none

abbrev or_else : Option (List ℕ) → Option (List ℕ) → Option (List ℕ)
or_else (some p) r = some p
or_else none r = r

module _ (f : List ℕ → Bool) where
  first_that-append : (xs ys : List (List ℕ)) → first_that f (xs ++ ys) ≡ or_else (first_that f xs) (first_that f ys)
  unfolding first_that
  first_that-append [] ys = refl
  first_that-append (p ∷ xs) ys = ⊎_elim (λ e. rw e) (λ e. rw e (first_that-append xs ys)) (known (f p))

  first_that-map : (x : ℕ) (ps : List (List ℕ)) → first_that f (map (λ p. x ∷ p) ps) ≡ under x (first_that (λ p. f (x ∷ p)) ps)
  unfolding first_that
  first_that-map x [] = refl
  first_that-map x (p ∷ ps) = ⊎_elim (λ e. rw e) (λ e. rw e (first_that-map x ps)) (known (f (x ∷ p)))

-- a list of directions starts with 0 or with 1
by_head : (n : ℕ) (A : List ℕ → Type 0) → ((q : List ℕ) → Directions n q → A (0 ∷ q)) → ((q : List ℕ) → Directions n q → A (1 ∷ q))
    → (q : List ℕ) → Directions (suc n) q → A q
by_head n A f g [] (l, d) = absurd (omega arith)
by_head n A f g (zero ∷ q) (l, d) = f q (suc_inj l, λ i h. d (suc i) (omega arith))
by_head n A f g (suc zero ∷ q) (l, d) = g q (suc_inj l, λ i h. d (suc i) (omega arith))
by_head n A f g (suc (suc x) ∷ q) (l, d) = absurd (omega (arith, d 0 (omega arith)))

directions-cons : (n x : ℕ) (p : List ℕ) → x ≤ 1 → Directions n p → Directions (suc n) (x ∷ p)
directions-cons n x p h (l, d) = (ap suc l, elim [ zero ↦ λ b. h | suc i ↦ λ b. d i (omega arith) ])

search_is : (n : ℕ) (f : List ℕ → Bool) → FirstOf f n (first_that f (assignments n))
unfolding assignments first_that
search_is zero f =
    branch (FirstOf f 0) (f [])
    (λ e. ((refl, λ i h. absurd (omega arith)), e, λ q d t. only (λ q. ([] ≡ q) ⊎ Before [] q) (inl refl) q d))
    (λ e. only (λ q. f q ≡ false) e)
  where
    only : (A : List ℕ → Type 0) → A [] → (q : List ℕ) → Directions 0 q → A q
    only A a [] d = a
    only A a (x ∷ q) (l, d) = absurd (omega arith)
search_is (suc n) f =
    rw (first_that-append, first_that-map f 0, first_that-map f 1)
    (combine (first_that (λ p. f (0 ∷ p)) (assignments n)) (first_that (λ p. f (1 ∷ p)) (assignments n))
    (search_is n (λ p. f (0 ∷ p))) (search_is n (λ p. f (1 ∷ p))))
  where
    Least : List ℕ → List ℕ → Type 0
    Least p q = f q ≡ true → (p ≡ q) ⊎ Before p q

    combine : (r s : Option (List ℕ)) → FirstOf (λ p. f (0 ∷ p)) n r → FirstOf (λ p. f (1 ∷ p)) n s → FirstOf f (suc n) (or_else (under 0 r) (under 1 s))
    combine (some p) s (d, e, least) _ = (
      directions-cons n 0 p (omega arith) d,
      e,
      by_head n (Least (0 ∷ p)) (λ q b t. ⊎_map (cons 0) (before_tail 0 p q) (least q b t)) (λ q b t. inr (before_head p q (omega arith))),
    )
    combine none (some p) never (d, e, least) = (
      directions-cons n 1 p (omega arith) d,
      e,
      by_head n (Least (1 ∷ p)) (λ q b t. clash t (never q b)) (λ q b t. ⊎_map (cons 1) (before_tail 1 p q) (least q b t)),
    )
    combine none none never-0 never-1 = by_head n (λ q. f q ≡ false) never-0 never-1

-- ---- the plan

module _ {G : Net} (F : Fits G) where
  -- what the search for the plan may find
  abbrev Found : Option (List ℕ) → Type 0
  Found = FirstOf (λ p. connects G (along p)) G.links

  found_first : (p : List ℕ) → Found (some p) → First G p
  found_first p ((l, d), e, least) = record {
    admissible = record { assigns = record { sized = l; directions = d }; strong = (connects_iff F (along p)).0 e };
    least = λ q a. least q (a.assigns.sized, a.assigns.directions) ((connects_iff F (along q)).1 a.strong);
  }

  pub plan_iff : (p : List ℕ) → (plan G ≡ some p) ↔ First G p
  unfolding plan
  plan_iff p = (λ e. found_first p (rw e at found), λ g. by_found g (plan G) found)
    where
      found : Found (plan G)
      found = search_is G.links (λ p. connects G (along p))

      by_found : First G p → (r : Option (List ℕ)) → Found r → r ≡ some p
      by_found g (some q) o = ap some (first_unique q p (found_first q o) g)
      by_found g none o =
          let a = g.admissible in
          clash ((connects_iff F (along p)).1 a.strong) (o p (a.assigns.sized, a.assigns.directions))
