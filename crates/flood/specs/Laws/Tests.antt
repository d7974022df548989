-- What each test of Machine.antt says of the states, and what an offer makes of each state. A test made of others says what they say together. Assumes nothing.
use Rattle.std.specs.Prelude.{ℕ, ◌<◌, ◌≡◌, ◌≢◌, ◌⊎◌, ◌↔◌, Bool, true, false, cond, List, length}
use Rattle.std.proofs.Common.{sym, ◌∙◌, inl, inr, arith}
use Rattle.std.proofs.Math.Logic.{⊎_elim}
use Rattle.std.proofs.Math.Decide.{dec_lt}
use Rattle.std.proofs.Math.ListN.{get_or-eq_default}
use Rattle.scan.specs.Test.{branch, Says, lt_says, eq_says, not_says, and_says, or_says, denies}
use Rattle.scan.specs.Total.{count-any}
use Rattle.scan.specs.Entry.{at}
use Rattle.scan.specs.Lowest.{lowest, any, any_says, lowest_is}
use Rattle.scan.specs.Sweep.{length-sweep, at-sweep}
use Rattle.flood.specs.Digraph.{Digraph, Failure}
use Rattle.flood.specs.Machine.{Flood, under_way, live, offer, leaves, opens, holds, feeds, first, some, at_rest, accepts, activity}

-- ---- a state

pub under_way_says : (v : ℕ) → Says (under_way v) ((v ≡ 1) ⊎ (v ≡ 3))
unfolding under_way
under_way_says v = or_says (eq_says v 1) (eq_says v 3)

live_says : (v : ℕ) → Says (live v) ((0 < v) × (v < 4))
unfolding live
live_says v = and_says (lt_says 0 v) (lt_says v 4)

-- ---- an offer

pub length-offer : (p : ℕ → ℕ → Bool) (l : List ℕ) → length (offer p l) ≡ length l
unfolding offer
length-offer p l = length-sweep (λ i v. cond (p i v) 1 v) l

-- a link that passes becomes offered, and any other stays as it is
pub at-offer : (p : ℕ → ℕ → Bool) (l : List ℕ) (i : ℕ) → (p i (at l i) ≡ true → i < length l) → at (offer p l) i ≡ cond (p i (at l i)) 1 (at l i)
unfolding offer
at-offer p l i h = go (dec_lt i (length l))
  where
    go : Dec (i < length l) → at (offer p l) i ≡ cond (p i (at l i)) 1 (at l i)
    go (yes b) = at-sweep (λ i v. cond (p i v) 1 v) l i b
    go (no b) =
        get_or-eq_default (offer p l) 0 (omega (arith, length-offer p l))
        ∙ branch (λ (w : ℕ). 0 ≡ w) (p i (at l i)) (λ t. absurd (b (h t))) (λ t. sym (get_or-eq_default l 0 (omega arith)))

module _ (g : Digraph) where
  open g use {links, tail, head}

  -- a link is taken into v
  abbrev pub Into : (ℕ → ℕ) → ℕ → Type 0
  Into S v = (m : ℕ) × (m < links) × (S m ≡ 2) × (head m ≡ v)

  -- a link out of v is offered, taken or refused
  abbrev pub OutOf : (ℕ → ℕ) → ℕ → Type 0
  OutOf S v = (i : ℕ) × (i < links) × (tail i ≡ v) × (0 < S i) × (S i < 4)

  -- no link is under way
  abbrev pub Rests : (ℕ → ℕ) → Type 0
  Rests S = (i : ℕ) → i < links → (S i ≢ 1) × (S i ≢ 3)

  -- ---- a link and its state

  pub holds_says : (a i v : ℕ) → Says (holds g a i v) ((tail i ≡ a) × ((0 < v) × (v < 4)))
  unfolding holds
  holds_says a i v = and_says (eq_says (tail i) a) (live_says v)

  pub feeds_says : (a i v : ℕ) → Says (feeds g a i v) ((head i ≡ a) × (v ≡ 2))
  unfolding feeds
  feeds_says a i v = and_says (eq_says (head i) a) (eq_says v 2)

  pub accepts_says : (j : ℕ) (f : Flood) → Says (accepts g j f) ((j < links) × ((at f.states j ≡ 1) ⊎ (at f.states j ≡ 3)))
  unfolding accepts
  accepts_says j f = and_says (lt_says j links) (under_way_says (at f.states j))

  -- ---- all links

  pub some_says : (p : ℕ → ℕ → Bool) (l : List ℕ) → Says (some g p l) ((i : ℕ) × (i < links) × (p i (at l i) ≡ true))
  unfolding some
  some_says p l = any_says (λ i. p i (at l i)) links

  pub first_passes : (p : ℕ → ℕ → Bool) (l : List ℕ) → some g p l ≡ true → (first g p l < links) × (p (first g p l) (at l (first g p l)) ≡ true)
  unfolding some first any
  first_passes p l t = let h = (lt_says (lowest (λ i. p i (at l i)) links) links).0 t in (h, (lowest_is (λ i. p i (at l i)) links).passes h)

  pub some-holds_says : (a : ℕ) (l : List ℕ) → Says (some g (holds g a) l) (OutOf (at l) a)
  some-holds_says a l =
      let s = some_says (holds g a) l in (
        λ t. let (i, h, e) = s.0 t in let (w, (p, q)) = (holds_says a i (at l i)).0 e in (i, h, w, p, q),
        λ (i, h, e, p, q). s.1 (i, h, (holds_says a i (at l i)).1 (e, (p, q))),
      )

  pub some-feeds_says : (a : ℕ) (l : List ℕ) → Says (some g (feeds g a) l) (Into (at l) a)
  some-feeds_says a l =
      let s = some_says (feeds g a) l in (
        λ t. let (i, h, e) = s.0 t in let (w, z) = (feeds_says a i (at l i)).0 e in (i, h, z, w),
        λ (i, h, z, e). s.1 (i, h, (feeds_says a i (at l i)).1 (e, z)),
      )

  pub at-rest_says : (f : Flood) → Says (at_rest g f) (Rests (at f.states))
  unfolding at_rest
  at-rest_says f =
      let s = denies (some_says (λ i. under_way) f.states) in (
        λ t i l. (λ e. s.0 t (i, l, (under_way_says _).1 (inl e)), λ e. s.0 t (i, l, (under_way_says _).1 (inr e))),
        λ h. s.1 (λ (i, l, u). ⊎_elim (h i l).0 (h i l).1 ((under_way_says _).0 u)),
      )

  pub at-rest-activity : (f : Flood) → (at_rest g f ≡ true) ↔ (activity g f ≡ 0)
  unfolding activity at_rest some
  at-rest-activity f = rw (← count-any (λ i. under_way (at f.states i)) links) (eq_says _ 0)

module _ (g : Digraph) (c : Failure) where
  open g use {links, tail}
  open c use {target, blocked}

  -- link i leaves a and may be offered
  abbrev pub Leaves : ℕ → ℕ → Type 0
  Leaves a i = (i < links) × ((tail i ≡ a) × (blocked i ≡ false))

  -- link i leaves b, which is not the target, may be offered, and is quiet
  abbrev pub Opens : (ℕ → ℕ) → ℕ → ℕ → Type 0
  Opens S b i = (b ≢ target) × (i < links) × (tail i ≡ b) × (blocked i ≡ false) × (S i ≡ 0)

  pub leaves_says : (a i : ℕ) → Says (leaves g c a i) (Leaves a i)
  unfolding leaves
  leaves_says a i = and_says (lt_says i links) (and_says (eq_says (tail i) a) (not_says (blocked i)))

  pub opens_says : (a i v : ℕ) → Says (opens g c a i v) (Leaves a i × (v ≡ 0))
  unfolding opens
  opens_says a i v = and_says (leaves_says a i) (eq_says v 0)

  pub some-opens_says : (b : ℕ) (l : List ℕ) → b ≢ target → Says (some g (opens g c b) l) ((i : ℕ) × Opens (at l) b i)
  some-opens_says b l n =
      let s = some_says g (opens g c b) l in (
        λ t. let (i, h, e) = s.0 t in let (w, z) = (opens_says b i (at l i)).0 e in (i, (n, h, w.1.0, w.1.1, z)),
        λ (i, o). s.1 (i, o.1, (opens_says b i (at l i)).1 ((o.1, (o.2, o.3)), o.4)),
      )
