-- Each way through a delivery: what the code has found on that way gives what the machine says. Assumes nothing.
use Rattle.std.specs.Prelude.{ℕ, ◌<◌, ◌≤◌, ◌≡◌, refl, Bool, true, false, cond, not, ◌&&◌, List, eqb, set}
use Rattle.std.proofs.Math.Path.{sym, ap}
use Rattle.std.proofs.Common.{◌∙◌, ⊎_elim, arith}
use Rattle.std.proofs.Math.Bool.{not-not, and_assoc}
use Rattle.std.proofs.Math.Decide.{ℕ_discrete, dec_lt}
use Rattle.std.proofs.Math.Dec.{ltb}
use Rattle.std.proofs.Math.Seq.{get_or-set_other}
use borrow.Author.Tests.{lt-ltb, le-ltb, eq-eqb, ne_eqb}
use Rattle.scan.specs.Test.{known}
use Rattle.scan.specs.Entry.{at, has}
use Rattle.scan.specs.Lowest.{any, lowest, any_fails, any_same, None}
use Rattle.scan.specs.Sweep.{sweep_to, sweep_is, length-sweep, at-sweep}
use Rattle.flood.specs.Digraph.{Digraph, Failure}
use Rattle.flood.specs.declared.Flood.{Flood}
use Rattle.flood.specs.Machine.{under_way, offer, holds, feeds, first, some, accepts, leaves, opens, arrive, retreat, withdraw, step, begin}
use Rattle.flood.specs.Lent.{graph, failure, flood, held, taken, busy, leaving, opening}
use Rattle.delivery.specs.Moved.{Moved}

-- ---- offers

-- a link whose start is its tail, and whose tail is a, has both at a
same_end : (t s a : ℕ) → (eqb t a && not (not (eqb s t))) ≡ (eqb t a && eqb s a)
same_end t s a = elim (ℕ_discrete t a) [ yes e ↦ rw (e, not-not) | no n ↦ rw (ne_eqb t a n) ]

-- a pass over the links below n offers those that pass and are below n
pass_offers : (q p : ℕ → ℕ → Bool) (n : ℕ) (l : List ℕ) → ((i v : ℕ) → p i v ≡ (ltb i n && q i v)) → sweep_to (λ i v. cond (q i v) 1 v) n l ≡ offer p l
unfolding offer
pass_offers q p n l h =
    sweep_is (λ i v. cond (p i v) 1 v) l (sweep_to (λ i v. cond (q i v) 1 v) n l) (length-sweep (λ i v. cond (ltb i n) (cond (q i v) 1 v) v) l)
    (λ i b. at-sweep (λ i v. cond (ltb i n) (cond (q i v) 1 v) v) l i b ∙ rw (h i (at l i)) (⊎_elim (λ t. rw t) (λ t. rw t) (known (ltb i n))))

-- where none passes, none is offered
none_offered_lem : (p : ℕ → ℕ → Bool) (n : ℕ) (l : List ℕ) → any (λ i. p i (at l i)) n ≡ false → sweep_to (λ i v. cond (p i v) 1 v) n l ≡ l
none_offered_lem p n l e =
    sym (sweep_is (λ i v. cond (ltb i n) (cond (p i v) 1 v) v) l l refl
    (λ i b. elim (dec_lt i n) [ yes h ↦ rw (lt-ltb i n h, any_fails (λ i. p i (at l i)) n e i h) | no h ↦ rw (le-ltb i n (omega arith)) ]))

-- a store at k leaves what is below it
clear_set : (l : List ℕ) (k v : ℕ) → None (busy l) k → None (busy (set l k v)) k
clear_set l k v h i b = rw (get_or-set_other l k i v 0 (λ e. omega arith)) (h i b)

module _ (n : ℕ) (T H S : List ℕ) (links x y : ℕ) (l : List ℕ) (w : List Bool) where
  abbrev g : Digraph
  g = graph n T H links

  abbrev c : Failure
  c = failure T S x y

  abbrev f : Flood
  f = flood l w

  leaves_is : (a i : ℕ) → leaves g c a i ≡ (ltb i links && leaving T S a i)
  unfolding leaves
  leaves_is a i = ap (λ (t : Bool). ltb i links && t) (same_end (at T i) (at S i) a)

  opens_is : (a i v : ℕ) → opens g c a i v ≡ (ltb i links && opening T S a i v)
  unfolding opens
  opens_is a i v = rw (leaves_is a i, and_assoc (ltb i links) (leaving T S a i) (eqb v 0))

  -- the failure
  pub begin_is : (s : List ℕ) (m : List Bool) → s ≡ sweep_to (λ i v. cond (leaving T S x i) 1 v) links l → m ≡ set w x true
      → flood s m ≡ begin g c f
  unfolding begin
  begin_is s m es em = rw (es, em, pass_offers (λ i v. leaving T S x i) (λ i v. leaves g c x i) links l (λ i v. leaves_is x i))

  module _ (k : ℕ) where
    -- ---- on an offered link

    -- its head is reached already
    pub arrive-back : has w (at H k) ≡ true → Moved l k (flood (set l k 3) w) (arrive g c k f) k
    unfolding arrive
    arrive-back e = record { same = rw e; low = omega arith; clear = clear_set l k 3 }

    module _ (e : has w (at H k) ≡ false) (m : List Bool) (em : m ≡ set w (at H k) true) where
      -- its head is the target
      pub arrive_last : at H k ≡ y → Moved l k (flood (set l k 2) m) (arrive g c k f) k
      unfolding arrive
      arrive_last d = record { same = rw (em, e, eq-eqb (at H k) y d); low = omega arith; clear = clear_set l k 2 }

      module _ (d : at H k ≡ y → ⊥) (s : List ℕ) (es : s ≡ sweep_to (λ i v. cond (opening T S (at H k) i v) 1 v) links l) (t : Bool)
          (et : t ≡ any (λ i. opening T S (at H k) i (at l i)) links) where
        some-opens : some g (opens g c (at H k)) l ≡ t
        unfolding some
        some-opens =
            any_same (λ i. opens g c (at H k) i (at l i)) (λ i. opening T S (at H k) i (at l i)) links
            (λ i h. rw (opens_is (at H k) i (at l i), lt-ltb i links h)) ∙ sym et

        -- it has links to offer
        pub arrive-on : t ≡ true → Moved l k (flood (set s k 2) m) (arrive g c k f) 0
        unfolding arrive
        arrive-on q = record {
          same = rw (
            em,
            es,
            pass_offers (opening T S (at H k)) (opens g c (at H k)) links l (opens_is (at H k)),
            e,
            ne_eqb (at H k) y d,
            some-opens,
            q,
          );
          low = omega arith;
          clear = λ b i h. absurd (omega arith);
        }

        -- it has none
        pub arrive_stuck : t ≡ false → Moved l k (flood (set s k 3) m) (arrive g c k f) k
        unfolding arrive
        arrive_stuck q =
            let kept : s ≡ l = es ∙ none_offered_lem (opening T S (at H k)) links l (sym et ∙ q) in
            record { same = rw (em, kept, e, ne_eqb (at H k) y d, some-opens, q); low = omega arith; clear = λ b. rw kept (clear_set l k 3 b) }

    -- ---- on a refused link

    -- it leaves the source
    pub withdraw_source : at T k ≡ x → Moved l k (flood (set l k 4) w) (withdraw g c k f) k
    unfolding withdraw retreat
    withdraw_source e = record { same = rw (eq-eqb (at T k) x e); low = omega arith; clear = clear_set l k 4 }

    module _ (e : at T k ≡ x → ⊥) (t : Bool) (et : t ≡ any (held T (set l k 4) (at T k)) links) where
      -- its tail is held
      pub withdraw-held : t ≡ true → Moved l k (flood (set l k 4) w) (withdraw g c k f) k
      unfolding withdraw retreat some holds
      withdraw-held q = record { same = rw (ne_eqb (at T k) x e, ← et, q); low = omega arith; clear = clear_set l k 4 }

      module _ (q : t ≡ false) (j : ℕ) (ej : j ≡ lowest (taken H (set l k 4) (at T k)) links) where
        -- link j led there
        pub withdraw-on : (r : ℕ) → j < links → (r ≤ j) × (r ≤ k)
            → Moved l k (flood (set (set l k 4) j 3) w) (withdraw g c k f) r
        unfolding withdraw retreat some holds feeds first any
        withdraw-on r h b = record {
          same = rw (ne_eqb (at T k) x e, ← et, q, ← ej, lt-ltb j links h);
          low = b.1;
          clear = λ o i m. rw (get_or-set_other (set l k 4) j i 3 0 (λ d. omega arith), get_or-set_other l k i 4 0 (λ d. omega arith)) (o i (omega arith));
        }

        -- none did
        pub withdraw_last : links ≤ j → Moved l k (flood (set l k 4) w) (withdraw g c k f) k
        unfolding withdraw retreat some holds feeds first any
        withdraw_last h = record { same = rw (ne_eqb (at T k) x e, ← et, q, ← ej, le-ltb j links h); low = omega arith; clear = clear_set l k 4 }

    -- ---- by the link's state

    -- past the last link
    pub step_past : links ≤ k → Moved l k f (step g c k f) k
    unfolding step accepts
    step_past h = record { same = rw (le-ltb k links h); low = omega arith; clear = λ b. b }

    module _ (h : k < links) where
      pub step-offered : (got : Flood) (r : ℕ) → at l k ≡ 1 → Moved l k got (arrive g c k f) r
          → Moved l k got (step g c k f) r
      unfolding step accepts under_way
      step-offered got r e m = rw (lt-ltb k links h, e) m

      pub step-refused : (got : Flood) (r : ℕ) → at l k ≡ 3 → Moved l k got (withdraw g c k f) r
          → Moved l k got (step g c k f) r
      unfolding step accepts under_way
      step-refused got r e m = rw (lt-ltb k links h, e) m

      pub step_idle : (at l k ≡ 1 → ⊥) → (at l k ≡ 3 → ⊥) → Moved l k f (step g c k f) k
      unfolding step accepts under_way
      step_idle a b = record { same = rw (lt-ltb k links h, ne_eqb (at l k) 1 a, ne_eqb (at l k) 3 b); low = omega arith; clear = λ b. b }
