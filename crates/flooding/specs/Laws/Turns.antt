-- The loop of a run on both wavelengths that may make a deliveries from p₀, with the lowest links under way found: which delivery is the next, before the
-- loop, one turn, and its two ends. It stands at p with m deliveries made. Assumes nothing.
use Rattle.std.specs.Prelude.{ℕ, suc, ◌+◌, ◌-◌, ◌<◌, ◌≤◌, ◌≡◌, ◌⊎◌, Bool, true, false, ◌&&◌, ◌||◌, List, ltb, leb}
use Rattle.std.proofs.Math.Path.{sym}
use Rattle.std.proofs.Common.{ap, ◌∙◌, inl, inr, ⊎_elim}
use Rattle.std.proofs.Math.Decide.{dec_lt}
use Rattle.std.proofs.Math.Logic.Iff
use native.Mathlib.Omega.{arith}
use borrow.Author.Tests.{lt-leb}
use Rattle.scan.specs.Test.{Says, clash, fails, failing, lt_says, le_says, and_says, or_says, leb-not}
use Rattle.scan.specs.Lowest.{any, lowest, lowest_is, None}
use Rattle.flood.specs.Digraph.{Digraph, Failure}
use Rattle.flood.specs.declared.Flood.{Flood}
use Rattle.flood.specs.Machine as machine
use Rattle.flood.specs.Lent.{busy, busy_from}
use Rattle.flood.specs.Laws.Run as own
use Rattle.wavelengths.specs.declared.Floods.{Floods}
use Rattle.wavelengths.specs.declared.Wavelength.{Wavelength}
use Rattle.wavelengths.specs.declared.Wavelength.TheVariants.{First, Second}
use Rattle.wavelengths.specs.Wavelength.{each, put, pair}
use Rattle.wavelengths.specs.Merge as merge
use Rattle.wavelengths.specs.Merge.{Turn, turn, Ran, at_rest, next, run}
use Rattle.wavelengths.proofs.Laws.Next.{either, next-first, next_second}
use Rattle.wavelengths.proofs.Laws.Run.{run_stop, run_step}
use Rattle.searches.specs.Laws.Loops.{lowest_onward}
use Rattle.delivery.specs.Moved.{Moved}
use Rattle.flooding.specs.Ended.{Ended, Turned}

-- ---- the lowest link under way of one flood

-- below it none is
lowest_clear : (l : List ℕ) (n k : ℕ) → k ≡ lowest (busy l) n → None (busy l) k
lowest_clear l n k e i h = (lowest_is (busy l) n).before i (omega arith)

-- after a delivery on it the next search may start where the delivery says
pub turned : {links : ℕ} {states : List ℕ} {k from r : ℕ} {got to : Flood} → Moved states k got to from → r ≡ lowest (busy_from got.states from) links
    → Turned links states k got to r
turned {links} {states} {k} {got = got} d e =
    record { same = d.same; next = λ lowest-was. e ∙ lowest_onward (busy got.states) links (d.clear (lowest_clear states links k lowest-was)) }

module _ (g : Digraph) (f : Flood) (k : ℕ) (e : k ≡ lowest (busy f.states) g.links) where
  -- there is one unless the flood rests
  rest-own : leb g.links k ≡ machine.at_rest g f
  unfolding machine.at_rest machine.some any
  rest-own = rw (← e) (leb-not g.links k)

  -- a delivery on it is accepted, and on none below; where there is none, on no link
  accepts-own : k < g.links → machine.accepts g k f ≡ true
  unfolding machine.first
  accepts-own l = rw e (own.next-accepted g f (sym rest-own ∙ lt-leb g.links k l))

  refuses_below : (i : ℕ) → (i < k) ⊎ (g.links ≤ k) → machine.accepts g i f ≡ false
  unfolding machine.accepts
  refuses_below i h =
      failing (and_says (lt_says i g.links) Iff.rfl)
      (λ (l, t). clash t (lowest_clear f.states g.links k e i (⊎_elim (λ b. b) (λ b. omega arith) h)))

-- ---- the lowest links under way of both

-- two floods each of which is another
pub pair_is : {f f' h h' : Flood} → f ≡ f' → h ≡ h' → pair f h ≡ pair f' h'
pair_is e d = λ i. pair (e i) (d i)

-- a run with m deliveries more
abbrev more : ℕ → Ran → Ran
more m r = record { floods = r.floods; made = m + r.made }

made_is : (p : Floods) (m n : ℕ) → m ≡ n → ◌≡◌ {A = Ran} (record { floods = p; made = m }) (record { floods = p; made = n })
made_is p m n e = ap (λ (k : ℕ). record { floods = p; made = k }) e

module _ (g₁ g₂ : Digraph) where
  abbrev g : Wavelength → Digraph
  g = each g₁ g₂

  -- j is that on wavelength 1, k that on wavelength 2
  pub record Lowest (p : Floods) (j k : ℕ) : Type 0 where
    pub first : j ≡ lowest (busy p.first.states) g₁.links
    pub second : k ≡ lowest (busy p.second.states) g₂.links

  -- whether the next delivery is on wavelength 1
  abbrev pub on_first : ℕ → ℕ → Bool
  on_first j k = ltb j g₁.links && (leb j k || leb g₂.links k)

  on-first-says : (j k : ℕ) → Says (on_first j k) ((j < g₁.links) × ((j ≤ k) ⊎ (g₂.links ≤ k)))
  on-first-says j k = and_says (lt_says j g₁.links) (or_says (le_says j k) (le_says g₂.links k))

  module _ {p : Floods} {j k : ℕ} (low : Lowest p j k) where
    -- both floods rest where neither has one
    rest_is : (leb g₁.links j && leb g₂.links k) ≡ at_rest g p
    unfolding at_rest
    rest_is = rw (rest-own g₁ p.first j low.first, rest-own g₂ p.second k low.second)

    moving : (g₁.links ≤ j → g₂.links ≤ k → ⊥) → at_rest g p ≡ false
    moving n = sym rest_is ∙ failing (and_says (le_says g₁.links j) (le_says g₂.links k)) (λ (a, b). n a b)

    none_below : (i : ℕ) → (i < j) ⊎ (g₁.links ≤ j) → (i < k) ⊎ (g₂.links ≤ k) → either g p i ≡ false
    unfolding merge.busy
    none_below i a b = rw (refuses_below g₁ p.first j low.first i a, refuses_below g₂ p.second k low.second i b)

    -- the lower is the next, that on wavelength 1 where they are the same
    record Next (t : Turn) : Type 0 where
      moves : at_rest g p ≡ false
      is : next g p ≡ t

    next_lower : on_first j k ≡ true → Next (turn j First)
    unfolding merge.busy
    next_lower t =
        let (l, h) = (on-first-says j k).0 t in
        record {
          moves = moving (λ a b. omega arith);
          is = next-first g p j (accepts-own g₁ p.first j low.first l) (λ i b. none_below i (inl b) (⊎_elim (λ e. inl (omega arith)) (λ e. inr e) h));
        }

    -- where it is not on wavelength 1, each link of wavelength 1 under way is above that of wavelength 2
    above : on_first j k ≡ false → k < g₂.links → (k < j) ⊎ (g₁.links ≤ j)
    above e l = elim (dec_lt j g₁.links) [
      | yes b ↦ elim (dec_lt k j) [ yes h ↦ inl h | no h ↦ absurd (fails (on-first-says j k) e (b, inl (omega arith))) ]
      | no b ↦ inr (omega arith)
    ]

    next_higher : on_first j k ≡ false → k < g₂.links → Next (turn k Second)
    unfolding merge.busy
    next_higher e l =
        let h = above e l in
        record {
          moves = moving (λ a b. omega arith);
          is = next_second g p k (refuses_below g₁ p.first j low.first k h) (accepts-own g₂ p.second k low.second l) (λ i b. none_below i (⊎_elim (λ d. inl (omega arith)) (λ d. inr d) h) (inl b));
        }

  -- ---- the run

  module _ (c : Wavelength → Failure) (a : ℕ) (p₀ : Floods) where
    -- what is left of it, and the lowest links under way
    pub record Running (p : Floods) (m j k : ℕ) : Type 0 where
      pub left : run g c a p₀ ≡ more m (run g c (a - m) p)
      pub low : Lowest p j k

    -- before the loop
    pub running_none : {j k : ℕ} → j ≡ lowest (busy p₀.first.states) g₁.links → k ≡ lowest (busy p₀.second.states) g₂.links → Running p₀ 0 j k
    running_none ej ek =
        let e : a ≡ a - 0 = omega arith in
        record { left = rw (← e) (made_is (run g c a p₀).floods _ _ (omega arith)); low = record { first = ej; second = ek } }

    module _ {p : Floods} {m j k : ℕ} (r : Running p m j k) where
      one_more : (t : Turn) → m < a → Next r.low t → run g c a p₀ ≡ more (m + 1) (run g c (a - (m + 1)) (merge.step g c t p))
      one_more t h n =
          let z : a - m ≡ suc (a - (m + 1)) = omega arith in
          r.left ∙ rw (z, run_step g c (a - (m + 1)) p n.moves, n.is) (made_is _ _ _ (omega arith))

      -- one turn on wavelength 1, and one on wavelength 2
      pub running_first : m < a → on_first j k ≡ true → (got : Flood) (i : ℕ) → Turned g₁.links p.first.states j got (machine.step (g First) (c First) j p.first) i
          → (q : Floods) (j' k' : ℕ) → q ≡ put First got p → j' ≡ i → k' ≡ k → Running q (m + 1) j' k'
      unfolding merge.step
      running_first h b got i t q j' k' eq ej ek = rw (eq, ej, ek) (record {
        left = rw t.same (one_more (turn j First) h (next_lower r.low b));
        low = record { first = t.next r.low.first; second = r.low.second };
      })

      pub running_second : m < a → on_first j k ≡ false → k < g₂.links → (got : Flood) (i : ℕ) → Turned g₂.links p.second.states k got (machine.step (g Second) (c Second) k p.second) i
          → (q : Floods) (j' k' : ℕ) → q ≡ put Second got p → j' ≡ j → k' ≡ i → Running q (m + 1) j' k'
      unfolding merge.step
      running_second h b l got i t q j' k' eq ej ek = rw (eq, ej, ek) (record {
        left = rw t.same (one_more (turn k Second) h (next_higher r.low b l));
        low = record { first = r.low.first; second = t.next r.low.second };
      })

      -- nothing is under way
      pub ended-rest : on_first j k ≡ false → g₂.links ≤ k → Ended g c a p₀ p m true
      ended-rest e l =
          let none : g₁.links ≤ j = elim (dec_lt j g₁.links) [ yes b ↦ absurd (fails (on-first-says j k) e (b, inr l)) | no b ↦ omega arith ] in
          let still : true ≡ at_rest g p = sym ((and_says (le_says g₁.links j) (le_says g₂.links k)).1 (none, l)) ∙ rest_is r.low in
          record { same = rw (run_stop g c (a - m) p (sym still)) (made_is p _ _ (omega arith)) ∙ sym r.left; rests = still }

      -- the allowance is used
      pub ended_used : a ≤ m → (rest : Bool) → rest ≡ (leb g₁.links j && leb g₂.links k) → Ended g c a p₀ p m rest
      unfolding run merge.order merge.play merge.accepted
      ended_used h rest e = record {
        same = (let z : a - m ≡ 0 = omega arith in rw z (made_is p _ _ (omega arith))) ∙ sym r.left;
        rests = e ∙ rest_is r.low;
      }

      -- and it was all
      pub ended-all : m ≡ a → (rest : Bool) → rest ≡ (leb g₁.links j && leb g₂.links k) → Ended g c a p₀ p a rest
      unfolding run merge.order merge.play merge.accepted
      ended-all h rest e = record {
        same = (let z : a - m ≡ 0 = omega arith in rw z (made_is p _ _ (omega arith))) ∙ sym r.left;
        rests = e ∙ rest_is r.low;
      }
