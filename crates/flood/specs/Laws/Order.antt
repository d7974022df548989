-- How many deliveries of a list are accepted, and the order of a run: all its deliveries are accepted, a run goes on from where a shorter one stopped,
-- and runs that come to rest are the same. Assumes nothing.
use Prim.Native.Nat.{ℕ, zero, suc, ◌+◌, ◌-◌, ◌≤◌}
use Rattle.std.specs.Prelude.{◌≡◌, true, length}
use Rattle.std.proofs.Math.Path.{refl, ap}
use Rattle.std.proofs.Common.{sym, ◌∙◌}
use Rattle.std.proofs.Math.Logic.{⊎_elim}
use mathlib.Core.List.{List, [], ◌∷◌, ◌++◌, append-nil}
use native.Mathlib.Omega.{arith}
use Rattle.std.proofs.Math.Decide.{dec_lt}
use Rattle.scan.specs.Test.{branch, known}
use Rattle.scan.specs.Total.{bit}
use Rattle.flood.specs.Digraph.{Digraph, Failure}
use Rattle.flood.specs.Machine.{Flood, accepts, at_rest, step, play, accepted, order, run}
use Rattle.flood.specs.Laws.Run.{next, next-accepted, order_stop, order-step, run_ends}

module _ (g : Digraph) (c : Failure) where
  -- of any deliveries no more are accepted than there are
  pub accepted_most : (js : List ℕ) (f : Flood) → accepted g c js f ≤ length js
  unfolding accepted
  accepted_most [] f = omega arith
  accepted_most (j ∷ js) f =
      let one : bit (accepts g j f) ≤ 1 = branch (λ (v : ℕ). v ≤ 1) (accepts g j f) (λ t. omega arith) (λ t. omega arith) in
      omega (arith, accepted_most js (step g c j f))

  -- where all are accepted, the first ones are
  pub first-accepted : (earlier later : List ℕ) (f : Flood) → accepted g c (earlier ++ later) f ≡ length (earlier ++ later) → accepted g c earlier f ≡ length earlier
  unfolding accepted
  first-accepted [] later f e = refl
  first-accepted (j ∷ js) later f e =
      let most = accepted_most (js ++ later) (step g c j f) in
      ⊎_elim
      (λ t. omega (arith, ap bit t, first-accepted js later (step g c j f) (omega (arith, ap bit t))))
      (λ t. absurd (omega (arith, ap bit t)))
      (known (accepts g j f))

  -- of a run every one is
  pub order-accepted : (n : ℕ) (f : Flood) → accepted g c (order g c n f) f ≡ length (order g c n f)
  unfolding order accepted
  order-accepted zero f = refl
  order-accepted (suc n) f = ⊎_elim
      (λ r. rw (order_stop g c (suc n) f r))
      (λ r. rw (order-step g c n f r, next-accepted g f r) (omega (arith, order-accepted n (step g c (next g f) f))))
      (known (at_rest g f))

  pub order-length : (n : ℕ) (f : Flood) → length (order g c n f) ≤ n
  unfolding run
  order-length n f = let (h, _) = run_ends g c n f in omega (arith, order-accepted n f)

  -- a run with m deliveries more
  pub order-more : (n m k : ℕ) (f : Flood) → n + m ≡ k → order g c k f ≡ order g c n f ++ order g c m (play g c (order g c n f) f)
  unfolding order play
  order-more zero m k f e = let z : k ≡ m = omega arith in rw z
  order-more (suc n) m zero f e = absurd (omega arith)
  order-more (suc n) m (suc k) f e = ⊎_elim
      (λ r. rw (order_stop g c (suc k) f r, order_stop g c (suc n) f r, order_stop g c m f r))
      (λ r. rw (order-step g c k f r, order-step g c n f r) (ap (λ (js : List ℕ). next g f ∷ js) (order-more n m k (step g c (next g f) f) (omega arith))))
      (known (at_rest g f))

  -- one that may make more than one that comes to rest makes the same
  pub order-rest : (n k : ℕ) (f : Flood) → at_rest g (run g c n f).flood ≡ true → n ≤ k → order g c k f ≡ order g c n f
  unfolding run
  order-rest n k f r h = order-more n (k - n) k f (omega arith) ∙ rw (order_stop g c (k - n) (play g c (order g c n f) f) r) (append-nil (order g c n f))

  pub order_same : (n k : ℕ) (f : Flood) → at_rest g (run g c n f).flood ≡ true → at_rest g (run g c k f).flood ≡ true → order g c k f ≡ order g c n f
  order_same n k f r s = elim (dec_lt k n) [ yes h ↦ sym (order-rest k n f s (omega arith)) | no h ↦ order-rest n k f r (omega arith) ]
