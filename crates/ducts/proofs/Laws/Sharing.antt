-- The links that share a duct are what 02 says: exactly those, rising, the same for each link of the duct, and a link without one alone. Assumes nothing.
use Rattle.std.specs.Prelude.{ℕ, ◌<◌, ◌≤◌, ◌≡◌, refl, ◌≢◌, length}
use Rattle.std.proofs.Common.{sym, ap, ◌∙◌, inl, inr, ⊎_elim}
use mathlib.Core.List.{[], ◌∷◌, Memᴰ}
use Rattle.scan.specs.Test.{Says, eq_says, and_says, or_says, denies, failing, says_same}
use Rattle.scan.specs.Distinct.{rising_distinct}
use Rattle.scan.specs.Passing.{passing-le, passing-mem, passing_rising, passing_one, passing-same}
use Rattle.mesh.specs.declared.Mesh.{Mesh}
use Rattle.mesh.specs.WellFormed.{duct}
use Rattle.ducts.specs.Sharing.{shares, sharing}
use Rattle.ducts.specs.Meaning.{Shares, Lists}

-- what the test says
shares_says : (m : Mesh) (k i : ℕ) → Says (shares (duct m) k i) (Shares m k i)
shares_says m k i = or_says (eq_says i k) (and_says (denies (eq_says (duct m k) 0)) (eq_says (duct m i) (duct m k)))

-- exactly the links that share it, rising
pub sharing_lists : (m : Mesh) (k : ℕ) → k < m.count → Lists m k (sharing m k)
unfolding sharing
sharing_lists m k h = record {
  rising = passing_rising (shares (duct m) k) m.count;
  once = rising_distinct (sharing m k) (passing_rising (shares (duct m) k) m.count);
  exactly = λ i.
      let mem = passing-mem (shares (duct m) k) m.count i in
      let says = shares_says m k i in
      (λ o. let (l, t) = mem.0 o in (l, says.0 t), λ (l, s). mem.1 (l, says.1 s));
}

-- what shares the duct of i shares that of k, where i lies in the duct of k
along : (m : Mesh) (k i j : ℕ) → duct m k ≢ 0 → duct m i ≡ duct m k → Shares m i j → Shares m k j
along m k i j z e s = inr (z, ⊎_elim (λ q. ap (duct m) q) (λ (y, f). f) s ∙ e)

-- the same list in the same order for every link of the duct
pub sharing-same : (m : Mesh) (k i : ℕ) → k < m.count → Memᴰ i (sharing m k) → sharing m i ≡ sharing m k
unfolding sharing
sharing-same m k i h o =
    ⊎_elim (λ e. ap (sharing m) e)
    (λ (z, e). passing-same (shares (duct m) i) (shares (duct m) k) m.count
    (λ j l. says_same (shares_says m i j) (
      λ t. along m i k j (λ q. z (sym e ∙ q)) (sym e) ((shares_says m k j).0 t),
      λ s. (shares_says m k j).1 (along m k i j z e s),
    )))
    (((sharing_lists m k h).exactly i).0 o).1

-- a link without a duct gives itself only
pub sharing-alone : (m : Mesh) (k : ℕ) → k < m.count → duct m k ≡ 0 → sharing m k ≡ k ∷ []
unfolding sharing
sharing-alone m k h z =
    passing_one (shares (duct m) k) m.count k h
    ((shares_says m k k).1 (inl refl))
    (λ i l n. failing (shares_says m k i) (⊎_elim n (λ (f, e). f z)))

-- no more than there are links
pub sharing_most : (m : Mesh) (k : ℕ) → length (sharing m k) ≤ m.count
unfolding sharing
sharing_most m k = passing-le (shares (duct m) k) m.count
