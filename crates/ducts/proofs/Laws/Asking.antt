-- What the test of a link and the query by duct give on each way out of them. Serves the proof of `sharing`. Assumes nothing.
use Rattle.std.specs.Prelude.{ℕ, ◌<◌, ◌≤◌, ◌≡◌, ◌≢◌, true, false, List, ◌++◌, drop, eqb, length}
use Rattle.std.proofs.Math.Path.{sym}
use Rattle.std.proofs.Common.{◌∙◌}
use borrow.Author.Tests.{lt-ltb, le-ltb, le-leb, lt-leb, eq-eqb, ne_eqb}
use Rattle.mesh.specs.declared.Mesh.{Mesh}
use Rattle.mesh.specs.Answer.{Answer, Accepted, Refused}
use Rattle.mesh.specs.Mesh.{mesh_answer}
use Rattle.ducts.specs.declared.Shared.{Shared}
use Rattle.ducts.specs.Sharing.{shares, sharing, sharing_answer, shared_as, shared, output_after}

-- ---- the test

module _ (ducts : ℕ → ℕ) (k i : ℕ) where
  -- it is the named link
  pub shares_itself : i ≡ k → true ≡ shares ducts k i
  shares_itself e = rw (eq-eqb i k e)

  -- the named link has no duct
  pub shares_none : i ≢ k → ducts k ≡ 0 → false ≡ shares ducts k i
  shares_none n z = rw (ne_eqb i k n, eq-eqb (ducts k) 0 z)

  -- it has one
  pub shares-duct : i ≢ k → ducts k ≢ 0 → eqb (ducts i) (ducts k) ≡ shares ducts k i
  shares-duct n z = rw (ne_eqb i k n, ne_eqb (ducts k) 0 z)

-- ---- the query

-- the result r and the output `after` are what asking for the links of link k's duct gives
abbrev pub Gives : Mesh → ℕ → List ℕ → Shared → List ℕ → Type 0
Gives m k out r after = (r ≡ shared m k (length out)) × (after ≡ output_after m k out)

module _ (m : Mesh) (k : ℕ) (out : List ℕ) where
  -- the mesh is refused
  pub gives-mesh : (a : Answer) {number place : ℕ} → a ≡ mesh_answer m → a ≡ Refused number place
      → Gives m k out (record { count = 0; answer = a }) out
  unfolding shared output_after sharing_answer
  gives-mesh a {number} {place} e r = let h : mesh_answer m ≡ Refused number place = sym e ∙ r in (rw (h, r), rw h)

  module _ (h : mesh_answer m ≡ Accepted) where
    -- there is no such link
    pub gives_no_link : (r : Shared) → m.count ≤ k → r ≡ shared_as (Refused 12 k) 0 → Gives m k out r out
    unfolding shared output_after sharing_answer
    gives_no_link r l e = (e ∙ rw (h, le-ltb k m.count l), rw (h, le-ltb k m.count l))

    -- there are n to list
    module _ (l : k < m.count) (n : ℕ) (q : n ≡ length (sharing m k)) where
      pub gives_short : (r : Shared) → length out < n → r ≡ shared_as (Refused 11 n) 0 → Gives m k out r out
      unfolding shared output_after sharing_answer
      gives_short r s e =
          let short = lt-leb _ _ (rw q at s) in
          (e ∙ rw (h, lt-ltb k m.count l, short, q), rw (h, lt-ltb k m.count l, short))

      pub gives_all : n ≤ length out → {after : List ℕ} → after ≡ sharing m k ++ drop (length (sharing m k)) out
          → Gives m k out (record { count = n; answer = Accepted }) after
      unfolding shared output_after sharing_answer
      gives_all s o =
          let fits = le-leb _ _ (rw q at s) in
          (rw (h, lt-ltb k m.count l, fits, q), o ∙ rw (h, lt-ltb k m.count l, fits))
