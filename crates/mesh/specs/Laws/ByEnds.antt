-- Two accepted meshes with the same ends have the same ends at every index, since past the last link both have the zero link. Assumes nothing.
use Rattle.std.specs.Prelude.{ℕ, ◌<◌, ◌≡◌}
use Rattle.std.proofs.Common.{sym, ◌∙◌, ap, arith}
use Rattle.std.proofs.Math.Decide.{dec_lt}
use Rattle.mesh.specs.declared.Link.{Link}
use Rattle.mesh.specs.declared.Mesh.{Mesh}
use Rattle.mesh.specs.Answer.{Accepted}
use Rattle.mesh.specs.Mesh.{mesh_answer}
use Rattle.mesh.specs.WellFormed.{link, SameEnds}
use Rattle.mesh.specs.Laws.Checked.{sound}

module _ (m m' : Mesh) (same : SameEnds m m') (e : mesh_answer m ≡ Accepted) (e' : mesh_answer m' ≡ Accepted) where
  everywhere : (f : Link → ℕ) → ((i : ℕ) → i < m.count → f (link m i) ≡ f (link m' i)) → (i : ℕ) → f (link m i) ≡ f (link m' i)
  everywhere f h i = elim (dec_lt i m.count) [
    | yes l ↦ h i l
    | no l ↦ ap f ((sound m e).zeros i (omega arith) ∙ sym ((sound m' e').zeros i (omega (arith, same.count))))
  ]

  pub same_low : (i : ℕ) → (link m i).low ≡ (link m' i).low
  same_low = everywhere (λ l. l.low) same.low

  pub same_high : (i : ℕ) → (link m i).high ≡ (link m' i).high
  same_high = everywhere (λ l. l.high) same.high
