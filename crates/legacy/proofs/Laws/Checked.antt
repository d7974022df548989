-- The mesh checks of an old mesh are those of the mesh of now, whose links have the same fields and no duct. Assumes the ranges of that mesh's fields, which
-- its types ensure.
use Rattle.std.specs.Prelude.{ℕ, ◌≤◌, ◌≡◌, refl, true, ◌||◌, ltb, eqb, length}
use Rattle.std.proofs.Common.{sym, ◌∙◌, arith, lt-ltb, le-ltb}
use Rattle.std.proofs.Math.Path.{ap, subst}
use Rattle.std.proofs.Math.Bool.{and-eq-true_iff}
use Rattle.std.proofs.Math.Decide.{dec_lt}
use Rattle.std.proofs.lemmas.List.{length-map}
use Rattle.std.proofs.Math.ListN.{get_or-map, get_or-eq_default}
use Rattle.scan.specs.Test.{Says, says_same}
use Rattle.scan.specs.All.{all-drop-each, all_drop}
use Rattle.scan.specs.Entry.{replicate-at}
use Rattle.scan.specs.Fill.{table_of}
use Rattle.scan.specs.Lowest.{every_says}
use Rattle.mesh.specs.declared.Mesh.{Mesh}
use Rattle.mesh.specs.Answer.{Answer}
use Rattle.mesh.specs.Mesh as current
use Rattle.mesh.specs.WellFormed as now
use Rattle.mesh.specs.Parts as parts
use Rattle.mesh.specs.Laws.Parts.{parts-answer}
use Rattle.legacy.specs.declared.OldMesh.{OldMesh}
use Rattle.legacy.specs.Record.{zero_link, link, is_zero, ends_in, rest_zero, mesh_answer}
use Rattle.legacy.specs.WellFormed.{InRange}
use Rattle.legacy.specs.Current.{link_now, mesh_now}

module _ (m : OldMesh) where
  link-same : (i : ℕ) → now.link (mesh_now m) i ≡ link_now (link m i)
  link-same i = get_or-map link_now m.links i zero_link

  ends-same : parts.ends_in (mesh_now m) ≡ ends_in m
  ends-same = λ j. table_of (λ i. parts.ends_of (link-same i j)) m.count

  -- ---- the entries past the last link

  abbrev Zeros : Type 0
  Zeros = (i : ℕ) → m.count ≤ i → is_zero (link m i) ≡ true

  current-says : Says (parts.rest_zero (mesh_now m)) Zeros
  current-says = (
    λ t i h. rw (link-same i) at (all-drop-each current.is_zero current.zero_link (mesh_now m).links m.count refl ((and-eq-true_iff _ _).0 t).0 i h),
    λ z. (and-eq-true_iff _ _).1 (
      all_drop current.is_zero current.zero_link (mesh_now m).links m.count (λ i h. ap current.is_zero (link-same i) ∙ z i h),
      all_drop (λ d. eqb d 0) 0 (mesh_now m).ducts m.count (λ i h. rw (replicate-at {A = ℕ} 256 0 i)),
    ),
  )

  module _ (ranges : now.InRange (mesh_now m)) where
    sized : length m.links ≡ 256
    sized = sym (length-map m.links link_now) ∙ ranges.entries

    old-says : Says (rest_zero m) Zeros
    unfolding rest_zero
    old-says = (
      λ t i h. elim (dec_lt i 256) [
        | yes b ↦ rw (le-ltb i m.count h) at ((every_says (λ i. ltb i m.count || is_zero (link m i)) 256).0 t i b)
        | no b ↦ ap is_zero (get_or-eq_default m.links zero_link {n = i} (omega (arith, sized)))
      ],
      λ z. (every_says (λ i. ltb i m.count || is_zero (link m i)) 256).1 (λ i b. elim (dec_lt i m.count) [
        | yes l ↦ rw (lt-ltb i m.count l)
        | no l ↦ rw (le-ltb i m.count (omega arith)) (z i (omega arith))
      ]),
    )

-- ---- the checks

module _ (m : OldMesh) {n : Mesh} (e : n ≡ mesh_now m) (ranges : now.InRange n) where
  ranges-now : now.InRange (mesh_now m)
  ranges-now = subst now.InRange e ranges

  pub checked : {a : Answer} → a ≡ current.mesh_answer n → a ≡ mesh_answer m
  unfolding mesh_answer
  checked q =
      q ∙ ap current.mesh_answer e ∙ sym (parts-answer (mesh_now m) ranges-now)
      ∙ (λ j. parts.parts_answer m.nodes m.count (says_same (current-says m) (old-says m ranges-now) j) (ends-same m j))

  pub in_range : InRange m
  in_range = record {
    entries = sized m ranges-now;
    links = λ i. let l = rw (link-same m i) at (ranges-now.links i) in record { low = l.low; high = l.high; length = l.length; pair = l.pair };
  }
