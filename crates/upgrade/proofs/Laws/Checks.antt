-- The mesh checks of a mesh from before a change are those of the mesh that it becomes, with its own test of the entries past the last link after them. All
-- that is asked of a carried-over link is that it keeps both ends, and that the zero link stays the zero link; none has a duct. Assumes the ranges of the old
-- mesh's fields, which its types ensure.
use Rattle.std.specs.Prelude.{ℕ, ◌≤◌, ◌≡◌, refl, ◌≢◌, Bool, true, false, ◌||◌, List, ltb, eqb, length, Err}
use Rattle.std.proofs.Common.{sym, ◌∙◌, arith, ltb-false, lt-ltb, le-ltb}
use Rattle.std.proofs.Math.Path.{ap}
use Rattle.std.proofs.Math.Bool.{and-eq-true_iff}
use Rattle.std.proofs.Math.Decide.{dec_lt}
use Rattle.std.proofs.lemmas.List.{length-map}
use Rattle.std.proofs.Math.ListN.{get_or-map, get_or-eq_default}
use Rattle.scan.specs.Test.{clash, fails, or_false, Says, eq_says, and_says}
use Rattle.scan.specs.All.{all_drop}
use Rattle.scan.specs.Entry.{replicate-at}
use Rattle.scan.specs.Lowest.{every_says, every_fails}
use Rattle.scan.specs.Fill.{table_of}
use Rattle.mesh.specs.Answer.{Answer, Accepted, Refused}
use Rattle.mesh.specs.Mesh as current
use Rattle.mesh.specs.Mesh.{must, and_then, nodes_fit, count_fits, mesh_answer}
use Rattle.mesh.specs.WellFormed.{link, duct}
use Rattle.mesh.specs.Parts as parts
use Rattle.mesh.specs.Parts.{ends_in, entries_answer, parts_answer}
use Rattle.mesh.specs.Laws.Answer.{and_then-accepted}
use Rattle.mesh.specs.Laws.Parts.{bytes-answer}
use Rattle.mesh.specs.Laws.Zeros as zeros
use Rattle.legacy.specs.declared.OldLink.{OldLink}
use Rattle.legacy.specs.declared.OldMesh.{OldMesh}
use Rattle.legacy.specs.Record as old
use Rattle.legacy.specs.Record.{zero_link, is_zero, rest_zero}
use Rattle.legacy.specs.WellFormed.{InRange}
use Rattle.upgrade.specs.Carried.{link_of, mesh_of}

-- ---- the links

-- each entry is carried over; the zero link past the end of the list too
pub link-carried : (m : OldMesh) (i : ℕ) → link (mesh_of m) i ≡ link_of (old.link m i)
link-carried m i = get_or-map link_of m.links i zero_link

-- so the ends stay the same
ends-carried : (m : OldMesh) → ends_in (mesh_of m) ≡ old.ends_in m
ends-carried m = λ j. table_of (λ i. parts.ends_of (link-carried m i j)) m.count

-- no entry has a duct
pub no_duct : (m : OldMesh) (i : ℕ) → duct (mesh_of m) i ≡ 0
no_duct m i = replicate-at {A = ℕ} 256 0 i

-- ---- the entries past the last link

zero_says : (l : OldLink) → Says (is_zero l) (l ≡ zero_link)
zero_says l =
    let fields = and_says (and_says (and_says (eq_says l.low 0) (eq_says l.high 0)) (eq_says l.length 0)) (eq_says l.pair 0) in
    (λ t. let (((low, high), length), pair) = fields.0 t in λ j. record { low = low j; high = high j; length = length j; pair = pair j }, λ e. rw e)

-- entry i is a link's, or zero
abbrev rest : OldMesh → ℕ → Bool
rest m i = ltb i m.count || is_zero (old.link m i)

-- where not all are zero, one is not
pub rest_fails : (m : OldMesh) → rest_zero m ≡ false → (i : ℕ) × (m.count ≤ i) × (old.link m i ≢ zero_link)
unfolding rest_zero
rest_fails m e =
    let (i, b, f) = every_fails (rest m) 256 e in
    let (l, z) = or_false (ltb i m.count) (is_zero (old.link m i)) f in
    (i, ltb-false i m.count l, fails (zero_says (old.link m i)) z)

module _ (m : OldMesh) (sized : length m.links ≡ 256) where
  -- all are zero, and what stands past the end of the list is
  pub rest_says : Says (rest_zero m) ((i : ℕ) → m.count ≤ i → old.link m i ≡ zero_link)
  unfolding rest_zero
  rest_says = (
    λ t i h. elim (dec_lt i 256) [
      | yes b ↦ (zero_says (old.link m i)).0 (rw (le-ltb i m.count h) at ((every_says (rest m) 256).0 t i b))
      | no b ↦ get_or-eq_default m.links zero_link {n = i} (omega arith)
    ],
    λ z. (every_says (rest m) 256).1 (λ i b. elim (dec_lt i m.count) [
      | yes l ↦ rw (lt-ltb i m.count l)
      | no l ↦ rw (le-ltb i m.count (omega arith)) ((zero_says (old.link m i)).1 (z i (omega arith)))
    ]),
  )

  -- where they are zero, the entries carried over are
  rest-carried : rest_zero m ≡ true → parts.rest_zero (mesh_of m) ≡ true
  rest-carried t =
      (and-eq-true_iff _ _).1 (
        all_drop current.is_zero current.zero_link (mesh_of m).links m.count
            (λ i h. (zeros.zero_says (link (mesh_of m) i)).1 (link-carried m i ∙ ap link_of (rest_says.0 t i h))),
        all_drop (λ d. eqb d 0) 0 (mesh_of m).ducts m.count (λ i h. rw (no_duct m i)),
      )

-- ---- the checks

-- the checks with a test of these entries are those with another that passes where it does, and then the test
checks_after : (n k : ℕ) (ends : List ℕ) (s r : Bool) → (s ≡ true → r ≡ true) → parts_answer n k s ends ≡ and_then (parts_answer n k r ends) (must s 13 0 Accepted)
unfolding parts_answer
checks_after n k ends = after (nodes_fit n) (count_fits k) (entries_answer n ends 0 k)
  where
    checks : Bool → Bool → Answer → Bool → Answer
    checks fit few a s = must fit 3 0 (must few 4 0 (and_then a (must s 13 0 Accepted)))

    after : (fit few : Bool) (a : Answer) (s r : Bool) → (s ≡ true → r ≡ true) → checks fit few a s ≡ and_then (checks fit few a r) (must s 13 0 Accepted)
    after false few a s r h = refl
    after true false a s r h = refl
    after true true (Err why) s r h = refl
    after true true Accepted s true h = refl
    after true true Accepted true false h = clash (h refl) refl
    after true true Accepted false false h = refl

module _ (m : OldMesh) (ranges : InRange m) where
  pub mesh_sized : length (mesh_of m).links ≡ 256
  mesh_sized = length-map m.links link_of ∙ ranges.entries

  -- on the old ends the checks of now are those of the mesh carried over
  parts-carried : parts_answer m.nodes m.count (parts.rest_zero (mesh_of m)) (old.ends_in m) ≡ mesh_answer (mesh_of m)
  parts-carried =
      ap (parts_answer m.nodes m.count (parts.rest_zero (mesh_of m))) (sym (ends-carried m))
      ∙ bytes-answer (mesh_of m) mesh_sized (λ i. rw (link-carried m i) (ranges.links i).high)

  -- the old checks: those of now, then the old test of the entries past the last link
  pub mesh-shares : old.mesh_answer m ≡ and_then (mesh_answer (mesh_of m)) (must (rest_zero m) 13 0 Accepted)
  unfolding old.mesh_answer
  mesh-shares =
      checks_after m.nodes m.count (old.ends_in m) (rest_zero m) (parts.rest_zero (mesh_of m)) (rest-carried m ranges.entries)
      ∙ ap (λ (a : Answer). and_then a (must (rest_zero m) 13 0 Accepted)) parts-carried

  pub mesh-accepts : old.mesh_answer m ≡ Accepted → mesh_answer (mesh_of m) ≡ Accepted
  mesh-accepts e = (and_then-accepted (mesh_answer (mesh_of m)) _ (sym mesh-shares ∙ e)).0
