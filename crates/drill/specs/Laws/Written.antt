-- What encoding the drill that an input asks for writes. Serves the proof of `drill::book::write_drill`. Assumes nothing.
use Rattle.std.specs.Prelude.{ℕ, ◌≤◌, ◌<◌, ◌≡◌, refl, List, ◌++◌, length, drop, Option, None, Some, Err}
use Rattle.std.proofs.Common.{ap, subst, ◌∙◌, sym, arith, length-append}
use Rattle.std.proofs.Math.Seq.{take-append_seam}
use Rattle.io.specs.Counts.{IsPrefixLen}
use Rattle.std.proofs.Math.Decide.{dec_lt}
use Rattle.mesh.specs.declared.Mesh.{Mesh}
use Rattle.mesh.specs.Answer.{Answer, Accepted, Refused}
use Rattle.mesh.specs.Mesh.{mesh_answer}
use Rattle.codec.specs.declared.Encoded.{Encoded}
use Rattle.codec.specs.Book.{longest_book, book_of, encoded, output_after}
use Rattle.codec.proofs.Laws.Written.{book_most}
use Rattle.codec.proofs.Laws.Encoding.{encoded_done, encoded_short, encoded-refused}
use Rattle.heaviest.specs.Asked.{Asked}
use Rattle.heaviest.specs.Drill.{drill, drill_of}
use Rattle.heaviest.specs.Input.{Names, middles_of, asked}
use Rattle.heaviest.proofs.Laws.Input.{asked-names, refused-names}
use Rattle.heaviest.proofs.Laws.Drill.{drill_of_lem, drill-accepted}
use Rattle.drill.specs.Written.{Writes}

-- a book has its header
book-some : (m : Mesh) → 0 < length (book_of m)
unfolding book_of
book-some m = omega arith

-- the mesh of no middle nodes is refused
no_drill : mesh_answer (drill_of 0) ≡ Refused 3 0
unfolding mesh_answer drill_of
no_drill = refl

-- how many bytes were written, by the answer
abbrev pub length_by : Answer → ℕ → Option ℕ
length_by Accepted n = Some n
length_by (Err r) n = None

abbrev pub length_of : Encoded → Option ℕ
length_of r = length_by r.answer r.length

-- what was written stands in the output
module _ (m : Mesh) (out : List ℕ) where
  abbrev Within : Type 0
  Within = (encoded m (length out)).answer ≡ Accepted → IsPrefixLen (encoded m (length out)).length (output_after m out)

  within_by : (a : Answer) → mesh_answer m ≡ a → Within
  within_by (Err r) e ok = let (none, _) = encoded-refused m out r.number r.place e in cc
  within_by Accepted e ok =
      elim (dec_lt (length out) (length (book_of m))) [
        | yes l ↦ let (none, _) = encoded_short m out e l in cc
        | no l ↦
            let (done, after) = encoded_done m out e (omega arith) in
            rw (done, after) (
              omega (arith, length-append (book_of m) (drop (length (book_of m)) out)),
              ap length (sym (take-append_seam (book_of m) (drop (length (book_of m)) out))),
            )
      ]

module _ (s out : List ℕ) where
  -- the mesh that the input asks for
  abbrev mesh : Mesh
  mesh = drill_of (middles_of (asked s))

  pub writes : Writes s out (output_after mesh out) (length_of (encoded mesh (length out)))
  writes = record { named = named; other = other }
    where
      named : (m : ℕ) → Names s m → longest_book ≤ length out → let n = length (book_of (drill m)) in
          (0 < n) × (length_of (encoded mesh (length out)) ≡ Some n) × (output_after mesh out ≡ book_of (drill m) ++ drop n out)
      named m N room =
          let e : mesh ≡ drill m = ap (λ (a : Asked). drill_of (middles_of a)) ((asked-names s m).1 N) ∙ drill_of_lem m N.least N.most in
          let ok = drill-accepted m N.most in
          let (done, after) = encoded_done (drill m) out ok (omega (arith, book_most (drill m) ok)) in
          rw e (book-some (drill m), ap length_of done, after)

      other : ((m : ℕ) → ¬ Names s m) → (length_of (encoded mesh (length out)) ≡ None) × (output_after mesh out ≡ out)
      other none =
          let e : mesh ≡ drill_of 0 = ap (λ (a : Asked). drill_of (middles_of a)) ((refused-names s).1 none) in
          let (done, after) = encoded-refused (drill_of 0) out 3 0 no_drill in
          rw e (ap length_of done, after)

-- by what each call gives
pub writes_by : (s out out' : List ℕ) (a : Asked) (m : ℕ) (M : Mesh) (r : Encoded) (answer : Answer) → a ≡ asked s → m ≡ middles_of a → M ≡ drill_of m
    → r ≡ encoded M (length out) → out' ≡ output_after M out → r.answer ≡ answer → Writes s out out' (length_by answer r.length)
writes_by s out out' a m M r answer e f g h o q =
    subst (λ (w : Answer). Writes s out out' (length_by w r.length)) q (rw (h, o, g, f, e) (writes s out))

pub within : (out out' : List ℕ) (M : Mesh) (r : Encoded) → r ≡ encoded M (length out) → out' ≡ output_after M out → r.answer ≡ Accepted
    → IsPrefixLen r.length out'
within out out' M r h o q = rw (h, o) (within_by M out (mesh_answer M) refl (rw h at q))
