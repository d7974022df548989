-- A bit map has a needless bit just where the fields would be written with another one, if each field without its bit has its absent
-- value. So a reader may compare bit maps. Assumes nothing.
use Rattle.std.specs.Prelude.{ℕ, suc, ◌+◌, ◌*◌, ◌/◌, ◌%◌, ◌^◌, ◌<◌, ◌≡◌, refl, Bool, true, false, cond, not, ◌&&◌, ◌||◌, List, [], ◌∷◌, eqb, length, get_or}
use Rattle.std.proofs.Common.{sym, ap, ◌∙◌, add_assoc, pow-suc, arith, eqb-true, eq-eqb, ne_eqb, leb-false}
use Rattle.std.proofs.Math.Bool.{not-not}
use Rattle.std.proofs.lemmas.Bool.{eqb-false}
use Rattle.scan.specs.Test.{clash, eq_says, says_same}
use Rattle.scan.specs.Total.{bit}
use Rattle.mesh.specs.declared.Link.{Link}
use Rattle.fields.specs.Field.{Field, differs, bit_map, odd, needless}
use Rattle.fields.specs.Record.{fields_of, reserved, fields_at}
use Rattle.fields.specs.Laws.Fields.{AsRead}
use Rattle.fields.specs.Laws.Record.{as_read}

-- each field whose bit does not stand in b has its absent value
abbrev pub AbsentElsewhere : ℕ → List Field → Type 0
AbsentElsewhere b [] = Unit {0}
AbsentElsewhere b (f ∷ fs) = (odd b ≡ false → differs f ≡ false) × AbsentElsewhere (b / 2) fs

-- two tests of equality that say the same
same-eqb : (a b c d : ℕ) → (a ≡ b → c ≡ d) → (c ≡ d → a ≡ b) → eqb a b ≡ eqb c d
same-eqb a b c d f g = says_same (eq_says a b) (λ e. g ((eq_says c d).0 e), λ q. (eq_says c d).1 (f q))

-- one field in front: o says whether its bit stands, t whether it differs from its absent value
needless-step : (b m : ℕ) (o t : Bool) → odd b ≡ o → (o ≡ false → t ≡ false)
    → ((o && not t) || not (eqb m (b / 2))) ≡ not (eqb (bit t + 2 * m) b)
needless-step b m true true e h =
    let one : b % 2 ≡ 1 = eqb-true _ _ e in
    ap not (same-eqb m (b / 2) (1 + 2 * m) b (λ q. omega arith) (λ q. omega arith))
needless-step b m true false e h =
    let one : b % 2 ≡ 1 = eqb-true _ _ e in
    sym (ap not (ne_eqb (0 + 2 * m) b (λ q. omega arith)))
needless-step b m false true e h = clash refl (h refl)
needless-step b m false false e h =
    let none : b % 2 ≡ 1 → ⊥ = eqb-false _ _ e in
    ap not (same-eqb m (b / 2) (0 + 2 * m) b (λ q. omega arith) (λ q. omega arith))

pub needless-bit_map : (b : ℕ) (fs : List Field) → b < 2 ^ length fs → AbsentElsewhere b fs → needless b fs ≡ not (eqb (bit_map fs) b)
unfolding bit_map
needless-bit_map b [] h a = sym (ap not (eq-eqb 0 b (omega arith)))
needless-bit_map b (f ∷ fs) h (first, rest) =
    let k : 2 ^ suc (length fs) ≡ 2 ^ length fs * 2 = pow-suc 2 (length fs) in
    rw (needless-bit_map (b / 2) fs (omega arith) rest) (needless-step b (bit_map fs) (odd b) (differs f) refl first)

-- a field that is read without its bit has its absent value
pub absent_read : (fs : List Field) (s : List ℕ) (at b : ℕ) → AsRead s at b fs → AbsentElsewhere b fs
absent_read [] s at b r = record {}
absent_read (f ∷ fs) s at b r = (
  λ e. ap not (eq-eqb f.value f.absent (sym (rw e at (r 0 (omega arith))))),
  absent_read fs s (at + cond (odd b) f.width 0) (b / 2) (λ i l. rw add_assoc (r (suc i) (omega arith))),
)

-- so refusal 9 is a test of bit maps
pub record_needed : (p : Link) (s : List ℕ) → reserved (get_or s 0 0) ≡ false
    → not (needless (get_or s 0 0) (fields_of p (fields_at p s))) ≡ eqb (bit_map (fields_of p (fields_at p s))) (get_or s 0 0)
record_needed p s e =
    let b = get_or s 0 0 in
    let fs = fields_of p (fields_at p s) in
    ap not (needless-bit_map b fs (leb-false _ b e) (absent_read fs s 1 b (as_read p s))) ∙ not-not _
