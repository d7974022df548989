-- What a buffer holds after two additions, and at the end of a line. Serves the proofs of `streams::held::Held`. Assumes nothing.
use Rattle.std.proofs.Common.{ℕ, zero, suc, ◌≡◌, ◌<◌, ◌≤◌, Bool, cond, List, [], ◌∷◌, ◌++◌, length, take, arith, refl, ap, sym, ◌∙◌, le-leb}
use Rattle.std.proofs.lemmas.Bool.{lt-leb}
use Rattle.std.proofs.lemmas.List.{length-take-le}
use Rattle.streams.specs.Lines.{kept, line_end}

-- what has no room at first has none later
take-kept : (n : ℕ) (a b : List ℕ) → take n (take n a ++ b) ≡ take n (a ++ b)
take-kept zero a b = refl
take-kept (suc n) [] b = refl
take-kept (suc n) (x ∷ a) b = ap (λ (s : List ℕ). x ∷ s) (take-kept n a b)

-- first these bytes, then those
pub added : (old first then middle new : List ℕ) → middle ≡ kept (old ++ first) → new ≡ kept (middle ++ then)
    → new ≡ kept ((old ++ first) ++ then)
added old first then middle new e f = f ∙ ap (λ (s : List ℕ). kept (s ++ then)) e ∙ take-kept 16384 (old ++ first) then

-- as many bytes are held as are in use
pub held_length : (bytes held : List ℕ) (used : ℕ) → used ≤ 16384 → length bytes ≡ 16384 → take used bytes ≡ held → length held ≡ used
held_length bytes held used room all e = ap length (sym e) ∙ length-take-le used bytes (omega arith)

-- a line ends where the buffer is full, and where it is not
pub line_full : (held : List ℕ) → 14336 ≤ length held → line_end held ≡ []
line_full held h = ap (λ (t : Bool). cond t [] held) (le-leb 14336 (length held) h)

pub line_short : (held : List ℕ) → length held < 14336 → line_end held ≡ held
line_short held h = ap (λ (t : Bool). cond t [] held) (lt-leb 14336 (length held) h)

-- first these bytes, then those, then the end of a line
pub line_added : (old first second then middle new : List ℕ) → middle ≡ kept (old ++ first) → new ≡ kept (middle ++ second)
    → line_end (kept (new ++ then)) ≡ line_end (kept (old ++ first ++ second ++ then))
line_added old first second then middle new e f =
    ap (λ (bytes : List ℕ). line_end bytes) (added (old ++ first) second then new (kept (new ++ then)) (added old first second middle new e f) refl)
