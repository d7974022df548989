-- What the test of an entry says: it rises. Assumes nothing.
use Rattle.std.specs.Prelude.{ℕ, ◌-◌, ◌≡◌, true, ◌||◌, List, eqb, leb}
use Rattle.std.proofs.Common.{⊎_elim, arith}
use Rattle.scan.specs.Test.{or_says, eq_says, le_says}
use Rattle.scan.specs.Entry.{at}
use Rattle.ends.specs.Ends.{Rising}

pub rises : (ends : List ℕ) (i : ℕ) → (eqb (at ends i) 0 || leb (at ends (i - 1)) (at ends i)) ≡ true → Rising ends i
rises ends i t h = ⊎_elim (λ (z : at ends i ≡ 0). absurd (omega arith)) (λ w. w) ((or_says (eq_says (at ends i) 0) (le_says (at ends (i - 1)) (at ends i))).0 t)
