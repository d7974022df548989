-- Functions of the index that do not fall from any index below n to the next: they do not fall over any distance. Assumes nothing.
use Rattle.std.specs.Prelude.{ℕ, ◌+◌, ◌<◌, ◌≤◌}
use Rattle.std.proofs.Common.{arith, le_refl, add-one}
use Rattle.std.proofs.Math.Decide.{le_ind}

pub rising : (f : ℕ → ℕ) (n : ℕ) → ((i : ℕ) → i + 1 < n → f i ≤ f (i + 1)) → (i j : ℕ) → i ≤ j → j < n → f i ≤ f j
rising f n step i j h =
    le_ind (λ j. j < n → f i ≤ f j)
    (λ l. le_refl (f i))
    (λ j _ g l. let s = rw (add-one j) at (step j (omega arith)) in omega (arith, g (omega arith)))
    j h
