-- A call as a letter and a number. Definitions only.
use Rattle.std.specs.Prelude.{ℕ, ◌/◌, ◌%◌, cond, eqb}
use Rattle.history.specs.History.{Call, by_value, in_place, cut, deliver, run, mend, status}

-- the call that a letter and a number say. C, D and M are cut, delivery and mend by value, c, d and m the same in place, R is run, and every other
-- letter is status. A run's allowance is the number; a cut and a mend name the link in its low 16 bits; a delivery and a status name, as link × 256 +
-- wavelength, a link of 16 bits and a wavelength of 8
unfoldable pub call_of : ℕ → ℕ → Call
call_of letter n =
    let link : ℕ = n % 65536 in
    let named : ℕ = n / 256 % 65536 in
    let wavelength : ℕ = n % 256 in
    cond (eqb letter 67) (cut by_value link)
    (cond (eqb letter 68) (deliver by_value named wavelength)
    (cond (eqb letter 77) (mend by_value link)
    (cond (eqb letter 99) (cut in_place link)
    (cond (eqb letter 100) (deliver in_place named wavelength)
    (cond (eqb letter 109) (mend in_place link)
    (cond (eqb letter 82) (run n)
    (status named wavelength)))))))
