-- Answers: accepted, or refused with a number and a place (01, "Refusals from the input"). Definitions only.
use Rattle.std.specs.Prelude.{ℕ, Result, Ok, Err}
use Rattle.mesh.specs.declared.Reason.{Reason}

abbrev pub Answer : Type 0
Answer = Result Unit Reason

pattern abbrev pub Accepted : Answer
Accepted = Ok tt

-- 01's refusal with this number and place; also of a call that gives a value where it is accepted
abbrev pub Refused : {A : Type 0} → ℕ → ℕ → Result A Reason
Refused number place = Err (record { number = number; place = place })
