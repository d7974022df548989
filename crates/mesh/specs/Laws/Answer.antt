-- What an answer tells of the tests behind it. Assumes nothing.
use Rattle.std.specs.Prelude.{ℕ, ◌≡◌, refl, Bool, true, false, List, length, take, drop, Err}
use Rattle.std.proofs.Common.{arith}
use Rattle.std.proofs.Math.Seq.{take-append_seam, drop-append_seam}
use Rattle.mesh.specs.Answer.{Answer, Accepted, Refused}
use Rattle.mesh.specs.Mesh.{must, and_then, output_as}

-- no answer is both
pub refused-accepted {ℓ} : {A : Type ℓ} {number place : ℕ} → Refused number place ≡ Accepted → A
refused-accepted e = let z : ◌≡◌ {A = ℕ} 0 1 = cc in absurd (omega arith)

pub must-accepted : (t : Bool) (number place : ℕ) (next : Answer) → must t number place next ≡ Accepted → (t ≡ true) × (next ≡ Accepted)
must-accepted true number place next e = (refl, e)
must-accepted false number place next e = refused-accepted e

pub and_then-accepted : (a next : Answer) → and_then a next ≡ Accepted → (a ≡ Accepted) × (next ≡ Accepted)
and_then-accepted Accepted next e = (refl, e)
and_then-accepted (Err r) next e = refused-accepted e

-- what an answer tells: A where it accepts, R of its number and place where it refuses
pub data Tells (A : Type 0) (R : ℕ → ℕ → Type 0) : Answer → Type 0 where
  accepting : A → Tells A R Accepted
  refusing : {number place : ℕ} → R number place → Tells A R (Refused number place)

-- an answer tells of itself
pub tells_itself : (a : Answer) → Tells (a ≡ Accepted) (λ number place. a ≡ Refused number place) a
tells_itself Accepted = accepting refl
tells_itself (Err r) = refusing refl

module _ {A : Type 0} {R : ℕ → ℕ → Type 0} where
  pub told-accepted : Tells A R Accepted → A
  told-accepted (accepting x) = x

  pub told-refused : {number place : ℕ} → Tells A R (Refused number place) → R number place
  told-refused (refusing r) = r

  -- an answer none of whose refusals can be is an acceptance
  pub tells_accepted : {a : Answer} → Tells A R a → ((number place : ℕ) → R number place → ⊥) → a ≡ Accepted
  tells_accepted (accepting x) never = refl
  tells_accepted (refusing r) never = absurd (never _ _ r)

  module _ {B : Type 0} {S : ℕ → ℕ → Type 0} where
    pub tells_map : {a : Answer} → Tells A R a → (A → B) → ((number place : ℕ) → R number place → S number place) → Tells B S a
    tells_map (accepting x) f g = accepting (f x)
    tells_map (refusing r) f g = refusing (g _ _ r)

    -- the next answer counts where the first accepts
    pub tells_and_then : {a next : Answer} → Tells A R a → (A → Tells B S next) → ((number place : ℕ) → R number place → S number place)
        → Tells B S (and_then a next)
    tells_and_then (accepting x) f g = f x
    tells_and_then (refusing r) f g = refusing (g _ _ r)

-- ---- what an output holds after a call

-- what was written, and past it the entries as they were
pub output_written : {a : Answer} → a ≡ Accepted → (written out : List ℕ)
    → (take (length written) (output_as a written out) ≡ written) × (drop (length written) (output_as a written out) ≡ drop (length written) out)
output_written e written out = (rw e (take-append_seam written _), rw e (drop-append_seam written _))

-- on a refusal all as it was
pub output_kept : {a : Answer} {number place : ℕ} → a ≡ Refused number place → (written out : List ℕ) → output_as a written out ≡ out
output_kept e written out = rw e
