-- The calls of a list that are left to make: one is made, and the rest are left; none is left, and all are made. Assumes nothing.
use Prim.Native.Nat.{ℕ, zero, suc, ◌+◌, ◌*◌, ◌-◌, ◌<◌, ◌≤◌}
use Rattle.std.specs.Prelude.{◌≡◌, refl, List, [], ◌∷◌, length, get_or}
use Rattle.std.proofs.Common.{ap, length-append}
use native.Mathlib.Omega.{arith}
use Rattle.std.proofs.Math.Numerals.{add-one}
use Rattle.std.proofs.lemmas.List.Edits.{sets}
use Rattle.scan.specs.Store.{sets_front}
use Rattle.recovery.specs.declared.Session.{Session}
use Rattle.history.specs.History.{Call, next, after, answers}
use Rattle.call.specs.declared.Made.{Made}
use Rattle.call.specs.Encoding.{call_of}
use Rattle.call.specs.Record.{made_of}
use Rattle.lists.specs.Lists.{calls_from, list_of, record_of, written}

-- the calls from index i on and below n
abbrev pub left : List ℕ → List ℕ → ℕ → ℕ → List Call
left letters numbers n i = calls_from letters numbers i (n - i)

-- what the output holds once the calls are made on s and their answers are stored from index `at` on
abbrev pub stored : List Call → Session → List ℕ → ℕ → List ℕ
stored calls s out at = sets out at (record_of (answers calls s))

module _ (letters numbers : List ℕ) (n i : ℕ) where
  -- the first of them
  abbrev call : Call
  call = call_of (get_or letters i 0) (get_or numbers i 0)

  left-next : i < n → left letters numbers n i ≡ call ∷ left letters numbers n (i + 1)
  unfolding calls_from
  left-next b =
      let e : n - i ≡ suc (n - (i + 1)) = omega arith in
      rw (e, add-one i)

  -- one call is made
  module _ (b : i < n) (s : Session) (m : Made) (e : m ≡ made_of call s) where
    pub session_next : after (left letters numbers n (i + 1)) m.session ≡ after (left letters numbers n i) s
    unfolding after
    session_next = rw (left-next b, e)

    pub output_next : (out out' : List ℕ) → out' ≡ sets out (4 * i) (list_of m.answer)
        → stored (left letters numbers n (i + 1)) m.session out' (4 * (i + 1)) ≡ stored (left letters numbers n i) s out (4 * i)
    unfolding answers record_of
    output_next out out' f =
        let four : 4 * (i + 1) ≡ suc (suc (suc (suc (4 * i)))) = omega arith in
        rw (left-next b, f, e, four)

  -- none is left
  left_none : n ≤ i → left letters numbers n i ≡ []
  unfolding calls_from
  left_none b = let e : n - i ≡ 0 = omega arith in rw e

  pub session_last : n ≤ i → (s : Session) → after (left letters numbers n i) s ≡ s
  unfolding after
  session_last b s = rw (left_none b)

  pub output_last : n ≤ i → (s : Session) (out : List ℕ) (at : ℕ) → stored (left letters numbers n i) s out at ≡ out
  unfolding answers record_of
  output_last b s out at = rw (left_none b)

-- as many calls as are asked for
pub length-calls : (letters numbers : List ℕ) (i n : ℕ) → length (calls_from letters numbers i n) ≡ n
unfolding calls_from
length-calls letters numbers i zero = refl
length-calls letters numbers i (suc n) = ap suc (length-calls letters numbers (suc i) n)

-- four numbers for each answer
length_record : (calls : List Call) (s : Session) → length (record_of (answers calls s)) ≡ 4 * length calls
unfolding answers record_of
length_record [] s = refl
length_record (c ∷ cs) s =
    let e : length (record_of (answers cs (next c s))) ≡ 4 * length cs = length_record cs (next c s) in
    simp length-append (omega arith)

-- answers that the output has room for stand at its front
pub stored_front : (calls : List Call) (s : Session) (out : List ℕ) → 4 * length calls ≤ length out → stored calls s out 0 ≡ written (answers calls s) out
stored_front calls s out room = sets_front (record_of (answers calls s)) out (rw length_record room)
