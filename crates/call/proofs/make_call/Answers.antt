-- `call::make_call` meets its contract: each letter makes its own call.
use native.Mathlib.Omega.{arith}
use Prim.Native.Nat.{ℕ}
use mathlib.Core.Path.{◌≡◌, sym, ◌∙◌, ap}
use borrow.Author.Tests.{ne_eqb}
use Rattle.recovery.specs.declared.Session.{Session}
use Rattle.recovery.specs.Calls.{after_cut, after_delivery, after_mend}
use Rattle.std.proofs.Common.{of_calls, ◌%◌, ◌/◌}
use Rattle.call.specs.declared.Numbers.{Numbers}
use Rattle.call.specs.declared.Made.{Made}
use Rattle.call.specs.Encoding.{call_of}
use Rattle.call.specs.Record.{made, change_numbers, delivered_numbers, made_change, made_delivery, made_run, status_numbers, made_of}
use Rattle.call.proofs.make_call.Goals as goal

-- what the call of letter l makes, the letter makes
by-letter : {letter l : ℕ} (n : ℕ) (s : Session) (r : Made) → letter ≡ l → r ≡ made_of (call_of l n) s → r ≡ made_of (call_of letter n) s
by-letter n s r e m = m ∙ ap (λ (k : ℕ). made_of (call_of k n) s) (sym e)

-- a call made is its session and its numbers
both : {r : Made} {s : Session} {n : Numbers} → r.session ≡ s → r.answer ≡ n → r ≡ made s n
both e f = rw (← e, ← f)

-- what a call in place left and told of the session that it was lent, it left and told of s
lent : (session : Session → Session) (answer : Session → Numbers) {s shown left : Session} {r : Made}
    → shown ≡ s → left ≡ session shown → left ≡ r.session → r.answer ≡ answer shown → r ≡ made (session s) (answer s)
lent session answer e l k a = both (sym k ∙ l ∙ ap session e) (a ∙ ap answer e)

pub returns-in-67 : goal.returns-in-67
unfolding call_of
returns-in-67 c = by-letter _ _ _ c.in-67.is (c.from.ensures ∙ ap made_change c.cut.ensures)

pub returns-in-68 : goal.returns-in-68
unfolding call_of
returns-in-68 c = by-letter _ _ _ c.in-68.is (c.from-in-68.ensures ∙ ap made_delivery c.deliver.ensures)

pub returns-in-77 : goal.returns-in-77
unfolding call_of
returns-in-77 c = by-letter _ _ _ c.in-77.is (c.from-in-77.ensures ∙ ap made_change c.mend.ensures)

pub returns-in-99 : goal.returns-in-99
unfolding call_of
returns-in-99 c =
    let call = c.lend.ensures in
    let k = c.args.n % 65536 in
    by-letter _ _ _ c.in-99.is (lent (λ s. (after_cut s k).session) (λ s. change_numbers (after_cut s k).answer) call.shows (search of_calls) call.leaves (search of_calls))

pub returns-in-100 : goal.returns-in-100
unfolding call_of
returns-in-100 c =
    let call = c.lend-in-100.ensures in
    let k = c.args.n / 256 % 65536 in
    let u = c.args.n % 256 in
    by-letter _ _ _ c.in-100.is (lent (λ s. (after_delivery s k u).session) (λ s. delivered_numbers (after_delivery s k u).answer) call.shows (search of_calls) call.leaves (search of_calls))

pub returns-in-109 : goal.returns-in-109
unfolding call_of
returns-in-109 c =
    let call = c.lend-in-109.ensures in
    let k = c.args.n % 65536 in
    by-letter _ _ _ c.in-109.is (lent (λ s. (after_mend s k).session) (λ s. change_numbers (after_mend s k).answer) call.shows (search of_calls) call.leaves (search of_calls))

pub returns-in-82 : goal.returns-in-82
unfolding call_of
returns-in-82 c = by-letter _ _ _ c.in-82.is (c.from-in-82.ensures ∙ ap made_run c.run.ensures)

pub returns-in_default : goal.returns-in_default
unfolding call_of
returns-in_default c =
    simp (
      ne_eqb c.args.letter 67 (omega arith),
      ne_eqb c.args.letter 68 (omega arith),
      ne_eqb c.args.letter 77 (omega arith),
      ne_eqb c.args.letter 99 (omega arith),
      ne_eqb c.args.letter 100 (omega arith),
      ne_eqb c.args.letter 109 (omega arith),
      ne_eqb c.args.letter 82 (omega arith),
    ) (both c.new.ensures.session (c.new.ensures.answer ∙ ap status_numbers c.status.ensures))
