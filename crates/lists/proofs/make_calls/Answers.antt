use Prim.Native.Nat.{ℕ}
use mathlib.Core.Path.{◌≡◌, sym, ◌∙◌, ap}
use native.Mathlib.Omega.{arith}
use lib.ListN.{length, get_or}
use borrow.Author.Rules.{rules}
use mathlib.Core.List.{List}
use Rattle.history.specs.History.{Call, after}
use Rattle.call.specs.Encoding.{call_of}
use Rattle.call.specs.Record.{made_of}
use Rattle.lists.specs.Lists.{calls_from, calls_of}
use Rattle.lists.specs.Laws.Lists.{left, stored, session_next, output_next, session_last, output_last, length-calls, stored_front}
use Rattle.lists.proofs.make_calls.Goals as goal

pub loop-i-preserved : goal.loop-i-preserved
loop-i-preserved c =
    let loop = c.loop-i in
    let a = c.args in
    let number : c.unwrap_or.result ≡ get_or a.numbers.now loop.i 0 = search rules in
    let m = c.make_call-made.ensures ∙ ap (λ (n : ℕ). made_of (call_of (get_or a.letters.now loop.i 0) n) loop.session) number in (
      session_next a.letters.now a.numbers.now _ loop.i c.loop-i-test.true loop.session c.make_call-made.result m ∙ loop.invariant.0,
      output_next a.letters.now a.numbers.now _ loop.i c.loop-i-test.true loop.session c.make_call-made.result m loop.out _ c.put_answer.ensures ∙ loop.invariant.1,
    )

pub returns : goal.returns
returns c =
    let loop = c.loop-i in
    let calls = c.min-calls.result in
    let a = c.args in
    let all : left a.letters.now a.numbers.now calls 0 ≡ calls_of a.letters.now a.numbers.now (length a.out.now) =
    ap (calls_from a.letters.now a.numbers.now 0) (omega arith) in record {
      session = sym (session_last a.letters.now a.numbers.now calls loop.i c.loop-i-test.false loop.session) ∙ loop.invariant.0 ∙ ap (λ (cs : List Call). after cs a.s) all;
      output = sym (output_last a.letters.now a.numbers.now calls loop.i c.loop-i-test.false loop.session loop.out _) ∙ loop.invariant.1
          ∙ ap (λ (cs : List Call). stored cs a.s a.out.now 0) all
          ∙ stored_front (calls_of a.letters.now a.numbers.now (length a.out.now)) a.s a.out.now (rw length-calls (omega arith));
    }
