use native.Mathlib.Omega.{arith}
use mathlib.Core.Path.{◌≡◌, sym, ◌∙◌, ap}
use Prim.Native.Nat.{ℕ, ◌+◌, ◌≤◌, ◌<◌}
use mathlib.Core.List.{List}
use lib.ListN.{length, get_or}
use Rattle.mesh.specs.Answer.{Accepted}
use Rattle.fields.specs.Record.{record_length}
use Rattle.codec.specs.Book.{record_start, span_answer}
use Rattle.codec.proofs.Laws.Locate.{start_first, start-step, start_within}
use Rattle.codec.proofs.locate.record_start.Goals as goal

-- record i is there, whole
there : (s : List ℕ) (k : ℕ) → span_answer s k ≡ Accepted → (i : ℕ) → i < k → {at : ℕ} → at ≡ record_start s i
    → (at < length s) × (at + record_length (get_or s at 0) ≤ length s)
there s k h i l e = rw e (start_within s k h i (omega arith))

pub loop-i-init : goal.loop-i-init
loop-i-init c = sym (start_first _)

pub bounds-book-at : goal.bounds-book-at
bounds-book-at c = (there c.args.book.now c.args.k c.requires c.loop-i._i c.loop-i-test.true c.loop-i.invariant).0

pub overflow_add-at : goal.overflow_add-at
overflow_add-at c =
    omega (arith, (there c.args.book.now c.args.k c.requires c.loop-i._i c.loop-i-test.true c.loop-i.invariant).1, c.record_length-at.ensures.value, c.well_formed)

pub loop-i-preserved : goal.loop-i-preserved
loop-i-preserved c =
    let lo = c.loop-i in
    let s = c.args.book.now in
    rw (start-step s lo._i, ← lo.invariant, ← c.record_length-at.ensures.value)

pub returns : goal.returns
returns c =
    let lo = c.loop-i in
    let e : lo._i ≡ c.args.k = omega arith in
    let q : lo.at ≡ record_start c.args.book.now c.args.k = lo.invariant ∙ ap (record_start c.args.book.now) e in
    let w = start_within c.args.book.now c.args.k c.requires c.args.k (omega arith) in record {
      value = q;
      within = rw q w.0;
      whole = rw q w.1;
    }
