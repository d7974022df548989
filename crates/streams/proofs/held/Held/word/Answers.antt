-- `streams::held::Held::word` meets its contract: what has room stands after what was held.
use Rattle.std.proofs.Common.{ℕ, ◌≡◌, ◌≤◌, ◌+◌, ◌-◌, min, List, length, take, ◌++◌, arith, ap, sym, ◌∙◌}
use Rattle.std.proofs.Math.Seq.{take-append-add}
use Rattle.std.proofs.lemmas.List.{length-take-le, take_min}
use Rattle.std.proofs.lemmas.Slice.{take-put_mid}
use borrow.Rule.Slice.PartMut.{put_mid}
use Rattle.streams.proofs.held.Held.word.Goals as goal

-- m bytes of a word stored after the first u bytes
stored : (bytes word : List ℕ) (u m : ℕ) → u ≤ 16384 → length bytes ≡ 16384 → m ≡ min (length word) (16384 - u)
    → take (u + m) (put_mid u (u + m - u) bytes (take m word)) ≡ take 16384 (take u bytes ++ word)
stored bytes word u m room all fits =
    let held : length (take u bytes) ≡ u = length-take-le u bytes (omega arith) in
    let added : length (take m word) ≡ m = length-take-le m word (omega arith) in
    let split : 16384 ≡ length (take u bytes) + (16384 - u) = omega arith in
    let least : min (16384 - u) (length word) ≡ m = omega arith in
    take-put_mid u _ bytes (take m word) (u + m) (omega arith) (omega arith)
    ∙ sym (
    ap (λ (n : ℕ). take n (take u bytes ++ word)) split
    ∙ take-append-add (take u bytes) word (16384 - u)
    ∙ ap (λ (z : List ℕ). take u bytes ++ z) (sym (take_min (16384 - u) word) ∙ ap (λ (n : ℕ). take n word) least))

pub returns : goal.returns
returns c =
    let i = c.self.inside in
    rw (← c.self.view_is, c.copy_from_slice.ensures.after) (stored i.bytes c.args.text.now i.used c.min-n.result c.self.invariant c.self.told c.min-n.ensures)
