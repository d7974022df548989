-- `lists::put_answer` meets its contract: the four numbers stand where four stores in a row put them.
use Prim.Native.Nat.{◌+◌, ◌-◌}
use mathlib.Core.Path.{◌≡◌, sym, ◌∙◌}
use native.Mathlib.Omega.{arith}
use Rattle.std.proofs.Common.{append_assoc, take, drop, drop-drop}
use Rattle.std.proofs.lemmas.List.Edits.{sets-eq}
use Rattle.lists.specs.Lists.{list_of}
use Rattle.lists.proofs.put_answer.Goals as goal

pub returns : goal.returns
returns c =
    let out = c.args.out.now in
    let at = c.args.at in
    let a = list_of c.args.a in
    let four : at + 4 - at ≡ 4 = omega arith in
    rw (c.copy_from_slice.ensures.after, four, drop-drop) (sym (sets-eq a out at (omega arith) ∙ append_assoc (take at out) a (drop (at + 4) out)))
