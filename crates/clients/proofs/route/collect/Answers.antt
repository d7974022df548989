-- `clients::route::collect` meets its contract: it is the library's call, and what holds of an accepted route is a law of it.
use Prim.Native.Nat.{ℕ}
use mathlib.Core.Path.{◌≡◌, sym, ◌∙◌, ap}
use mathlib.Core.List.{List}
use lib.ListN.{length, take}
use Rattle.mesh.specs.declared.Mesh.{Mesh}
use Rattle.mesh.specs.Answer.{Accepted}
use Rattle.mesh.specs.WellFormed.{InRange}
use Rattle.mesh.proofs.Ranges.{in_range}
use Rattle.nets.specs.Nets.{net_of}
use Rattle.depth_first.specs.Folded.{Folded}
use Rattle.collection.specs.declared.Collected.{Collected}
use Rattle.collection.specs.Collection.{tree_of, collected, output_after}
use Rattle.collection.proofs.Laws.Query.{accepted_collects}
use Rattle.clients.proofs.route.collect.Goals as goal

-- what 02 says, in words of the result and of the output after it
folded : (m : Mesh) → InRange m → (root : ℕ) (out : List ℕ) (r : Collected) {after : List ℕ} → r ≡ collected m root (length out) → after ≡ output_after m root out
    → r.answer ≡ Accepted → Folded (net_of m) root (tree_of m root) (take r.count after) r.tree
folded m g root out r e o h = rw (e, o) (accepted_collects m root out g (sym (ap (λ (s : Collected). s.answer) e) ∙ h))

pub returns-clause-folded : goal.returns-clause-folded
returns-clause-folded c =
    let r = c.collect in
    let a = c.args in
    folded a.m (in_range a.m _ c.well_formed.0) a.root a.out.now r.result r.ensures.answer r.ensures.output
