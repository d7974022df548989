-- `clients::duct::sharing` meets its contract: it is the query, and what an accepted query wrote is a law of it.
use Prim.Native.Nat.{ℕ}
use mathlib.Core.Path.{◌≡◌, sym, ◌∙◌, ap}
use mathlib.Core.List.{List}
use lib.ListN.{length, take}
use Rattle.mesh.specs.declared.Mesh.{Mesh}
use Rattle.mesh.specs.Answer.{Accepted}
use Rattle.ducts.specs.declared.Shared.{Shared}
use Rattle.ducts.specs.Sharing.{shared, output_after}
use Rattle.ducts.specs.Meaning.{Lists}
use Rattle.ducts.proofs.Laws.Query.{accepted_lists}
use Rattle.clients.proofs.duct.sharing.Goals as goal

-- what is written lists the links, in words of the result and of the output after it
lists : (m : Mesh) (k : ℕ) (out : List ℕ) (r : Shared) {after : List ℕ} → r ≡ shared m k (length out) → after ≡ output_after m k out
    → r.answer ≡ Accepted → Lists m k (take r.count after)
lists m k out r e o h = rw (e, o) (accepted_lists m k out (sym (ap (λ (s : Shared). s.answer) e) ∙ h))

pub returns-clause-listed : goal.returns-clause-listed
returns-clause-listed c =
    let s = c.sharing in
    lists c.args.m c.args.link c.args.out.now s.result s.ensures.answer s.ensures.output
