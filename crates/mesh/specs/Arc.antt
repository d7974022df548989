-- The arcs of links under a plan. The primary arc of a link leads from its low to its high end for direction 0 and back for 1; the back-up
-- arc is the primary arc turned round. Definitions only.
use Rattle.std.specs.Prelude.{ℕ, cond, get_or, eqb}
use Rattle.mesh.specs.declared.Link.{Link}
use Rattle.mesh.specs.declared.Mesh.{Mesh}
use Rattle.mesh.specs.declared.Plan.{Plan}
use Rattle.mesh.specs.WellFormed.{link}

-- where the back-up arc of a link with direction d starts, and where it ends
abbrev pub tail_of : Link → ℕ → ℕ
tail_of l d = cond (eqb d 0) l.high l.low

abbrev pub head_of : Link → ℕ → ℕ
head_of l d = cond (eqb d 0) l.low l.high

-- the same for link i of a mesh under a plan
abbrev pub back_tail : Mesh → Plan → ℕ → ℕ
back_tail m p i = tail_of (link m i) (get_or p.directions i 0)

abbrev pub back_head : Mesh → Plan → ℕ → ℕ
back_head m p i = head_of (link m i) (get_or p.directions i 0)
