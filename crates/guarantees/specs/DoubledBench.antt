-- Meshes with links between the same nodes: their books, plans and collection routes, and books with a pair below the previous one (02, request 7). Definitions
-- only; the theorem is `doubled_bench` of Main.
use Rattle.std.specs.Prelude.{ℕ, ◌-◌, ◌≡◌, true, false, List, [], ◌∷◌, ◌++◌, map, length, replicate}
use Rattle.mesh.specs.declared.Link.{Link}
use Rattle.mesh.specs.declared.Mesh.{Mesh}
use Rattle.mesh.specs.Answer.{Accepted, Refused}
use Rattle.mesh.specs.Mesh.{mesh_answer}
use Rattle.codec.specs.Book.{decoded}
use Rattle.planner.specs.Plan.{planned}
use Rattle.collection.specs.Collection.{collected, output_after}
use Rattle.legacy.specs.declared.OldLink.{OldLink}
use Rattle.legacy.specs.declared.OldSession.{OldSession}
use Rattle.legacy.specs.Record.{zero_link}
use Rattle.legacy.specs.Calls.{fresh_on}
use Rattle.upgrade.specs.Carried.{carried}
use Rattle.guarantees.specs.Bench.{ends, reads, refuses, plans, unplanned}

-- a link with these ends and this length, with no fibre pair
abbrev measured : ℕ → ℕ → ℕ → Link
measured low high metres = record { low = low; high = high; length = metres; pair = 0 }

abbrev old_ends : ℕ → ℕ → OldLink
old_ends low high = record { low = low; high = high; length = 0; pair = 0 }

-- a mesh of n nodes with these links, none of which has a duct
abbrev pub on : ℕ → List Link → Mesh
on n ls = (reads n ls).mesh

-- an old session on three nodes with links between these ends
abbrev pub old_on : List (ℕ × ℕ) → OldSession
old_on pairs =
    fresh_on
    (record { nodes = 3; count = length pairs; links = map (λ (p : ℕ × ℕ). old_ends p.0 p.1) pairs ++ replicate (256 - length pairs) zero_link })
    (record { directions = replicate 256 0 })

-- a triangle, one span of which has two links
abbrev pub triangle : Mesh
triangle = on 3 (ends 0 1 ∷ ends 0 1 ∷ ends 0 2 ∷ ends 1 2 ∷ [])

pub record Holds : Type 0 where
  -- two nodes with two links: neither record has a field, since the low end is that of the link before, and the high end one more
  pub smallest : decoded (1 ∷ 2 ∷ 2 ∷ 0 ∷ 0 ∷ 0 ∷ []) ≡ reads 2 (ends 0 1 ∷ ends 0 1 ∷ [])
  -- a doubled span whose high end is written in both records
  pub high_written : decoded (1 ∷ 3 ∷ 3 ∷ 0 ∷ 0 ∷ 2 ∷ 2 ∷ 2 ∷ 2 ∷ []) ≡ reads 3 (ends 0 1 ∷ ends 0 2 ∷ ends 0 2 ∷ [])
  -- a low end that is written though it is that of the link before, or a high end though it is one more
  pub low_needless : decoded (1 ∷ 2 ∷ 2 ∷ 0 ∷ 0 ∷ 1 ∷ 0 ∷ []) ≡ refuses 9 5
  pub high_needless : decoded (1 ∷ 2 ∷ 2 ∷ 0 ∷ 0 ∷ 2 ∷ 1 ∷ []) ≡ refuses 9 5
  -- a pair below the previous one, by its high end and by its low end
  pub high_below : decoded (1 ∷ 3 ∷ 2 ∷ 0 ∷ 2 ∷ 2 ∷ 0 ∷ []) ≡ refuses 8 6
  pub low_below : decoded (1 ∷ 3 ∷ 2 ∷ 0 ∷ 1 ∷ 1 ∷ 1 ∷ 0 ∷ []) ≡ refuses 8 6
  -- the same of meshes, also past a doubled span
  pub checked : mesh_answer triangle ≡ Accepted
  pub below : mesh_answer (on 3 (ends 0 2 ∷ ends 0 2 ∷ ends 0 1 ∷ [])) ≡ Refused 8 2
  -- and of sessions from before wavelength 2 that are carried over
  pub carried-over : (carried (old_on ((0, 1) ∷ (0, 1) ∷ (0, 2) ∷ (1, 2) ∷ []))).answer ≡ Accepted
  pub old_below : (carried (old_on ((0, 2) ∷ (0, 2) ∷ (0, 1) ∷ []))).answer ≡ Refused 8 2
  -- two links with the same ends and different lengths: in the other order it is another mesh, which has another book
  pub one_order : decoded (1 ∷ 2 ∷ 2 ∷ 0 ∷ 4 ∷ 7 ∷ 0 ∷ 4 ∷ 9 ∷ 0 ∷ []) ≡ reads 2 (measured 0 1 7 ∷ measured 0 1 9 ∷ [])
  pub other_order : decoded (1 ∷ 2 ∷ 2 ∷ 0 ∷ 4 ∷ 9 ∷ 0 ∷ 4 ∷ 7 ∷ 0 ∷ []) ≡ reads 2 (measured 0 1 9 ∷ measured 0 1 7 ∷ [])
  -- the first admissible assignment: doubled spans that run both ways, a tripled one, and one that runs one way
  pub both_ways : planned (on 2 (ends 0 1 ∷ ends 0 1 ∷ [])) ≡ plans (0 ∷ 1 ∷ [])
  pub tripled : planned (on 2 (ends 0 1 ∷ ends 0 1 ∷ ends 0 1 ∷ [])) ≡ plans (0 ∷ 0 ∷ 1 ∷ [])
  pub path_doubled : planned (on 3 (ends 0 1 ∷ ends 0 1 ∷ ends 1 2 ∷ ends 1 2 ∷ [])) ≡ plans (0 ∷ 1 ∷ 0 ∷ 1 ∷ [])
  pub one_way : planned triangle ≡ plans (0 ∷ 0 ∷ 1 ∷ 0 ∷ [])
  -- 21 at the one link that parts the mesh, beside a doubled span
  pub bridge : planned (on 3 (ends 0 1 ∷ ends 0 1 ∷ ends 1 2 ∷ [])) ≡ unplanned 21 2
  -- a doubled span is crossed both ways by its lowest link
  pub route : output_after triangle 0 (replicate 5 99) ≡ 0 ∷ 1 ∷ 2 ∷ 1 ∷ 0 ∷ []
  pub labels : collected triangle 0 5 ≡ record { tree = true ∷ false ∷ false ∷ true ∷ replicate 252 false; count = 5; answer = Accepted }
