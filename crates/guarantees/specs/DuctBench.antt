-- A mesh with ducts: P5's links in a book, two of them in duct 7 and two in duct 65,535, one of these with length and fibre pair; the query on it; and damaged
-- records with the new field (02, request 4). Definitions only; the theorem is `ducts_bench` of Main.
use Rattle.std.specs.Prelude.{ℕ, ◌≡◌, List, [], ◌∷◌, replicate}
use Rattle.mesh.specs.declared.Mesh.{Mesh}
use Rattle.mesh.specs.Answer.{Answer, Accepted, Refused}
use Rattle.mesh.specs.Mesh.{zero_link, mesh_answer}
use Rattle.mesh.specs.WellFormed.{SameEnds}
use Rattle.codec.specs.Book.{decoded}
use Rattle.ducts.specs.declared.Shared.{Shared}
use Rattle.ducts.specs.Sharing.{shared, output_after}
use Rattle.guarantees.specs.Bench.{ends, refuses}

abbrev pub book : List ℕ
book =
    1 ∷ 4 ∷ 5 ∷ 0
    ∷ 16 ∷ 7 ∷ 0
    ∷ 2 ∷ 2
    ∷ 30 ∷ 3 ∷ 44 ∷ 1 ∷ 112 ∷ 17 ∷ 1 ∷ 0 ∷ 255 ∷ 255
    ∷ 17 ∷ 1 ∷ 7 ∷ 0
    ∷ 17 ∷ 2 ∷ 255 ∷ 255
    ∷ []

abbrev pub mesh : Mesh
mesh = record {
  nodes = 4;
  count = 5;
  links = ends 0 1 ∷ ends 0 2 ∷ record { low = 0; high = 3; length = 300; pair = 70000 } ∷ ends 1 2 ∷ ends 2 3 ∷ replicate 251 zero_link;
  ducts = 7 ∷ 0 ∷ 65535 ∷ 7 ∷ 65535 ∷ replicate 251 0;
}

-- the same nodes and links, with no length, fibre pair or duct: P5's
abbrev pub plain : Mesh
plain = record {
  nodes = 4;
  count = 5;
  links = ends 0 1 ∷ ends 0 2 ∷ ends 0 3 ∷ ends 1 2 ∷ ends 2 3 ∷ replicate 251 zero_link;
  ducts = replicate 256 0;
}

-- a mesh of two nodes with a link between these ends, and a duct number past it
abbrev pub past : ℕ → ℕ → Mesh
past low high = record { nodes = 2; count = 1; links = ends low high ∷ replicate 255 zero_link; ducts = 0 ∷ 5 ∷ replicate 254 0 }

abbrev told : ℕ → Answer → Shared
told n a = record { count = n; answer = a }

-- an output of so many entries, each 9 before the query
abbrev nines : ℕ → List ℕ
nines n = replicate n 9

pub record Holds : Type 0 where
  pub reads : decoded book ≡ record { mesh = mesh; answer = Accepted }
  -- a duct of 0 that is written, a reserved bit, and a book that ends within the duct
  pub needless : decoded (1 ∷ 2 ∷ 1 ∷ 0 ∷ 16 ∷ 0 ∷ 0 ∷ []) ≡ refuses 9 4
  pub reserved : decoded (1 ∷ 2 ∷ 1 ∷ 0 ∷ 32 ∷ []) ≡ refuses 5 4
  -- of two faults 9 comes first: the ends are no pair either
  pub needless-first : decoded (1 ∷ 2 ∷ 1 ∷ 0 ∷ 18 ∷ 0 ∷ 0 ∷ 0 ∷ []) ≡ refuses 9 4
  pub short : decoded (1 ∷ 2 ∷ 1 ∷ 0 ∷ 16 ∷ 7 ∷ []) ≡ refuses 1 6
  -- 13 for a duct number past the last link, after the links' own
  pub ill_formed_lem : mesh_answer (past 0 1) ≡ Refused 13 0
  pub link-first : mesh_answer (past 1 1) ≡ Refused 7 0
  -- the links of duct 7 by each of them, those of duct 65,535, and a link without a duct
  pub first : (shared mesh 0 3 ≡ told 2 Accepted) × (output_after mesh 0 (nines 3) ≡ 0 ∷ 3 ∷ 9 ∷ [])
  pub other : (shared mesh 3 2 ≡ told 2 Accepted) × (output_after mesh 3 (nines 2) ≡ 0 ∷ 3 ∷ [])
  pub highest : (shared mesh 4 2 ≡ told 2 Accepted) × (output_after mesh 4 (nines 2) ≡ 2 ∷ 4 ∷ [])
  pub alone : (shared mesh 1 2 ≡ told 1 Accepted) × (output_after mesh 1 (nines 2) ≡ 1 ∷ 9 ∷ [])
  -- an output that is one entry short; and no such link, whatever the output
  pub no_room : (shared mesh 0 1 ≡ told 0 (Refused 11 2)) × (output_after mesh 0 (nines 1) ≡ nines 1)
  pub no_link : (shared mesh 5 0 ≡ told 0 (Refused 12 5)) × (output_after mesh 5 (nines 2) ≡ nines 2)
  -- and a mesh with the same ends
  pub same : SameEnds mesh plain
