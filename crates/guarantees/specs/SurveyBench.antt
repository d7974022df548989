-- Surveys of small meshes. Definitions only; the theorem is `survey_bench` of Main.
use Rattle.std.specs.Prelude.{ℕ, ◌-◌, ◌≡◌, List, [], ◌∷◌, ◌++◌, length, replicate}
use Rattle.mesh.specs.Answer.{Accepted, Refused}
use Rattle.bridges.specs.declared.Surveyed.{Surveyed}
use Rattle.bridges.specs.Survey.{surveyed}
use Rattle.guarantees.specs.Bench.{ends}
use Rattle.guarantees.specs.DoubledBench.{on}

-- an accepted survey with these parts and marks
abbrev pub gives : List ℕ → List ℕ → Surveyed
gives parts bridges = record {
  parts = parts ++ replicate (64 - length parts) 0;
  bridges = bridges ++ replicate (256 - length bridges) 0;
  answer = Accepted;
}

pub record Holds : Type 0 where
  -- a path: every link is a bridge
  pub path : surveyed (on 4 (ends 0 1 ∷ ends 1 2 ∷ ends 2 3 ∷ [])) ≡ gives (0 ∷ 0 ∷ 0 ∷ 0 ∷ []) (1 ∷ 1 ∷ 1 ∷ [])
  -- two parts, each with one bridge, beside a triangle and beside a doubled link, and a node alone
  pub parts : surveyed (on 8 (ends 0 2 ∷ ends 0 4 ∷ ends 1 3 ∷ ends 1 3 ∷ ends 2 4 ∷ ends 3 5 ∷ ends 4 6 ∷ []))
      ≡ gives (0 ∷ 1 ∷ 0 ∷ 1 ∷ 0 ∷ 1 ∷ 0 ∷ 7 ∷ []) (0 ∷ 0 ∷ 0 ∷ 0 ∷ 0 ∷ 1 ∷ 1 ∷ [])
  -- no links: each node is a part
  pub none : surveyed (on 3 []) ≡ gives (0 ∷ 1 ∷ 2 ∷ []) []
  -- a ring: one part, no bridge
  pub ring : surveyed (on 3 (ends 0 1 ∷ ends 0 2 ∷ ends 1 2 ∷ [])) ≡ gives (0 ∷ 0 ∷ 0 ∷ []) []
  -- a refused mesh
  pub refused : surveyed (on 3 (ends 0 2 ∷ ends 0 1 ∷ [])) ≡ record { parts = replicate 64 0; bridges = replicate 256 0; answer = Refused 8 1 }
