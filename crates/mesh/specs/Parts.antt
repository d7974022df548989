-- A mesh taken apart, as functions that are lent arrays get it: N, L, the ends of the links as numbers, and whether each entry past the last
-- link is zero. The mesh checks on these parts. Definitions only.
use Rattle.std.specs.Prelude.{ℕ, zero, suc, ◌+◌, ◌*◌, min, Bool, List, ◌∷◌}
use Rattle.scan.specs.Entry.{at}
use Rattle.scan.specs.Fill.{filled, table_of}
use Rattle.ends.specs.Ends.{low_of, high_of}
use Rattle.mesh.specs.declared.Link.{Link}
use Rattle.mesh.specs.declared.Mesh.{Mesh}
use Rattle.mesh.specs.Answer.{Answer, Accepted}
use Rattle.mesh.specs.Mesh.{must, and_then, nodes_fit, count_fits, ends_answer}
pub use Rattle.mesh.specs.Mesh.{rest_zero}
use Rattle.mesh.specs.WellFormed.{link}

-- the ends of a link as one number, which rises as the pairs (low, high) do
abbrev pub ends_of : Link → ℕ
ends_of l = 256 * l.low + l.high

-- an array of 256 entries whose first become the ends of m's links
abbrev pub ends_into : Mesh → List ℕ → List ℕ
ends_into m l = filled (λ i. ends_of (link m i)) (min m.count 256) l

-- the ends of m's links in an array of 256 entries, 0 past the last link
abbrev pub ends_in : Mesh → List ℕ
ends_in m = table_of (λ i. ends_of (link m i)) m.count

-- entry i of these ends after the entry before it; 0 stands before the first: 7, 6, 8
abbrev pub entry_answer : ℕ → List ℕ → ℕ → Answer
entry_answer n ends i = ends_answer n (low_of (at (0 ∷ ends) i)) (high_of (at (0 ∷ ends) i)) (low_of (at ends i)) (high_of (at ends i)) i

-- d entries in turn from entry i on
unfoldable pub entries_answer : ℕ → List ℕ → ℕ → ℕ → Answer
entries_answer n ends i zero = Accepted
entries_answer n ends i (suc d) = and_then (entry_answer n ends i) (entries_answer n ends (suc i) d)

-- the mesh checks on the parts of a mesh: 3, 4; each link 7, 6, 8; then 13
unfoldable pub parts_answer : ℕ → ℕ → Bool → List ℕ → Answer
parts_answer n k rest ends =
    must (nodes_fit n) 3 0
    (must (count_fits k) 4 0
    (and_then (entries_answer n ends 0 k)
    (must rest 13 0
    Accepted)))
