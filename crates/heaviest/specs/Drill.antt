-- The heaviest drill (02, request 6): middle nodes 0 to m - 1, each linked to nodes m and m + 1, and a link between these two. Definitions only.
use Rattle.std.specs.Prelude.{ℕ, zero, suc, ◌+◌, ◌*◌, ◌-◌, Bool, cond, ◌&&◌, List, [], ◌∷◌, ◌++◌, replicate, leb}
use Rattle.mesh.specs.declared.Link.{Link}
use Rattle.mesh.specs.declared.Mesh.{Mesh}
use Rattle.mesh.specs.Mesh.{zero_link, zero_mesh}

-- a link with neither length nor fibre pair
abbrev pub span : ℕ → ℕ → Link
span low high = record { low = low; high = high; length = 0; pair = 0 }

-- the links of middle node i
abbrev pub spans_at : ℕ → ℕ → List Link
spans_at m i = span i m ∷ (span i (m + 1) ∷ [])

-- those of the middle nodes 0 to n - 1, in rising order of (low, high)
unfoldable pub spans_below : ℕ → ℕ → List Link
spans_below m zero = []
spans_below m (suc n) = spans_below m n ++ spans_at m n

-- all links: the one between the outer nodes stands last
abbrev pub drill_links : ℕ → List Link
drill_links m = spans_below m m ++ (span m (m + 1) ∷ [])

-- the drill with m middle nodes: m + 2 nodes and 2 × m + 1 links, and all entries past these zero
abbrev pub drill : ℕ → Mesh
drill m = record {
  nodes = m + 2;
  count = 2 * m + 1;
  links = drill_links m ++ replicate (256 - (2 * m + 1)) zero_link;
  ducts = replicate 256 0;
}

-- m from 1 to 62
abbrev pub is_size : ℕ → Bool
is_size m = leb 1 m && leb m 62

-- what the library makes for any number: the all-zero mesh where there is no drill
unfoldable pub drill_of : ℕ → Mesh
drill_of m = cond (is_size m) (drill m) zero_mesh
