-- The entries of a mesh by their fields: a mesh has its duct numbers beside its links. Definitions only.
use Rattle.std.specs.Prelude.{ℕ, List, [], ◌∷◌, map}
use Rattle.mesh.specs.declared.Link.{Link}
use Rattle.mesh.specs.declared.Mesh.{Mesh}
use Rattle.mesh.specs.WellFormed.{link, duct}
use Rattle.fields.specs.declared.Fields.{Fields}
use Rattle.fields.specs.Record.{as_link, as_fields}

-- links and duct numbers, entry by entry
unfoldable pub joined : List Link → List ℕ → List Fields
joined [] ds = []
joined (l ∷ ls) [] = []
joined (l ∷ ls) (d ∷ ds) = as_fields l d ∷ joined ls ds

-- the fields of each entry of m
abbrev pub entries_of : Mesh → List Fields
entries_of m = joined m.links m.ducts

-- the fields of link i of m
abbrev pub entry : Mesh → ℕ → Fields
entry m i = as_fields (link m i) (duct m i)

-- the mesh of n nodes and k links whose entries have these fields
abbrev pub mesh_with : ℕ → ℕ → List Fields → Mesh
mesh_with n k fs = record { nodes = n; count = k; links = map as_link fs; ducts = map (λ (f : Fields). f.duct) fs }
