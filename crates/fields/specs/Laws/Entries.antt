-- The entries of a mesh and the mesh with these entries are inverse; parts of the entries, one entry, and a store in one. Assumes nothing.
use Rattle.std.specs.Prelude.{ℕ, zero, suc, ◌≡◌, refl, List, [], ◌∷◌, map, length, get_or, drop, set, replicate}
use Rattle.std.proofs.Common.{ap, arith}
use Rattle.scan.specs.Entry.{at}
use Rattle.mesh.specs.declared.Link.{Link}
use Rattle.mesh.specs.declared.Mesh.{Mesh}
use Rattle.mesh.specs.Mesh.{zero_link}
use Rattle.fields.specs.declared.Fields.{Fields}
use Rattle.fields.specs.Record.{as_link, as_fields, zero_fields}
use Rattle.fields.specs.Entries.{joined, entries_of, entry, mesh_with}

-- ---- links and duct numbers, entry by entry

abbrev ducts_of : List Fields → List ℕ
ducts_of fs = map (λ (f : Fields). f.duct) fs

length-joined : (ls : List Link) (ds : List ℕ) → length ls ≡ length ds → length (joined ls ds) ≡ length ls
unfolding joined
length-joined [] ds e = refl
length-joined (l ∷ ls) [] e = absurd (omega arith)
length-joined (l ∷ ls) (d ∷ ds) e = ap suc (length-joined ls ds (omega arith))

links_joined : (ls : List Link) (ds : List ℕ) → length ls ≡ length ds → map as_link (joined ls ds) ≡ ls
unfolding joined
links_joined [] ds e = refl
links_joined (l ∷ ls) [] e = absurd (omega arith)
links_joined (l ∷ ls) (d ∷ ds) e = λ j. l ∷ links_joined ls ds (omega arith) j

ducts_joined : (ls : List Link) (ds : List ℕ) → length ls ≡ length ds → ducts_of (joined ls ds) ≡ ds
unfolding joined
ducts_joined [] [] e = refl
ducts_joined [] (d ∷ ds) e = absurd (omega arith)
ducts_joined (l ∷ ls) [] e = absurd (omega arith)
ducts_joined (l ∷ ls) (d ∷ ds) e = λ j. d ∷ ducts_joined ls ds (omega arith) j

joined-parts : (fs : List Fields) → joined (map as_link fs) (ducts_of fs) ≡ fs
unfolding joined
joined-parts [] = refl
joined-parts (f ∷ fs) = λ j. f ∷ joined-parts fs j

pub drop-joined : (k : ℕ) (ls : List Link) (ds : List ℕ) → length ls ≡ length ds → drop k (joined ls ds) ≡ joined (drop k ls) (drop k ds)
unfolding joined
drop-joined zero ls ds e = refl
drop-joined (suc k) [] ds e = refl
drop-joined (suc k) (l ∷ ls) [] e = absurd (omega arith)
drop-joined (suc k) (l ∷ ls) (d ∷ ds) e = drop-joined k ls ds (omega arith)

pub zero-joined : (n : ℕ) → joined (replicate n zero_link) (replicate n 0) ≡ replicate n zero_fields
unfolding joined
zero-joined zero = refl
zero-joined (suc n) = λ j. zero_fields ∷ zero-joined n j

joined_at : (ls : List Link) (ds : List ℕ) → length ls ≡ length ds → (i : ℕ) → get_or (joined ls ds) i zero_fields ≡ as_fields (get_or ls i zero_link) (at ds i)
unfolding joined
joined_at [] [] e i = refl
joined_at [] (d ∷ ds) e i = absurd (omega arith)
joined_at (l ∷ ls) [] e i = absurd (omega arith)
joined_at (l ∷ ls) (d ∷ ds) e zero = refl
joined_at (l ∷ ls) (d ∷ ds) e (suc i) = joined_at ls ds (omega arith) i

pub set_joined : (ls : List Link) (ds : List ℕ) (i : ℕ) (l : Link) (d : ℕ) → joined (set ls i l) (set ds i d) ≡ set (joined ls ds) i (as_fields l d)
unfolding joined
set_joined [] ds i l d = refl
set_joined (b ∷ ls) [] zero l d = refl
set_joined (b ∷ ls) [] (suc i) l d = refl
set_joined (b ∷ ls) (c ∷ ds) zero l d = refl
set_joined (b ∷ ls) (c ∷ ds) (suc i) l d = λ j. as_fields b c ∷ set_joined ls ds i l d j

-- ---- the entries of a mesh

-- as many duct numbers as links
abbrev pub Even : Mesh → Type 0
Even m = length m.links ≡ length m.ducts

pub entries-mesh : (n k : ℕ) (fs : List Fields) → entries_of (mesh_with n k fs) ≡ fs
entries-mesh n k fs = joined-parts fs

pub mesh-entries : (m : Mesh) → Even m → mesh_with m.nodes m.count (entries_of m) ≡ m
mesh-entries m e = λ j. record { nodes = m.nodes; count = m.count; links = links_joined m.links m.ducts e j; ducts = ducts_joined m.links m.ducts e j }

pub length-entries : (m : Mesh) → Even m → length (entries_of m) ≡ length m.links
length-entries m e = length-joined m.links m.ducts e

-- entry i has the fields of link i
pub entry_is : (m : Mesh) → Even m → (i : ℕ) → get_or (entries_of m) i zero_fields ≡ entry m i
entry_is m e i = joined_at m.links m.ducts e i
