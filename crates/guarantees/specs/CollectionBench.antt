-- Document 000's collection route (1 2 3 4 3 2 5 6 5 2 1; its vertices 1 to 6 are nodes 0 to 5 here), on its tree with two further links, from its root and from
-- another; two nodes with a link; and the refusals (02, request 5). Definitions only; the theorem is `collection_bench` of Main.
use Rattle.std.specs.Prelude.{ℕ, ◌≡◌, Bool, true, false, List, [], ◌∷◌, replicate}
use Rattle.mesh.specs.declared.Mesh.{Mesh}
use Rattle.mesh.specs.Answer.{Accepted, Refused}
use Rattle.mesh.specs.Mesh.{zero_link}
use Rattle.depth_first.specs.Folded.{Met}
use Rattle.collection.specs.declared.Collected.{Collected}
use Rattle.collection.specs.Collection.{no_labels, tree_of, collected, output_after}
use Rattle.guarantees.specs.Bench.{ends}

-- the tree links are 0, 3, 4, 5 and 6
abbrev pub mesh : Mesh
mesh = record {
  nodes = 6;
  count = 7;
  links = ends 0 1 ∷ ends 0 3 ∷ ends 0 5 ∷ ends 1 2 ∷ ends 1 4 ∷ ends 2 3 ∷ ends 4 5 ∷ replicate 249 zero_link;
  ducts = replicate 256 0;
}

abbrev pub two : Mesh
two = record { nodes = 2; count = 1; links = ends 0 1 ∷ replicate 255 zero_link; ducts = replicate 256 0 }

-- two links on four nodes, a path of three and a node by itself: it is apart
abbrev pub apart : Mesh
apart = record { nodes = 4; count = 2; links = ends 0 1 ∷ ends 1 3 ∷ replicate 254 zero_link; ducts = replicate 256 0 }

-- a link with equal ends
abbrev pub wrong : Mesh
wrong = record { nodes = 4; count = 1; links = ends 1 1 ∷ replicate 255 zero_link; ducts = replicate 256 0 }

abbrev refused : ℕ → ℕ → Collected
refused number place = record { tree = no_labels; count = 0; answer = Refused number place }

abbrev seven : Bool → Bool → Bool → Bool → Bool → Bool → Bool → List Bool
seven a b c d e f g = a ∷ b ∷ c ∷ d ∷ e ∷ f ∷ g ∷ replicate 249 false

-- an output of so many entries, each 99 before the call
abbrev filled : ℕ → List ℕ
filled n = replicate n 99

pub record Holds : Type 0 where
  -- from node 0, with an entry more than is needed
  pub route : output_after mesh 0 (filled 12) ≡ 0 ∷ 1 ∷ 2 ∷ 3 ∷ 2 ∷ 1 ∷ 4 ∷ 5 ∷ 4 ∷ 1 ∷ 0 ∷ 99 ∷ []
  pub labels : collected mesh 0 12 ≡ record { tree = seven true false false true true true true; count = 11; answer = Accepted }
  -- node 5 is met from node 4, and that from node 1: these and the root are its ancestors
  pub ancestors : Met 5 0 (tree_of mesh 0) (0 ∷ 1 ∷ 4 ∷ [])
  -- from node 4, with as many entries as are needed
  pub elsewhere : output_after mesh 4 (filled 11) ≡ 4 ∷ 1 ∷ 0 ∷ 3 ∷ 2 ∷ 3 ∷ 0 ∷ 5 ∷ 0 ∷ 1 ∷ 4 ∷ []
  pub other_labels : collected mesh 4 11 ≡ record { tree = seven true true true false true true false; count = 11; answer = Accepted }
  -- two nodes with a link, a tree
  pub smallest : output_after two 1 (filled 4) ≡ 1 ∷ 0 ∷ 1 ∷ 99 ∷ []
  pub only_label : collected two 1 4 ≡ record { tree = true ∷ replicate 255 false; count = 3; answer = Accepted }
  -- one entry too few: 11 with the entries needed, and the output as it was
  pub short : (collected mesh 0 10 ≡ refused 11 11) × (output_after mesh 0 (filled 10) ≡ filled 10)
  -- 20 at the lowest node that node 0 does not reach, from a root that is with node 0 and from one that is not, before 11
  pub parted : (collected apart 3 7 ≡ refused 20 2) × (collected apart 2 0 ≡ refused 20 2) × (output_after apart 2 (filled 7) ≡ filled 7)
  -- 6 at 0 for a root that is no node, before 20 and 11
  pub no_root : (collected mesh 6 11 ≡ refused 6 0) × (collected apart 4 0 ≡ refused 6 0)
  -- the mesh checks before all of them
  pub unchecked : collected wrong 4 0 ≡ refused 7 0
