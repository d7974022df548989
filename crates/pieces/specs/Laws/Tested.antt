-- The record test, and what the functions on the back-up digraph are given, by what `split` gives of a mesh. Assumes nothing.
use Rattle.std.specs.Prelude.{ℕ, ◌<◌, ◌≡◌, refl, Bool, true, List, replicate}
use Rattle.std.proofs.Common.{◌∙◌}
use Rattle.scan.specs.Test.{clash}
use Rattle.mesh.specs.declared.Mesh.{Mesh}
use Rattle.mesh.specs.Answer.{Answer, Accepted}
use Rattle.mesh.specs.WellFormed.{InRange}
use Rattle.mesh.specs.Parts.{ends_into, ends_in, rest_zero, parts_answer}
use Rattle.mesh.specs.Laws.Parts.{ends_in_lem}
use Rattle.wavelengths.specs.declared.Floods.{Floods}
use Rattle.formed.specs.Cut.{Cut}
use Rattle.formed.specs.Cut as cuts
use Rattle.formed.specs.Formed.{cut_link}
use Rattle.formed.specs.Pieces.{record_after}
use Rattle.formed.specs.Laws.Forming.{record_mesh, record_cut}
use Rattle.formed.specs.Laws.Pieces.{record_pieces}
use Rattle.refusals.specs.Refusals.{standing, cut_answer}
use Rattle.refusals.proofs.Laws.Tested.{cut-accepted}
use Rattle.pieces.specs.Given.{Given}
use Rattle.pieces.specs.Pieces.{tested}

stands-link : (c : Cut) → standing c ≡ true → c ≡ cuts.Link (cut_link c)
stands-link cuts.Nothing t = clash t refl
stands-link (cuts.Link k) t = refl

-- what `split` gives of a mesh, from an array of zeros
abbrev pub Split : Mesh → List ℕ → Bool → Type 0
Split m ends zeros = (zeros ≡ rest_zero m) × ((ends ≡ ends_into m (replicate 256 0)) × InRange m)

module _ (m : Mesh) (ends : List ℕ) (zeros : Bool) (split : Split m ends zeros) (directions : List ℕ) (c : Cut) (f : Floods) where
  -- the record test on these parts is that of the pieces
  pub tested_is : {a : Answer} → a ≡ record_after (parts_answer m.nodes m.count zeros ends) m.nodes m.count directions c f
      → a ≡ tested m directions c f
  tested_is e =
      e
      ∙ (λ j. record_after (parts_answer m.nodes m.count (split.0 j) ((split.1.0 ∙ ends_in_lem m) j)) m.nodes m.count directions c f)
      ∙ record_pieces m (record { directions = directions }) c f split.1.1

-- what is given where the record is accepted, with the ends of the mesh's links: a link to cut, or the cut that stands
module _ (m : Mesh) (ends : List ℕ) (stored : ends ≡ ends_in m) (ranges : InRange m) (directions : List ℕ) (c : Cut) (f : Floods) where
  given : (k : ℕ) → tested m directions c f ≡ Accepted → k < m.count → Given m m.count ends k
  given k r below = record {
    accepted = record_mesh m (record { directions = directions }) c f r;
    ranges = ranges;
    counted = refl;
    stored = stored;
    link = below;
  }

  pub given_cut : (k : ℕ) → cut_answer (tested m directions c f) m.count c k ≡ Accepted → Given m m.count ends k
  given_cut k a = let (r, below, free) = cut-accepted (tested m directions c f) m.count k c a in given k r below

  pub given_standing : tested m directions c f ≡ Accepted → standing c ≡ true → Given m m.count ends (cut_link c)
  given_standing r stands = given (cut_link c) r (record_cut m (record { directions = directions }) c f r (cut_link c) (stands-link c stands))
