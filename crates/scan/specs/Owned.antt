-- What owning an array tells of its elements: what owning an element tells of it. Serves the ranges of records with arrays. Assumes nothing.
use Rattle.std.specs.Prelude.{ℕ, zero, suc, List, [], ◌∷◌, map, get_or}
use mir.Val.{Val}
use denote.Shadow.{shadow}
use denote.Array.{each}
use denote.Struct.Field.{Field}
use denote.RattleType.{RattleType}

-- of each element, and of one past the end, of which it is known
pub each_tells : (F : Field) (P : F.Value → Type 0) (a : F.Value) → P a → ((x : F.Value) (u : Val) → shadow (F.row.own_val (F.into x) (u ∷ [])) → P x)
    → (l : List F.Value) (us : List Val) → shadow (each F.row.Denot F.row.own_val (map F.into l) us) → (i : ℕ) → P (get_or l i a)
each_tells F P a p tells [] us q i = p
each_tells F P a p tells (x ∷ l) [] q i = absurd q
each_tells F P a p tells (x ∷ l) (u ∷ us) q zero = tells x u q.0
each_tells F P a p tells (x ∷ l) (u ∷ us) q (suc i) = each_tells F P a p tells l us q.1 i

-- the same of a type of elements by its row alone
pub items_tell : (R : RattleType) (P : R.Denot → Type 0) (a : R.Denot) → P a → ((x : R.Denot) (u : Val) → shadow (R.own_val x (u ∷ [])) → P x)
    → (l : List R.Denot) (us : List Val) → shadow (each R.Denot R.own_val l us) → (i : ℕ) → P (get_or l i a)
items_tell R P a p tells [] us q i = p
items_tell R P a p tells (x ∷ l) [] q i = absurd q
items_tell R P a p tells (x ∷ l) (u ∷ us) q zero = tells x u q.0
items_tell R P a p tells (x ∷ l) (u ∷ us) q (suc i) = items_tell R P a p tells l us q.1 i
