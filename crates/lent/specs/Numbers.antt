-- The numbers that a call takes beside the state, by their widths: their parameters in a signature, a definition's value at them, and the code
-- that stores and passes them.
use Rattle.std.specs.Prelude.{ℕ, suc, List, [], ◌∷◌}
use mir.Syntax.{Width, Local, local, value_local, ty_int, Opd, copy, place}
use contract.Lifetimes.{Lfts}
use denote.RattleType.{RattleType, Denots, Valss}
use denote.Laws.{Spells, valss}
use denote.Plain.{UInt, uint_vals}
use denote.Signature.{Slot, plain, types_at}

-- a definition takes them one after another
abbrev pub Takes : List Width → Type 0 → Type 0
Takes [] X = X
Takes (w ∷ ws) X = ℕ → Takes ws X

-- their parameters in a signature of n lifetimes
abbrev pub slots : (n : ℕ) → List Width → List (Slot n)
slots n [] = []
slots n (w ∷ ws) = plain (λ κs. UInt w) ∷ slots n ws

-- a signature's lifetimes: how many, and which
abbrev pub Lives : Type 0
Lives = (n : ℕ) × Lfts n

module _ (ℓ : Lives) where
  abbrev pub rows : List Width → List RattleType
  rows ws = types_at (slots ℓ.0 ws) ℓ.1

  -- the numbers, as arguments
  abbrev pub Numbers : List Width → Type 0
  Numbers ws = Denots (rows ws)

  abbrev pub applied : (ws : List Width) {X : Type 0} → Takes ws X → Numbers ws → X
  applied [] x a = x
  applied (w ∷ ws) g a = applied ws (g a.0) a.1

  -- their machine values
  abbrev pub spellings : (ws : List Width) → Spells (rows ws)
  spellings [] = tt
  spellings (w ∷ ws) = (uint_vals w, spellings ws)

  abbrev pub values : (ws : List Width) → Numbers ws → Valss (rows ws)
  values ws = valss (rows ws) (spellings ws)

-- the same numbers as arguments at another signature's lifetimes
abbrev pub passed_on : (ℓ μ : Lives) (ws : List Width) → Numbers ℓ ws → Numbers μ ws
passed_on ℓ μ [] a = tt
passed_on ℓ μ (w ∷ ws) a = (a.0, passed_on ℓ μ ws a.1)

-- ---- in code: a local for each, its copy from the local k on, and the number of the local that is k where there are none
abbrev pub locals : List Width → List Local
locals [] = []
locals (w ∷ ws) = local (ty_int w) value_local ∷ locals ws

abbrev pub copies : ℕ → List Width → List Opd
copies k [] = []
copies k (w ∷ ws) = copy (place k []) ∷ copies (suc k) ws

abbrev pub past : ℕ → List Width → ℕ
past k [] = k
past k (w ∷ ws) = past (suc k) ws
