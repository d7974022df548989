-- The books of the drills with one and with two middle nodes, inputs of each kind, and the links ever offered after lists of calls (02, request 6). Definitions
-- only; the theorem is `drill_bench` of Main.
use Rattle.std.specs.Prelude.{ℕ, ◌≡◌, List, [], ◌∷◌, map, replicate}
use Rattle.scan.specs.Total.{count}
use Rattle.mesh.specs.declared.Plan.{Plan}
use Rattle.wavelengths.specs.declared.Wavelength.{Wavelength}
use Rattle.wavelengths.specs.declared.Wavelength.TheVariants.{First, Second}
use Rattle.topology.specs.Backup.{backup}
use Rattle.codec.specs.Book.{book_of}
use Rattle.heaviest.specs.Asked.{Asked, Middles, Refused}
use Rattle.heaviest.specs.Drill.{drill}
use Rattle.heaviest.specs.Input.{asked}
use Rattle.history.specs.History.{Call, by_value, cut, deliver, run, mend, status}
use Rattle.history.specs.Rules.{start}
use Rattle.history.specs.Offered.{none_offered, offered}

-- an input, and what it asks for
pub record Row : Type 0 where
  pub input : List ℕ
  pub asks : Asked

abbrev row : List ℕ → Asked → Row
row s a = record { input = s; asks = a }

-- digits are 48 to 57, a line feed is 10, a carriage return 13, a blank 32, a plus sign 43
abbrev pub table : List Row
table =
    row (49 ∷ []) (Middles 1)
    ∷ row (49 ∷ 10 ∷ []) (Middles 1)
    ∷ row (57 ∷ []) (Middles 9)
    ∷ row (49 ∷ 48 ∷ []) (Middles 10)
    ∷ row (51 ∷ 49 ∷ 10 ∷ []) (Middles 31)
    ∷ row (54 ∷ 50 ∷ []) (Middles 62)
    ∷ row (54 ∷ 50 ∷ 10 ∷ []) (Middles 62)
    -- none; 0; 63
    ∷ row [] Refused
    ∷ row (48 ∷ []) Refused
    ∷ row (54 ∷ 51 ∷ []) Refused
    -- leading zeros, a sign, blanks
    ∷ row (48 ∷ 49 ∷ []) Refused
    ∷ row (48 ∷ 54 ∷ 50 ∷ []) Refused
    ∷ row (43 ∷ 49 ∷ []) Refused
    ∷ row (49 ∷ 32 ∷ 50 ∷ []) Refused
    ∷ row (32 ∷ 49 ∷ []) Refused
    -- a line feed alone, before and twice after; a carriage return
    ∷ row (10 ∷ []) Refused
    ∷ row (10 ∷ 49 ∷ []) Refused
    ∷ row (49 ∷ 10 ∷ 10 ∷ []) Refused
    ∷ row (54 ∷ 50 ∷ 10 ∷ 10 ∷ []) Refused
    ∷ row (49 ∷ 13 ∷ 10 ∷ []) Refused
    -- no digits: those beside 0 and 9; a third digit
    ∷ row (47 ∷ []) Refused
    ∷ row (58 ∷ []) Refused
    ∷ row (49 ∷ 47 ∷ []) Refused
    ∷ row (49 ∷ 58 ∷ []) Refused
    ∷ row (49 ∷ 50 ∷ 51 ∷ []) Refused
    ∷ []

-- the drill with two middle nodes: its last link is 4, and its plan 0 1 0 1 0
abbrev plan : Plan
plan = record { directions = 0 ∷ 1 ∷ 0 ∷ 1 ∷ 0 ∷ replicate 251 0 }

-- how many links of it the rules ever offered on a wavelength, after the calls
abbrev pub offered_after : List Call → Wavelength → ℕ
offered_after calls w = count (offered (backup (drill 2) plan) calls start none_offered w) 5

-- deliveries on wavelength 1
abbrev deliveries : List ℕ → List Call
deliveries js = map (λ (j : ℕ). deliver by_value j 1) js

abbrev cut_last : Call
cut_last = cut by_value 4

pub record Holds : Type 0 where
  pub inputs : map (λ (r : Row). asked r.input) table ≡ map (λ (r : Row). r.asks) table
  -- P1's book
  pub one_middle : book_of (drill 1) ≡ 1 ∷ 3 ∷ 3 ∷ 0 ∷ 0 ∷ 2 ∷ 2 ∷ 1 ∷ 1 ∷ []
  pub two_middles : book_of (drill 2) ≡ 1 ∷ 4 ∷ 5 ∷ 0 ∷ 2 ∷ 2 ∷ 2 ∷ 3 ∷ 1 ∷ 1 ∷ 2 ∷ 3 ∷ 1 ∷ 2 ∷ []
  -- links 0 and 2 right after the cut; all four after two orders that come to rest, and three where node 1 is not yet reached
  pub just_cut : offered_after (cut_last ∷ []) First ≡ 2
  pub lowest-first : offered_after (cut_last ∷ deliveries (0 ∷ 1 ∷ 2 ∷ 3 ∷ 3 ∷ 2 ∷ [])) First ≡ 4
  pub both_at_once : offered_after (cut_last ∷ deliveries (2 ∷ 0 ∷ 3 ∷ 1 ∷ 1 ∷ 0 ∷ [])) First ≡ 4
  pub one_reached : offered_after (cut_last ∷ deliveries (0 ∷ 1 ∷ [])) First ≡ 3
  -- of a run every delivery counts, on each wavelength; refused calls and a status change nothing; a mend leaves none, and another cut begins anew
  pub in_a-run : (offered_after (cut_last ∷ run 100 ∷ []) First ≡ 4) × (offered_after (cut_last ∷ run 100 ∷ []) Second ≡ 4)
  pub unchanged : offered_after (cut_last ∷ deliver by_value 3 1 ∷ cut by_value 0 ∷ status 0 1 ∷ mend by_value 4 ∷ []) First ≡ 2
  pub mended : offered_after (cut_last ∷ run 100 ∷ mend by_value 4 ∷ []) First ≡ 0
  pub cut_again : offered_after (cut_last ∷ run 100 ∷ mend by_value 4 ∷ cut by_value 0 ∷ []) First ≡ 1
