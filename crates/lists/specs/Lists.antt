-- Lists of calls as letters and numbers, and their answers as numbers. Definitions only.
use Rattle.std.specs.Prelude.{ℕ, zero, suc, ◌/◌, min, List, [], ◌∷◌, ◌++◌, length, get_or, drop}
use Rattle.history.specs.History.{Call, Answered}
use Rattle.call.specs.declared.Numbers.{Numbers}
use Rattle.call.specs.Encoding.{call_of}
use Rattle.call.specs.Record.{reply_numbers}

-- the n calls that the letters and numbers from index i on say; a number that is not there is 0
unfoldable pub calls_from : List ℕ → List ℕ → ℕ → ℕ → List Call
calls_from letters numbers i zero = []
calls_from letters numbers i (suc n) = call_of (get_or letters i 0) (get_or numbers i 0) ∷ calls_from letters numbers (suc i) n

-- the list of calls: one for each letter, as many as an output of `room` numbers has room for with four numbers for each answer
abbrev pub calls_of : List ℕ → List ℕ → ℕ → List Call
calls_of letters numbers room = calls_from letters numbers 0 (min (length letters) (room / 4))

-- the four numbers in a row
abbrev pub list_of : Numbers → List ℕ
list_of a = a.case ∷ a.first ∷ a.second ∷ a.third ∷ []

-- the answers of a list of calls, four numbers each
unfoldable pub record_of : List Answered → List ℕ
record_of [] = []
record_of ((c, a) ∷ rest) = list_of (reply_numbers c a) ++ record_of rest

-- the output after the calls: their answers, then what it held past them
abbrev pub written : List Answered → List ℕ → List ℕ
written answers out = record_of answers ++ drop (length (record_of answers)) out
