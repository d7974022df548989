-- What the program writes for an input (02, request 6). Definitions only.
use Rattle.std.specs.Prelude.{ℕ, ◌≤◌, ◌<◌, ◌≡◌, List, ◌++◌, length, drop, Option, None, Some}
use Rattle.codec.specs.Book.{longest_book, book_of}
use Rattle.heaviest.specs.Drill.{drill}
use Rattle.heaviest.specs.Input.{Names}

-- for the input s, with an output that held out before the call and holds out' after it, so many bytes are written, or none
pub record Writes (s out out' : List ℕ) (written : Option ℕ) : Type 0 where
  -- for m from 1 to 62 in decimal without leading zeros, with or without one line feed after it: the book of the drill with m middle nodes, where there is room for
  -- the longest book
  pub named : (m : ℕ) → Names s m → longest_book ≤ length out → let n = length (book_of (drill m)) in
      (0 < n) × (written ≡ Some n) × (out' ≡ book_of (drill m) ++ drop n out)
  -- for any other input nothing
  pub other : ((m : ℕ) → ¬ Names s m) → (written ≡ None) × (out' ≡ out)
