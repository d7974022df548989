-- Entries and duct numbers that are zero, one and in a row. Assumes nothing.
use Rattle.std.specs.Prelude.{ℕ, ◌≤◌, ◌≡◌, true, ◌&&◌, List, length, replicate, eqb}
use Rattle.std.proofs.Common.{lit<}
use Rattle.scan.specs.Test.{Says, eq_says, and_says}
use Rattle.scan.specs.All.{all_same}
use Rattle.scan.specs.Joining.{Joined, joined-all}
use Rattle.mesh.specs.declared.Link.{Link}
use Rattle.mesh.specs.declared.Mesh.{Mesh}
use Rattle.mesh.specs.Mesh.{zero_link, is_zero, all_zero, ductless, rest_zero}
use Rattle.mesh.specs.WellFormed.{LinkInRange}

pub zero_says : (l : Link) → Says (is_zero l) (l ≡ zero_link)
zero_says l = (same, λ e. rw e)
  where
    zero : (v : ℕ) → Says (eqb v 0) (v ≡ 0)
    zero v = eq_says v 0

    same : is_zero l ≡ true → l ≡ zero_link
    same t =
        let (((low, high), length), pair) = (and_says (and_says (and_says (zero l.low) (zero l.high)) (zero l.length)) (zero l.pair)).0 t in
        λ j. record { low = low j; high = high j; length = length j; pair = pair j }

-- the zero link is in range
pub zero_in_range : LinkInRange zero_link
zero_in_range = record { low = lit< tt; high = lit< tt; length = lit< tt; pair = lit< tt }

pub zero_links : (ls : List Link) → all_zero ls ≡ true → ls ≡ replicate (length ls) zero_link
zero_links ls t = all_same is_zero zero_link (λ l. (zero_says l).0) ls t

-- the same of duct numbers
pub no_ducts : (ds : List ℕ) → ductless ds ≡ true → ds ≡ replicate (length ds) 0
no_ducts ds t = all_same (λ d. eqb d 0) 0 (λ d. (eq_says d 0).0) ds t

-- a loop over the entries and one over the duct numbers, each to the end, tell whether each entry past the last link is zero
pub rest-joined : (m : Mesh) (i bits j ducts : ℕ)
    → Joined is_zero m.links m.count i bits → length m.links ≤ i
    → Joined (λ d. eqb d 0) m.ducts m.count j ducts → length m.ducts ≤ j
    → (eqb bits 0 && eqb ducts 0) ≡ rest_zero m
rest-joined m i bits j ducts e h f g = λ t. joined-all is_zero m.links m.count i bits e h t && joined-all (λ d. eqb d 0) m.ducts m.count j ducts f g t
