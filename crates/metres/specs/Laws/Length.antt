-- The length of links by a list of them. Assumes nothing.
use Rattle.std.specs.Prelude.{ℕ, ◌<◌, ◌≡◌, refl, ◌↔◌, Bool, true, false, cond, ◌&&◌, eqb}
use Rattle.std.proofs.Common.{sym, ap₂, ◌∙◌, arith}
use Rattle.std.proofs.Math.Logic.Iff
use mathlib.Core.List.{List, Memᴰ}
use Rattle.std.proofs.Math.Decide.{ℕ_discrete}
use Rattle.scan.specs.Test.{Says, clash, and_says, eq_says}
use Rattle.scan.specs.Entry.{at}
use Rattle.scan.specs.Lowest.{any, any-zero, any_says}
use Rattle.scan.specs.Total.{total}
use Rattle.scan.specs.Distinct.{Distinct, total_distinct}
use Rattle.scan.specs.Listed.{Listing, total_listed, any_listed}
use Rattle.metres.specs.Known.{Metres, NotKnown}
use Rattle.metres.specs.Length.{length_of, LengthAlong}

-- no link: 0 metres
pub length_none : (length : ℕ → ℕ) (on : ℕ → Bool) → length_of length on 0 ≡ Metres 0
unfolding length_of total
length_none length on = rw (← any-zero (λ i. on i && eqb (length i) 0))

positive : (v : ℕ) → (v ≡ 0 → ⊥) → 0 < v
positive v h = elim (ℕ_discrete v 0) [ yes e ↦ absurd (h e) | no e ↦ omega arith ]

-- the links that are on, gone through in a row that lists them
pub length_listed : (length : ℕ → ℕ) {on : ℕ → Bool} {n many : ℕ} {row : List ℕ} → Listing on n many row
    → length_of (λ k. length (at row k)) (λ k. true) many ≡ length_of length on n
unfolding length_of
length_listed length s =
    ap₂ (λ (t : Bool) (sum : ℕ). cond t NotKnown (Metres sum)) (any_listed s (λ i. eqb (length i) 0)) (total_listed s length)

unknown-metres {ℓ} : {A : Type ℓ} {n : ℕ} → NotKnown ≡ Metres n → A
unknown-metres e = let z : ◌≡◌ {A = ℕ} 0 1 = cc in absurd (omega arith)

metres_same : {m n : ℕ} → Metres m ≡ Metres n → m ≡ n
metres_same e = cc

-- a row that holds just the links that are on, each once
pub length-along : (length : ℕ → ℕ) (on : ℕ → Bool) (n : ℕ) (row : List ℕ) → Distinct row → ((i : ℕ) → Memᴰ i row ↔ ((i < n) × (on i ≡ true)))
    → LengthAlong length row (length_of length on n)
unfolding length_of
length-along length on n row d same = go (any unmeasured n) refl
  where
    unmeasured : ℕ → Bool
    unmeasured i = on i && eqb (length i) 0

    sum : ℕ
    sum = total (λ i. cond (on i) (length i) 0) n

    says : (i : ℕ) → Says (unmeasured i) ((on i ≡ true) × (length i ≡ 0))
    says i = and_says Iff.rfl (eq_says (length i) 0)

    go : (t : Bool) → any unmeasured n ≡ t → LengthAlong length row (cond t NotKnown (Metres sum))
    go true e = record {
      known = (
        λ (m, q). unknown-metres q,
        λ all. let (i, l, u) = (any_says unmeasured n).0 e in let (o, z) = (says i).0 u in let h = all i ((same i).1 (l, o)) in absurd (omega arith),
      );
      sum = λ m q. unknown-metres q;
    }
    go false e = record {
      known = (
        λ w i o. let (l, t) = (same i).0 o in positive (length i) (λ z. clash ((any_says unmeasured n).1 (i, l, (says i).1 (t, z))) e),
        λ all. (sum, refl),
      );
      sum = λ m q. sym (metres_same q) ∙ total_distinct length on n row d (λ i o. (same i).0 o) (λ i l t. (same i).1 (l, t));
    }
