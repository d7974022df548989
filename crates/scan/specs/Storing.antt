-- A run of stores that is done part by part: what is kept between the parts, one part, the end. Assumes nothing.
use Rattle.std.specs.Prelude.{ℕ, ◌+◌, ◌≤◌, ◌≡◌, refl, List, [], ◌++◌, length}
use Rattle.std.proofs.Common.{sym, ◌∙◌, ap, arith, length-append}
use Rattle.std.proofs.lemmas.List.Edits.{sets}
use Rattle.std.proofs.Math.Seq.{length-sets}
use Rattle.scan.specs.Store.{sets_append}

-- of the stores of `all` from `start` on in out₀ those of `rest` from `at` on in out are left
pub record Storing {A : Type 0} (out₀ : List A) (start : ℕ) (all : List A) (out : List A) (at : ℕ) (rest : List A) : Type 0 where
  pub same : length out ≡ length out₀
  pub room : at + length rest ≤ length out
  pub ends : at + length rest ≡ start + length all
  pub left : sets out₀ start all ≡ sets out at rest

module _ {A : Type 0} where
  pub storing_all : (out : List A) (start : ℕ) (all : List A) → start + length all ≤ length out → Storing out start all out start all
  storing_all out start all h = record { same = refl; room = h; ends = refl; left = refl }

  module _ {out₀ : List A} {start : ℕ} {all out : List A} {at : ℕ} {rest : List A} (S : Storing out₀ start all out at rest) where
    -- the first part of what is left fits
    pub storing_room : (xs ys : List A) → rest ≡ xs ++ ys → at + length xs ≤ length out
    storing_room xs ys e = omega (arith, S.room, ap length e ∙ length-append xs ys)

    -- and is stored
    pub storing_next : (xs ys : List A) → rest ≡ xs ++ ys → {out' : List A} {at' : ℕ} → out' ≡ sets out at xs → at' ≡ at + length xs
        → Storing out₀ start all out' at' ys
    storing_next xs ys e {out'} {at'} o a =
        let split : length rest ≡ length xs + length ys = ap length e ∙ length-append xs ys in
        let same : length out' ≡ length out = ap length o ∙ length-sets out at xs in
        record {
          same = same ∙ S.same;
          room = omega (arith, S.room);
          ends = omega (arith, S.ends);
          left = S.left ∙ (rw (e, o, a) (sets_append out at xs ys));
        }

    -- all that is left is stored
    pub storing_last : {out' : List A} → out' ≡ sets out at rest → out' ≡ sets out₀ start all
    storing_last o = o ∙ sym S.left

    -- nothing is left
    pub storing_end : rest ≡ [] → out ≡ sets out₀ start all
    storing_end e = sym (S.left ∙ rw e)
