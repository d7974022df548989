-- The failure of a blank flood reaches the source alone and offers just the links that leave it, and so brings the invariant about. A fresh flood is blank.
-- Assumes nothing.
use Rattle.std.specs.Prelude.{ℕ, ◌<◌, ◌≤◌, ◌≡◌, ◌≢◌, ◌↔◌}
use Rattle.std.proofs.Common.{sym, ◌∙◌, inl, inr, arith, get_or-set_other}
use Rattle.std.proofs.Math.Path.{subst}
use Rattle.std.proofs.Math.Logic.{⊎_elim}
use Rattle.std.proofs.Math.Bool.{true, false, cond}
use Rattle.std.proofs.Math.Decide.{ℕ_discrete}
use Rattle.std.proofs.lemmas.List.{length-replicate}
use Rattle.std.proofs.Math.Seq.{get_or-set_same}
use Rattle.scan.specs.Test.{clash, known, fails}
use Rattle.scan.specs.Entry.{at, has, replicate-at}
use Rattle.flood.specs.Digraph.{Digraph, Failure, Sound}
use Rattle.flood.specs.Machine.{Flood, fresh, leaves, begin, Blank}
use Rattle.flood.specs.Laws.Tests.{Leaves, leaves_says, at-offer}
use Rattle.flood.specs.Laws.Invariant.{Open, Needed, Inv}

pub fresh_blank : (g : Digraph) (l n : ℕ) → g.links ≤ l → g.nodes ≤ n → Blank g (fresh l n)
unfolding fresh
fresh_blank g l n p q =
    record {
      room = record { long = rw (length-replicate {A = ℕ} l 0) p; wide = rw (length-replicate n false) q };
      quiet = replicate-at l 0;
      unreached = replicate-at n false;
    }

module _ (g : Digraph) (c : Failure) {f : Flood} (blank : Blank g f) where
  open g use {links, tail}
  open c use {source}

  pub begin-reached : {v : ℕ} → has (begin g c f).reached v ≡ true → v ≡ source
  unfolding begin
  begin-reached {v} r = elim (ℕ_discrete v source) [ yes e ↦ e | no n ↦ clash r (get_or-set_other f.reached source v true false n ∙ blank.unreached v) ]

  -- what holds of the links that leave the source, offered, and of the others, quiet, holds of the states
  pub begin_states : (P : ℕ → ℕ → Type 0) (i : ℕ) → (Leaves g c source i → P i 1) → ((Leaves g c source i → ⊥) → P i 0) → P i (at (begin g c f).states i)
  unfolding begin
  begin_states P i p q =
      let e : at (begin g c f).states i ≡ cond (leaves g c source i) 1 (at f.states i) =
      at-offer (λ i v. leaves g c source i) f.states i (λ t. omega (arith, ((leaves_says g c source i).0 t).0, blank.room.long)) in
      ⊎_elim
      (λ t. subst (P i) (sym (e ∙ rw t)) (p ((leaves_says g c source i).0 t)))
      (λ t. subst (P i) (sym (e ∙ rw t (blank.quiet i))) (q (fails (leaves_says g c source i) t)))
      (known (leaves g c source i))

  pub begin-at_most_1 : (i : ℕ) → at (begin g c f).states i ≤ 1
  begin-at_most_1 i = begin_states (λ i w. w ≤ 1) i (λ w. omega arith) (λ n. omega arith)

  module _ (sound : Sound g c) where
    source_marked : has (begin g c f).reached source ≡ true
    unfolding begin
    source_marked = get_or-set_same f.reached source true false (let w = blank.room.wide in let s = sound.source< in omega arith)

    pub begin_inv : Inv g c (at (begin g c f).states) (has (begin g c f).reached)
    begin_inv =
        record {
          source_reached = source_marked;
          opened = λ i l. begin_states (λ i w. (0 < w) ↔ Open g c (has (begin g c f).reached) i) i
              (λ w. (λ p. (rw w.1.0 source_marked, λ h. sound.apart (sym w.1.0 ∙ h), w.1.1), λ o. omega arith))
              (λ n. (λ p. absurd (omega arith), λ o. absurd (n (l, (begin-reached o.0, o.2)))));
          head_reached = λ i l p. absurd (omega (arith, begin-at_most_1 i));
          one_in = λ i j l m s t e. absurd (omega (arith, begin-at_most_1 i));
          none_in = λ i l s. absurd (omega (arith, begin-at_most_1 i));
          fed = λ v n. (λ (m, l, t, e). absurd (omega (arith, begin-at_most_1 m)), λ w. absurd (unneeded n w));
          ranked = record { rank = λ v. 0; top = 1; rises = λ i l s. absurd (omega (arith, begin-at_most_1 i)); below = λ v r. omega arith };
        }
      where
        unneeded : {v : ℕ} → v ≢ source → Needed g c (at (begin g c f).states) (has (begin g c f).reached) v → ⊥
        unneeded n (inl y) = sound.apart (sym (begin-reached y.1))
        unneeded n (inr (i, l, e, p, q)) =
            begin_states (λ i w. tail i ≢ source → 0 < w → ⊥) i (λ w k p. k w.1.0) (λ n k p. omega arith) (λ k. n (sym e ∙ k)) p
