-- Chaining the arcs of a mesh from the last link down: `Chaining` holds between the turns, and at link 0 it says that all arcs are chained. A turn puts the two
-- arcs of one link before those that leave its ends; as the ends differ, the stores for one arc are at other entries than those for the other. Assumes nothing.
use Rattle.std.specs.Prelude.{ℕ, ◌+◌, ◌-◌, ◌*◌, ◌/◌, ◌<◌, ◌≤◌, ◌≡◌, refl, ◌≢◌, Bool, true, false, not, List, length, set, replicate}
use Rattle.std.proofs.Common.{sym, ◌∙◌, ap, subst, arith, length-set, ne_eqb}
use Rattle.std.proofs.Math.Decide.{ℕ_discrete}
use Rattle.std.proofs.lemmas.List.{length-replicate, get_or-replicate}
use Rattle.scan.specs.Entry.{at, Changed, set_at, replicate-at}
use Rattle.graph.specs.Net.{Net, end, code}
use Rattle.mesh.specs.declared.Mesh.{Mesh}
use Rattle.mesh.specs.WellFormed.{link, WellFormed}
use Rattle.depth_first.specs.Search.{touches}
use Rattle.collection.specs.Arcs.{arc_of, ended, leaving, Heads, table_net, Chained}

-- an arc of link i is 2 × i or 2 × i + 1
code_most : (d : Bool) → code d ≤ 1
code_most false = omega arith
code_most true = omega arith

-- ---- the first arc of a node

module _ {G : Net} where
  -- no link is left
  heads_ended : (u k a : ℕ) → G.links ≤ k → k ≤ a / 2 → Heads G u k a
  heads_ended u k a h b = record { leaves = ended (omega arith); from = b; others = λ j l _ s. absurd (omega arith) }

  -- the next link is at the node
  heads_here : (k : ℕ) (d : Bool) → k < G.links → Heads G (end G k d) k (arc_of k d)
  heads_here k d h = record {
    leaves = leaving k d refl h refl;
    from = omega (arith, code_most d);
    others = λ j l s _. absurd (omega (arith, code_most d));
  }

  -- the next link is not at the node
  heads_pass : {u k a : ℕ} → touches G u k ≡ false → Heads G u (k + 1) a → Heads G u k a
  heads_pass {u} {k} n H = record {
    leaves = H.leaves;
    from = omega (arith, H.from);
    others = λ j l s b. elim (ℕ_discrete j k) [ yes e ↦ ap (touches G u) e ∙ n | no e ↦ H.others j (omega arith) s b ];
  }

-- ---- one arc

-- the stores of `chain`
abbrev pub Stored : ℕ → ℕ → ℕ → List ℕ → List ℕ → List ℕ → List ℕ → Type 0
Stored a from far next to next' to' = (next' ≡ set (set next a (at next (512 + from))) (512 + from) a) × (to' ≡ set to a far)

-- what they leave: arc a leads to v and is put before the chain that begins at entry h
record Put (a h v : ℕ) (next to next' to' : List ℕ) : Type 0 where
  size : length next' ≡ length next
  size_to : length to' ≡ length to
  after : at next' a ≡ at next h
  first : at next' h ≡ a
  elsewhere : (x : ℕ) → x ≢ a → x ≢ h → at next' x ≡ at next x
  leads : at to' a ≡ v
  others : (x : ℕ) → x ≢ a → at to' x ≡ at to x

-- the entries of nodes stand past those of arcs
put : {a from far : ℕ} {next to next' to' : List ℕ} → Stored a from far next to next' to' → from < 64 → a < 512 → length next ≡ 576 → length to ≡ 512
    → Put a (512 + from) far next to next' to'
put {a} {from} {far} {next} {to} (e, g) f b n t = rw (e, g) record {
  size = length-set once h a ∙ length-set next a (at next h);
  size_to = length-set to a far;
  after = second.elsewhere a (λ e. omega arith) ∙ first.there;
  first = second.there;
  elsewhere = λ x p q. second.elsewhere x q ∙ first.elsewhere x p;
  leads = third.there;
  others = third.elsewhere;
}
  where
    h : ℕ
    h = 512 + from

    once : List ℕ
    once = set next a (at next h)

    first : Changed (at next) a (at next h) (at once)
    first = set_at next a (at next h) (omega arith)

    second : Changed (at once) h a (at (set once h a))
    second = set_at once h a (rw (length-set next a (at next h)) (omega arith))

    third : Changed (at to) a far (at (set to a far))
    third = set_at to a far (omega arith)

-- ---- between the turns

-- the arcs of the links from i on are chained
pub record Chaining (m : Mesh) (i : ℕ) (next to : List ℕ) : Type 0 where
  pub formed : WellFormed m
  pub inside : i ≤ m.count
  pub sized : length next ≡ 576
  pub sized_to : length to ≡ 512
  pub heads : (u : ℕ) → u < 64 → Heads (table_net m) u i (at next (512 + u))
  pub later : (j : ℕ) (d : Bool) → i ≤ j → j < m.count → Heads (table_net m) (end (table_net m) j d) (j + 1) (at next (arc_of j d))
  pub leads : (j : ℕ) (d : Bool) → i ≤ j → at to (arc_of j d) ≡ end (table_net m) j (not d)

module _ {m : Mesh} (W : WellFormed m) where
  -- past the last link both ends are 0
  end-past : (j : ℕ) (d : Bool) → m.count ≤ j → end (table_net m) j d ≡ 0
  end-past j false h = ap (λ l. l.low) (W.zeros j h)
  end-past j true h = ap (λ l. l.high) (W.zeros j h)

  -- tables without arcs, before the first turn
  pub chaining_start : Chaining m m.count (replicate 576 512) (replicate 512 0)
  chaining_start = record {
    formed = W;
    inside = omega arith;
    sized = length-replicate {A = ℕ} 576 512;
    sized_to = length-replicate {A = ℕ} 512 0;
    heads = λ u h. rw (empty u h) (heads_ended u m.count 512 (omega arith) (omega (arith, W.count_most)));
    later = λ j d h l. absurd (omega arith);
    leads = λ j d h. replicate-at {A = ℕ} 512 0 (arc_of j d) ∙ sym (end-past j (not d) h);
  }
    where
      empty : (u : ℕ) → u < 64 → at (replicate 576 512) (512 + u) ≡ 512
      empty u h = get_or-replicate 576 (512 + u) 512 0 (omega arith)

  -- ---- the turn of link k

  module _ {k : ℕ} (h : k < m.count) where
    end_below : (d : Bool) → end (table_net m) k d < 64
    end_below false = omega (arith, (W.joins k h).apart, (W.joins k h).inside, W.nodes_most)
    end_below true = omega (arith, (W.joins k h).inside, W.nodes_most)

    -- a node that is neither end
    not_touched : (u : ℕ) → u ≢ (link m k).low → u ≢ (link m k).high → touches (table_net m) u k ≡ false
    not_touched u n t = rw (ne_eqb (link m k).low u (λ e. n (sym e)), ne_eqb (link m k).high u (λ e. t (sym e))) refl

    -- its two arcs are put before those of its ends
    module _ {next to next₁ to₁ next₂ to₂ : List ℕ}
        (P : Put (2 * k) (512 + (link m k).low) (link m k).high next to next₁ to₁)
        (Q : Put (2 * k + 1) (512 + (link m k).high) (link m k).low next₁ to₁ next₂ to₂) where
      -- after each arc comes the one that was the first of its node
      both_after : (d : Bool) → at next₂ (arc_of k d) ≡ at next (512 + end (table_net m) k d)
      both_after false = ap (at next₂) (omega arith) ∙ Q.elsewhere (2 * k) (λ e. omega arith) (λ e. omega (arith, W.count_most)) ∙ P.after
      both_after true = Q.after ∙ P.elsewhere (512 + (link m k).high) (λ e. omega (arith, W.count_most)) (λ e. omega (arith, (W.joins k h).apart))

      -- each arc is now the first of its node
      both_first : (d : Bool) → at next₂ (512 + end (table_net m) k d) ≡ arc_of k d
      both_first false =
          Q.elsewhere (512 + (link m k).low) (λ e. omega (arith, W.count_most)) (λ e. omega (arith, (W.joins k h).apart))
          ∙ P.first
          ∙ omega arith
      both_first true = Q.first

      -- each arc leads to its link's other end
      both_lead : (d : Bool) → at to₂ (arc_of k d) ≡ end (table_net m) k (not d)
      both_lead false = ap (at to₂) (omega arith) ∙ Q.others (2 * k) (λ e. omega arith) ∙ P.leads
      both_lead true = Q.leads

      -- the chains of other nodes begin as before
      heads_kept : (u : ℕ) → u ≢ (link m k).low → u ≢ (link m k).high → at next₂ (512 + u) ≡ at next (512 + u)
      heads_kept u n t =
          Q.elsewhere (512 + u) (λ e. omega (arith, W.count_most)) (λ e. t (omega arith))
          ∙ P.elsewhere (512 + u) (λ e. omega (arith, W.count_most)) (λ e. n (omega arith))

      -- the arcs of later links have the same arcs after them, and lead to the same nodes
      later-kept : (j : ℕ) (d : Bool) → k < j → j < m.count → at next₂ (arc_of j d) ≡ at next (arc_of j d)
      later-kept j d l b =
          let c = code_most d in
          Q.elsewhere (arc_of j d) (λ e. omega arith) (λ e. omega (arith, W.count_most))
          ∙ P.elsewhere (arc_of j d) (λ e. omega arith) (λ e. omega (arith, W.count_most))

      leads_kept : (j : ℕ) (d : Bool) → k < j → at to₂ (arc_of j d) ≡ at to (arc_of j d)
      leads_kept j d l = Q.others (arc_of j d) (λ e. omega arith) ∙ P.others (arc_of j d) (λ e. omega arith)

      turn : Chaining m (k + 1) next to → Chaining m k next₂ to₂
      turn C = record {
        formed = W;
        inside = omega arith;
        sized = Q.size ∙ P.size ∙ C.sized;
        sized_to = Q.size_to ∙ P.size_to ∙ C.sized_to;
        heads = λ u b. heads' u b (ℕ_discrete u (link m k).low) (ℕ_discrete u (link m k).high);
        later = λ j d l b. later' j d l b (ℕ_discrete j k);
        leads = λ j d l. leads' j d l (ℕ_discrete j k);
      }
        where
          heads' : (u : ℕ) → u < 64 → Dec (u ≡ (link m k).low) → Dec (u ≡ (link m k).high) → Heads (table_net m) u k (at next₂ (512 + u))
          heads' u b (yes e) _ = rw (e, both_first false) (heads_here k false h)
          heads' u b (no n) (yes e) = rw (e, both_first true) (heads_here k true h)
          heads' u b (no n) (no t) = rw (heads_kept u n t) (heads_pass (not_touched u n t) (C.heads u b))

          later' : (j : ℕ) (d : Bool) → k ≤ j → j < m.count → Dec (j ≡ k) → Heads (table_net m) (end (table_net m) j d) (j + 1) (at next₂ (arc_of j d))
          later' j d l b (yes e) = rw (e, both_after d) (C.heads (end (table_net m) k d) (end_below d))
          later' j d l b (no n) = rw (later-kept j d (omega arith) b) (C.later j d (omega arith) b)

          leads' : (j : ℕ) (d : Bool) → k ≤ j → Dec (j ≡ k) → at to₂ (arc_of j d) ≡ end (table_net m) j (not d)
          leads' j d l (yes e) = rw e (both_lead d)
          leads' j d l (no n) = leads_kept j d (omega arith) ∙ C.leads j d (omega arith)

module _ {m : Mesh} {i : ℕ} {next to : List ℕ} where
  -- both arcs are entries of the tables, and the ends are nodes below 64
  pub chaining_fits : 0 < i → Chaining m i next to → (2 * (i - 1) + 1 < 512) × ((link m (i - 1)).low < 64) × ((link m (i - 1)).high < 64)
  chaining_fits l C = (omega (arith, C.inside, W.count_most), end_below W h false, end_below W h true)
    where
      W : WellFormed m
      W = C.formed

      h : i - 1 < m.count
      h = omega (arith, C.inside)

  -- the two calls of `chain` in a turn
  pub chaining_turn : {next₁ to₁ next₂ to₂ : List ℕ} → 0 < i → Chaining m i next to
      → Stored (2 * (i - 1)) (link m (i - 1)).low (link m (i - 1)).high next to next₁ to₁
      → Stored (2 * (i - 1) + 1) (link m (i - 1)).high (link m (i - 1)).low next₁ to₁ next₂ to₂
      → Chaining m (i - 1) next₂ to₂
  chaining_turn {next₁} {to₁} {next₂} {to₂} l C s t = turn C.formed (omega (arith, C.inside)) P Q (subst (λ n. Chaining m n next to) (omega arith) C)
    where
      fit : (2 * (i - 1) + 1 < 512) × ((link m (i - 1)).low < 64) × ((link m (i - 1)).high < 64)
      fit = chaining_fits l C

      P : Put (2 * (i - 1)) (512 + (link m (i - 1)).low) (link m (i - 1)).high next to next₁ to₁
      P = put s fit.1 (omega (arith, fit.0)) C.sized C.sized_to

      Q : Put (2 * (i - 1) + 1) (512 + (link m (i - 1)).high) (link m (i - 1)).low next₁ to₁ next₂ to₂
      Q = put t fit.2 fit.0 (P.size ∙ C.sized) (P.size_to ∙ C.sized_to)

  -- after the last turn
  pub chaining_all : i ≤ 0 → Chaining m i next to → Chained m next to
  chaining_all l C = record {
    net_is = λ t. record { nodes = 64; links = m.count; low = λ j. C.leads j true (omega arith) t; high = λ j. high_is j t };
    chains = record {
      heads = λ u h. subst (λ k. Heads (table_net m) u k (at next (512 + u))) (omega arith) (C.heads u h);
      later = λ j d h. C.later j d (omega arith) h;
    };
  }
    where
      high_is : (j : ℕ) → at to (2 * j) ≡ (link m j).high
      high_is j = ap (at to) (omega arith) ∙ C.leads j false (omega arith)
