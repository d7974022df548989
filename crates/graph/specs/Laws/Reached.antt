-- `reaches` computes just the nodes that a walk comes to: each mark stands at the end of a walk, and in the end the marks are closed under the open ways.
-- For a round that changes nothing leaves them closed, every other round adds a mark, and there are as many rounds as nodes. Assumes nothing.
use Prim.Native.Nat.{ℕ, zero, suc, ◌<◌, ◌≤◌}
use Rattle.std.specs.Prelude.{◌≡◌, ◌⊎◌, ◌↔◌, not, ◌&&◌, length, set, replicate}
use Rattle.std.proofs.Common.{sym, ◌∙◌, ap, subst, arith, le_refl, length-set, get_or-set_same}
use Rattle.std.proofs.Math.Logic.{inl, inr, ⊎_elim}
use Rattle.std.proofs.Math.Bool.{Bool, true, false, and-eq-true_iff}
use mathlib.Core.List.{List}
use Rattle.std.proofs.Math.Decide.{le_ind}
use Rattle.std.proofs.Math.ListN.{get_or}
use Rattle.std.proofs.lemmas.List.{length-replicate}
use Rattle.scan.specs.Test.{branch, clash, says_same, says_dec}
use Rattle.scan.specs.Entry.{has, replicate-at}
use Rattle.scan.specs.Total.{count, count-le, count_pos}
use Rattle.scan.specs.Flags.{set_only, Extends, extends_refl, extends_set, extends_grows}
use Rattle.graph.specs.Walk.{one, join, stay, carry}
use Rattle.graph.specs.Net.{Net, Fits, end, Ways, Leads}
use Rattle.graph.specs.Reach.{mark_way, mark_link, mark_links, rounds, reached, reaches}
use Rattle.graph.specs.Laws.Arcs.{arc, end_below}

abbrev Marked : List Bool → ℕ → Type 0
Marked s v = has s v ≡ true

-- ---- what each mark keeps, all rounds keep

module _ (G : Net) (m : Ways) (P : List Bool → Type 0)
    (mark : (i : ℕ) (d : Bool) (s : List Bool) → i < G.links → P s → P (mark_way G m i d s)) where
  links_keep : (k : ℕ) (s : List Bool) → k ≤ G.links → P s → P (mark_links G m k s)
  unfolding mark_links mark_link
  links_keep zero s h p = p
  links_keep (suc k) s h p = mark k true _ h (mark k false _ h (links_keep k s (omega arith) p))

  rounds_keep : (n : ℕ) (s : List Bool) → P s → P (rounds G m n s)
  unfolding rounds
  rounds_keep zero s p = p
  rounds_keep (suc n) s p = links_keep G.links _ (le_refl _) (rounds_keep n s p)

module _ (G : Net) (m : Ways) where
  abbrev round : List Bool → List Bool
  round s = mark_links G m G.links s

  way_extends : (s : List Bool) (i : ℕ) (d : Bool) (t : List Bool) → i < G.links → Extends s t → Extends s (mark_way G m i d t)
  unfolding mark_way
  way_extends s i d t h x = branch (Extends s) (m i d && get_or t (end G i d) false) (λ e. extends_set x (end G i (not d))) (λ e. x)

  link_extends : (i : ℕ) (s : List Bool) → i < G.links → Extends s (mark_link G m i s)
  unfolding mark_link
  link_extends i s h = way_extends s i true _ h (way_extends s i false s h (extends_refl s))

  links_extend : (k : ℕ) (s : List Bool) → k ≤ G.links → Extends s (mark_links G m k s)
  links_extend k s h = links_keep G m (Extends s) (way_extends s) k s h (extends_refl s)

  rounds_extend : (n : ℕ) (s : List Bool) → Extends s (rounds G m n s)
  rounds_extend n s = rounds_keep G m (Extends s) (way_extends s) n s (extends_refl s)

  -- ---- soundness: a walk from u leads to each marked node

  abbrev Sound : ℕ → List Bool → Type 0
  Sound u s = (v : ℕ) → Marked s v → Leads G m u v

  way_sound : (u i : ℕ) (d : Bool) (s : List Bool) → i < G.links → Sound u s → Sound u (mark_way G m i d s)
  unfolding mark_way
  way_sound u i d s h f =
      branch (Sound u) (m i d && get_or s (end G i d) false)
      (λ e v g. let (o, near) = (and-eq-true_iff (m i d) _).0 e in
      ⊎_elim (λ q. join (f _ near) (join (one (arc i d h o)) (stay (sym q)))) (f v) (set_only s _ v g))
      (λ e. f)

  -- ---- completeness: closed marks stand at each node that a walk from a marked one comes to

  abbrev Closed : List Bool → Type 0
  Closed s = (i : ℕ) (d : Bool) → i < G.links → m i d ≡ true → Marked s (end G i d) → Marked s (end G i (not d))

  closed_holds : (s : List Bool) → Closed s → {u v : ℕ} → Marked s u → Leads G m u v → Marked s v
  closed_holds s c h p = carry (Marked s) (λ a b r g. rw r.ends (c r.link r.way r.below r.free (rw r.starts at g))) p h

  module _ (F : Fits G) where
    way_marks : (i : ℕ) (d : Bool) (s : List Bool) → i < G.links → length s ≡ G.nodes → m i d ≡ true → Marked s (end G i d)
        → Marked (mark_way G m i d s) (end G i (not d))
    unfolding mark_way
    way_marks i d s h l o g = rw (o, g) (get_or-set_same s (end G i (not d)) true false (omega (arith, end_below F i h (not d))))

    -- link i marks its far end where its near end is marked
    link_marks : (i : ℕ) (d : Bool) (s : List Bool) → i < G.links → length s ≡ G.nodes → m i d ≡ true → Marked s (end G i d)
        → Marked (mark_link G m i s) (end G i (not d))
    unfolding mark_link
    link_marks i false s h l o g = (way_extends _ i true _ h (extends_refl _)).keeps _ (way_marks i false s h l o g)
    link_marks i true s h l o g =
        let x : Extends s (mark_way G m i false s) = way_extends s i false s h (extends_refl s) in
        way_marks i true (mark_way G m i false s) h (x.sized ∙ l) o (x.keeps _ g)

    -- and so does a round
    round_marks : (s : List Bool) → length s ≡ G.nodes → (i : ℕ) (d : Bool) → i < G.links → m i d ≡ true → Marked s (end G i d)
        → Marked (round s) (end G i (not d))
    unfolding mark_links
    round_marks s l i d h o g =
        let x : Extends s (mark_links G m i s) = links_extend i s (omega arith) in
        le_ind (λ k. k ≤ G.links → Marked (mark_links G m k s) (end G i (not d)))
        (λ _. link_marks i d (mark_links G m i s) h (x.sized ∙ l) o (x.keeps _ g))
        (λ k _ f b. (link_extends k (mark_links G m k s) b).keeps _ (f (omega arith)))
        G.links h (le_refl _)

  -- ---- a round that changes nothing

  abbrev Still : List Bool → Type 0
  Still s = round s ≡ s

  -- there is one among the first n, or more than n marks stand after these
  settles : (n : ℕ) (s : List Bool) → 0 < count (has s) (length s) → (n < count (has (rounds G m n s)) (length s)) ⊎ Still (rounds G m n s)
  unfolding rounds
  settles zero s h = inl h
  settles (suc n) s h =
      let r : List Bool = rounds G m n s in
      let x : Extends r (round r) = links_extend G.links r (le_refl _) in
      ⊎_elim
      (λ b. ⊎_elim (λ e. inr (ap round e)) (λ g. inl (omega arith)) (extends_grows x (length s) (rounds_extend n s).sized))
      (λ e. inr (ap round e))
      (settles n s h)

-- ---- the marks from u on

module _ {G : Net} (F : Fits G) (m : Ways) (u : ℕ) (hu : u < G.nodes) where
  abbrev start : List Bool
  start = set (replicate G.nodes false) u true

  start-length : length start ≡ G.nodes
  start-length = length-set (replicate G.nodes false) u true ∙ length-replicate G.nodes false

  start-marked : Marked start u
  start-marked = get_or-set_same (replicate G.nodes false) u true false (rw length-replicate hu)

  start_sound : Sound G m u start
  start_sound v h = ⊎_elim (λ e. stay (sym e)) (λ g. clash g (replicate-at G.nodes false v)) (set_only (replicate G.nodes false) u v h)

  reached-length : length (reached G m u) ≡ G.nodes
  unfolding reached
  reached-length = (rounds_extend G m G.nodes start).sized ∙ start-length

  reached_still : Still G m (reached G m u)
  unfolding reached
  reached_still =
      ⊎_elim (λ h. absurd (omega (arith, count-le (has (reached G m u)) (length start), start-length))) (λ e. e)
      (settles G m G.nodes start (count_pos (has start) (length start) u (rw start-length hu) start-marked))

  reached_closed : Closed G m (reached G m u)
  reached_closed i d h o g = subst (λ (s : List Bool). Marked s (end G i (not d))) reached_still (round_marks G m F (reached G m u) reached-length i d h o g)

  pub reaches_iff : (v : ℕ) → (reaches G m u v ≡ true) ↔ Leads G m u v
  unfolding reaches reached
  reaches_iff v = (
    rounds_keep G m (Sound G m u) (way_sound G m u) G.nodes start start_sound v,
    closed_holds G m (reached G m u) reached_closed ((rounds_extend G m G.nodes start).keeps u start-marked),
  )

  -- whatever says the same is `reaches`
  pub reaches_by : (b : Bool) (v : ℕ) → (b ≡ true) ↔ Leads G m u v → b ≡ reaches G m u v
  reaches_by b v f = says_same f (reaches_iff v)

  pub leads? : (v : ℕ) → Dec (Leads G m u v)
  leads? v = says_dec (reaches_iff v)
