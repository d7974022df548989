-- Arcs and walks of a net, whatever ways are open: their ends are nodes, they stay where more is open, and they can be walked back where links are open
-- both ways. The last part writes arcs out, to be compared with 01: along every link, with one link taken away, and under an assignment. Assumes nothing.
use Rattle.std.specs.Prelude.{ℕ, ◌<◌, ◌≡◌, refl, ◌⊎◌, ◌≢◌, ◌↔◌, Bool, true, false, not, List, get_or}
use Rattle.std.proofs.Common.{inl, inr}
use Rattle.std.proofs.Math.Logic.Iff
use Rattle.std.proofs.Math.Bool.{not-not}
use Rattle.scan.specs.Test.{Says, eq_says, denies, and_says}
use Rattle.graph.specs.Walk as walk
use Rattle.graph.specs.Walk.{one, replace}
use Rattle.graph.specs.Net.{Net, Fits, end, Ways, Arc, Leads, without, both_ways, along}

-- ---- ends

pub end_below : {G : Net} → Fits G → (i : ℕ) → i < G.links → (d : Bool) → end G i d < G.nodes
end_below F i h false = F.low_below i h
end_below F i h true = F.high_below i h

pub arc_below : {G : Net} {m : Ways} {u v : ℕ} → Fits G → Arc G m u v → (u < G.nodes) × (v < G.nodes)
arc_below F a = (rw a.starts (end_below F a.link a.below a.way), rw a.ends (end_below F a.link a.below (not a.way)))

-- ---- arcs

-- an open way is an arc
pub arc : {G : Net} {m : Ways} (i : ℕ) (d : Bool) → i < G.links → m i d ≡ true → Arc G m (end G i d) (end G i (not d))
arc i d h f = record { link = i; way = d; below = h; free = f; starts = refl; ends = refl }

module _ {G : Net} {m n : Ways} {u v : ℕ} (a : Arc G m u v) where
  -- the same arc where other ways are open
  pub reopen : n a.link a.way ≡ true → Arc G n u v
  reopen f = record { link = a.link; way = a.way; below = a.below; free = f; starts = a.starts; ends = a.ends }

  -- the arc back
  pub turn : n a.link (not a.way) ≡ true → Arc G n v u
  turn f = record { link = a.link; way = not a.way; below = a.below; free = f; starts = a.ends; ends = rw not-not a.starts }

-- ---- walks

-- a walk stays one where more ways are open
pub widen : {G : Net} {m n : Ways} {u v : ℕ} → ((i : ℕ) (d : Bool) → i < G.links → m i d ≡ true → n i d ≡ true) → Leads G m u v → Leads G n u v
widen f p = replace (λ u v a. one (reopen a (f a.link a.way a.below a.free))) p

-- and can be walked back where each way's other way is open too
pub back : {G : Net} {m : Ways} → ((i : ℕ) (d : Bool) → m i d ≡ true → m i (not d) ≡ true) → {u v : ℕ} → Leads G m u v → Leads G m v u
back f p = walk.turn (λ u v a. turn a (f a.link a.way a.free)) p

-- ---- one link taken away

module _ (k : ℕ) (m : Ways) (i : ℕ) (d : Bool) where
  without_says : Says (without k m i d) ((i ≢ k) × (m i d ≡ true))
  without_says = and_says (denies (eq_says i k)) Iff.rfl

  pub without_free : i ≢ k → m i d ≡ true → without k m i d ≡ true
  without_free n f = without_says.1 (n, f)

  pub without_open : without k m i d ≡ true → (i ≢ k) × (m i d ≡ true)
  without_open = without_says.0

pub avoids : {G : Net} (k : ℕ) (m : Ways) {u v : ℕ} (a : Arc G (without k m) u v) → a.link ≢ k
avoids k m a = (without_open k m a.link a.way a.free).0

-- ---- arcs written out

-- link i leads from u to v, in either direction
abbrev pub Joins : Net → ℕ → ℕ → ℕ → Type 0
Joins G i u v = ((u ≡ G.low i) × (v ≡ G.high i)) ⊎ ((u ≡ G.high i) × (v ≡ G.low i))

module _ (G : Net) (u v : ℕ) where
  joins : (i : ℕ) (d : Bool) → u ≡ end G i d → v ≡ end G i (not d) → Joins G i u v
  joins i false s e = inl (s, e)
  joins i true s e = inr (s, e)

  joined : (m : Ways) (i : ℕ) → i < G.links → ((d : Bool) → m i d ≡ true) → Joins G i u v → Arc G m u v
  joined m i h f (inl (s, e)) = record { link = i; way = false; below = h; free = f false; starts = s; ends = e }
  joined m i h f (inr (s, e)) = record { link = i; way = true; below = h; free = f true; starts = s; ends = e }

  pub both_arc : Arc G both_ways u v ↔ ((i : ℕ) × (i < G.links) × Joins G i u v)
  both_arc = (λ a. (a.link, a.below, joins a.link a.way a.starts a.ends), λ (i, h, j). joined both_ways i h (λ d. refl) j)

  pub without_arc : (k : ℕ) → Arc G (without k both_ways) u v ↔ ((i : ℕ) × (i < G.links) × (i ≢ k) × Joins G i u v)
  without_arc k = (
    λ a. (a.link, a.below, avoids k both_ways a, joins a.link a.way a.starts a.ends),
    λ (i, h, n, j). joined (without k both_ways) i h (λ d. without_free k both_ways i d n refl) j,
  )

  -- direction 0 leads from the low to the high end, 1 from the high to the low end
  abbrev pub Along : List ℕ → ℕ → Type 0
  Along p i = ((get_or p i 0 ≡ 0) × (u ≡ G.low i) × (v ≡ G.high i)) ⊎ ((get_or p i 0 ≡ 1) × (u ≡ G.high i) × (v ≡ G.low i))

  pub along_arc : (p : List ℕ) → Arc G (along p) u v ↔ ((i : ℕ) × (i < G.links) × Along p i)
  along_arc p = (λ a. (a.link, a.below, out a.link a.way a.free a.starts a.ends), λ (i, h, c). into i h c)
    where
      out : (i : ℕ) (d : Bool) → along p i d ≡ true → u ≡ end G i d → v ≡ end G i (not d) → Along p i
      out i false f s e = inl ((eq_says (get_or p i 0) 0).0 f, s, e)
      out i true f s e = inr ((eq_says (get_or p i 0) 1).0 f, s, e)

      into : (i : ℕ) → i < G.links → Along p i → Arc G (along p) u v
      into i h (inl (f, s, e)) = record { link = i; way = false; below = h; free = (eq_says (get_or p i 0) 0).1 f; starts = s; ends = e }
      into i h (inr (f, s, e)) = record { link = i; way = true; below = h; free = (eq_says (get_or p i 0) 1).1 f; starts = s; ends = e }
