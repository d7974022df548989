-- An arc along a link is one along any link with the same ends. Assumes nothing.
use Rattle.std.specs.Prelude.{ℕ, ◌<◌, ◌≡◌, Bool, true, false, not}
use Rattle.std.proofs.Common.{sym, ◌∙◌}
use Rattle.graph.specs.Net.{Net, end, Ways, Arc}
use Rattle.nets.specs.Parallel.{Parallel}

parallel_end : (G : Net) (i k : ℕ) → Parallel G i k → (d : Bool) → end G i d ≡ end G k d
parallel_end G i k (low, high) false = low
parallel_end G i k (low, high) true = high

pub parallel_arc : {G : Net} {w x : Ways} {u v i k : ℕ} → Parallel G i k → i < G.links → (a : Arc G w u v) → a.link ≡ k → x i a.way ≡ true → Arc G x u v
parallel_arc {G} {i} {k} t l a e o = record {
  link = i;
  way = a.way;
  below = l;
  free = o;
  starts = a.starts ∙ rw e (sym (parallel_end G i k t a.way));
  ends = a.ends ∙ rw e (sym (parallel_end G i k t (not a.way)));
}
