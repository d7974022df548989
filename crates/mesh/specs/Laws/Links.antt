-- What one turn of a loop over the links does to the checks. Serves the law of a mesh's parts and the proof of `split`. Assumes nothing.
use Rattle.std.specs.Prelude.{ℕ, ◌+◌, ◌%◌, ◌≤◌, ◌<◌, min, ◌≡◌, refl, Bool, ◌&&◌, ◌||◌, List, eqb, length, get_or, take, drop}
use Rattle.std.proofs.Math.Decide.{ℕ_discrete}
use Rattle.std.proofs.Common.{arith, eq-eqb, ne_eqb}
use Rattle.scan.specs.All.{all-step}
use Rattle.scan.specs.Part.{drop-take, drop-take-end}
use Rattle.mesh.specs.declared.Link.{Link}
use Rattle.mesh.specs.Answer.{Accepted}
use Rattle.mesh.specs.Mesh.{zero_link, link_answer, and_then, links_answer, is_zero, all_zero}

module _ (n : ℕ) (p : Link) (links : List Link) (k i : ℕ) where
  -- link i, or there is none
  pub links_step : i < k → k ≤ length links
      → links_answer n p i (drop i (take k links))
      ≡ and_then (link_answer n p (get_or links i zero_link) i)
      (links_answer n (get_or links i zero_link) (i + 1) (drop (i + 1) (take k links)))
  unfolding links_answer
  links_step h hk = rw (drop-take zero_link links k i h hk)

  pub links_end : k ≤ i → links_answer n p i (drop i (take k links)) ≡ Accepted
  unfolding links_answer
  links_end h = rw (drop-take-end links k i h)

-- entry i, at j, is looked at where i is odd, and the rest from the next even one on
pub zero_even : (links : List Link) (i j : ℕ) (b : Bool) → length links ≡ 256 → i ≤ 256 → j ≡ min i 255 → b ≡ (eqb (i % 2) 0 || is_zero (get_or links j zero_link))
    → all_zero (drop i links) ≡ (b && all_zero (drop (i + i % 2) links))
zero_even links i j b sized h e t = elim (ℕ_discrete (i % 2) 0) [
  | yes z ↦ let s : i + i % 2 ≡ i = omega arith in rw (t, eq-eqb _ _ z, s) refl
  | no z ↦
      let s : i + i % 2 ≡ i + 1 = omega arith in
      let f : j ≡ i = omega arith in
      rw (t, ne_eqb _ _ z, f, s) (all-step is_zero links i zero_link (omega arith))
]
