-- What an accepted call has passed, and the refusal that calls on a link share. Assumes nothing.
use Rattle.std.specs.Prelude.{ℕ, ◌<◌, ◌≡◌, refl, Bool, true, false, not, List, ltb, Err}
use borrow.Author.Tests.{ltb-true, not-true}
use Rattle.scan.specs.Entry.{at}
use Rattle.mesh.specs.Answer.{Answer, Accepted, Refused}
use Rattle.mesh.specs.Mesh.{must, and_then}
use Rattle.mesh.specs.Laws.Answer.{must-accepted, and_then-accepted}
use Rattle.flood.specs.Machine.{under_way}
use Rattle.wavelengths.specs.Wavelength.{is_wavelength}
use Rattle.formed.specs.Cut.{Cut}
use Rattle.refusals.specs.Refusals.{standing, link_answer, status_answer, cut_answer, deliver_answer, run_answer, route_answer}

module _ (tested : Answer) (links k : ℕ) where
  pub status_accepted : (w : ℕ) → status_answer tested links k w ≡ Accepted → (tested ≡ Accepted) × (k < links) × (is_wavelength w ≡ true)
  unfolding status_answer
  status_accepted w e =
      let (t, a) = and_then-accepted tested _ e in
      let (l, b) = must-accepted (ltb k links) 12 k _ a in
      (t, ltb-true k links l, (must-accepted (is_wavelength w) 14 0 Accepted b).0)

  pub cut-accepted : (c : Cut) → cut_answer tested links c k ≡ Accepted → (tested ≡ Accepted) × (k < links) × (standing c ≡ false)
  unfolding cut_answer
  cut-accepted c e =
      let (t, a) = and_then-accepted tested _ e in
      let (l, b) = must-accepted (ltb k links) 12 k _ a in
      (t, ltb-true k links l, not-true (standing c) (must-accepted (not (standing c)) 22 k Accepted b).0)

  pub deliver_accepted : (c : Cut) (states : List ℕ) (w : ℕ) → deliver_answer tested links c states k w ≡ Accepted
      → (tested ≡ Accepted) × (k < links) × (is_wavelength w ≡ true) × (standing c ≡ true) × (under_way (at states k) ≡ true)
  unfolding deliver_answer
  deliver_accepted c states w e =
      let (t, a) = and_then-accepted tested _ e in
      let (l, b) = must-accepted (ltb k links) 12 k _ a in
      let (n, d) = must-accepted (is_wavelength w) 14 0 _ b in
      let (s, u) = must-accepted (standing c) 23 k _ d in
      (t, ltb-true k links l, n, s, (must-accepted (under_way (at states k)) 24 k Accepted u).0)

pub run-accepted : (tested : Answer) (c : Cut) → run_answer tested c ≡ Accepted → (tested ≡ Accepted) × (standing c ≡ true)
unfolding run_answer
run-accepted tested c e = let (t, a) = and_then-accepted tested _ e in (t, (must-accepted (standing c) 23 0 Accepted a).0)

pub route_accepted : (tested : Answer) (c : Cut) (w : ℕ) → route_answer tested c w ≡ Accepted
    → (tested ≡ Accepted) × (is_wavelength w ≡ true) × (standing c ≡ true)
unfolding route_answer
route_accepted tested c w e =
    let (t, a) = and_then-accepted tested _ e in
    let (n, s) = must-accepted (is_wavelength w) 14 0 _ a in
    (t, n, (must-accepted (standing c) 23 0 Accepted s).0)

-- the calls that test 12 first: what comes next counts where the link is one
pub link-first : (tested : Answer) (links k : ℕ) (next : Answer) → and_then tested (must (ltb k links) 12 k next) ≡ and_then (link_answer tested links k) next
unfolding link_answer
link-first Accepted links k next = go (ltb k links)
  where
    go : (t : Bool) → must t 12 k next ≡ and_then (must t 12 k Accepted) next
    go true = refl
    go false = refl
link-first (Err r) links k next = refl

-- the calls that test 12 and 14 first: what comes next counts where the link is one and the number names a wavelength
pub status_first : (tested : Answer) (links k w : ℕ) (next : Answer)
    → and_then tested (must (ltb k links) 12 k (must (is_wavelength w) 14 0 next)) ≡ and_then (status_answer tested links k w) next
unfolding status_answer
status_first Accepted links k w next = go (ltb k links) (is_wavelength w)
  where
    go : (s t : Bool) → must s 12 k (must t 14 0 next) ≡ and_then (must s 12 k (must t 14 0 Accepted)) next
    go true true = refl
    go true false = refl
    go false t = refl
status_first (Err r) links k w next = refl
