-- What an accepted call on a session has passed, and when a delivery is accepted. Assumes nothing.
use Rattle.std.specs.Prelude.{ℕ, ◌<◌, ◌≡◌, true, false, ltb}
use Rattle.std.proofs.Math.Bool.{and-eq-true_iff}
use Rattle.std.proofs.Common.{lt-ltb}
use Rattle.scan.specs.Entry.{at}
use Rattle.mesh.specs.Answer.{Accepted}
use Rattle.flood.specs.Machine.{under_way, accepts}
use Rattle.wavelengths.specs.Wavelength.{is_wavelength, wavelength_of, on}
use Rattle.refusals.specs.Refusals as refusals
use Rattle.refusals.specs.Refusals.{standing}
use Rattle.refusals.proofs.Laws.Tested as pieces
use Rattle.recovery.specs.declared.Session.{Session}
use Rattle.recovery.specs.Session.{floods}
use Rattle.recovery.specs.Formed.{record_answer}
use Rattle.recovery.specs.Calls.{digraph, cut_answer, deliver_answer, run_answer, status_answer, route_answer}

module _ (s : Session) where
  pub cut-accepted : (k : ℕ) → cut_answer s k ≡ Accepted → (record_answer s ≡ Accepted) × (k < s.mesh.count) × (standing s.cut ≡ false)
  cut-accepted k = pieces.cut-accepted (record_answer s) s.mesh.count k s.cut

  pub deliver_accepted : (k n : ℕ) → deliver_answer s k n ≡ Accepted
      → let w = wavelength_of n in
      (record_answer s ≡ Accepted) × (k < s.mesh.count) × (is_wavelength n ≡ true) × (standing s.cut ≡ true) × (accepts (digraph s w) k (on w (floods s)) ≡ true)
  unfolding accepts
  deliver_accepted k n e =
      let (r, l, n, c, u) = pieces.deliver_accepted (record_answer s) s.mesh.count k s.cut (on (wavelength_of n) (floods s)).states n e in
      (r, l, n, c, rw (lt-ltb k s.mesh.count l) u)

  pub run-accepted : run_answer s ≡ Accepted → (record_answer s ≡ Accepted) × (standing s.cut ≡ true)
  run-accepted = pieces.run-accepted (record_answer s) s.cut

  pub status_accepted : (k n : ℕ) → status_answer s k n ≡ Accepted → (record_answer s ≡ Accepted) × (k < s.mesh.count) × (is_wavelength n ≡ true)
  status_accepted k n = pieces.status_accepted (record_answer s) s.mesh.count k n

  pub route_accepted : (n : ℕ) → route_answer s n ≡ Accepted → (record_answer s ≡ Accepted) × (is_wavelength n ≡ true) × (standing s.cut ≡ true)
  route_accepted n = pieces.route_accepted (record_answer s) s.cut n

  -- with the record test and a cut, a delivery on a wavelength is accepted where its flood accepts it
  pub deliver_accepts : (k n : ℕ) → record_answer s ≡ Accepted → is_wavelength n ≡ true → standing s.cut ≡ true
      → accepts (digraph s (wavelength_of n)) k (on (wavelength_of n) (floods s)) ≡ true → deliver_answer s k n ≡ Accepted
  unfolding refusals.deliver_answer accepts
  deliver_accepts k n r named c a =
      let (l, u) = (and-eq-true_iff (ltb k s.mesh.count) (under_way (at (on (wavelength_of n) (floods s)).states k))).0 a in
      rw (r, named, c, l, u)
