-- What one cut on the plan leads to, as `one_cut` gives it and the functions for C and Rust tell it, in the words of demand 3. Definitions only.
use Rattle.std.specs.Prelude.{ℕ, ◌≡◌, List, [], ◌∷◌}
use Rattle.mesh.specs.declared.Mesh.{Mesh}
use Rattle.mesh.specs.Answer.{Accepted}
use Rattle.wavelengths.specs.declared.Wavelength.{Wavelength}
use Rattle.wavelengths.specs.declared.Wavelength.TheVariants.{First}
use Rattle.formed.specs.Cut.{Link}
use Rattle.recovery.specs.Calls.{routed_as, route_of, route_length_of}
use Rattle.history.specs.History.{Call, by_value, cut, run}
use Rattle.history.specs.Log.{deliveries_on}
use Rattle.history.specs.Demand.{AtRest, Routes, Measured, ended, log}
use Rattle.one_cut.specs.OneCut.{ran, metres_of, recovered}

module _ (m : Mesh) (k : ℕ) where
  -- the list "cut k, run", the run with the largest allowance there is
  abbrev pub cut_and_run : List Call
  cut_and_run = cut by_value k ∷ run 4294967295 ∷ []

  pub record CutOnce : Type 0 where
    -- the session is that after the list, from a fresh session on the plan; link k is cut, and nothing is under way
    pub session : ran m k ≡ ended m cut_and_run
    pub stands : (log m cut_and_run).cut ≡ Link k
    pub rests : (w : Wavelength) → AtRest (ended m cut_and_run) w
    -- the route is that of an accepted query, wavelength 1's one simple path from x to y
    pub route : (recovered m k).route ≡ (routed_as Accepted (route_of (ended m cut_and_run) First)).route
    pub path : Routes (ended m cut_and_run) First k
    -- the deliveries are those made on wavelength 1
    pub deliveries : (recovered m k).deliveries ≡ deliveries_on First (log m cut_and_run)
    -- the metres are the length of that route's links, or not known
    pub metres : (recovered m k).metres ≡ metres_of (route_length_of (ended m cut_and_run) First)
    pub measured : Measured (ended m cut_and_run) First
