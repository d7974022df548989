-- A run with an allowance of four for each link is, on each wavelength, the whole run of that wavelength alone, and both rest after it: each flood rests after
-- two deliveries for each link at most. Assumes 256 entries in the mesh's list of links.
use Rattle.std.specs.Prelude.{ℕ, ◌+◌, ◌*◌, ◌<◌, ◌≤◌, ◌≡◌, refl, true, List, [], ◌∷◌, ◌++◌}
use Rattle.std.proofs.Math.Path.{sym, ap}
use Rattle.std.proofs.Common.{subst, ◌∙◌, arith}
use Rattle.std.proofs.Math.Bool.{not}
use Rattle.std.proofs.Math.ListN.{length}
use Rattle.scan.specs.Total.{count-le}
use Rattle.flood.specs.declared.Flood.{Flood}
use Rattle.flood.specs.Digraph.{Digraph, Failure, usable}
use Rattle.flood.specs.Machine as machine
use Rattle.flood.specs.Laws.Run as own
use Rattle.flood.specs.Laws.Order.{order-accepted}
use Rattle.wavelengths.specs.declared.Floods.{Floods}
use Rattle.wavelengths.specs.declared.Wavelength.{Wavelength}
use Rattle.wavelengths.specs.declared.Wavelength.TheVariants.{First, Second}
use Rattle.wavelengths.specs.Wavelength.{on, pair}
use Rattle.wavelengths.specs.Merge as merge
use Rattle.wavelengths.specs.Merge.{Ran, Turn, links_on, fresh_on_each, play, order}
use Rattle.wavelengths.proofs.Laws.Next.{rest_says}
use Rattle.wavelengths.proofs.Laws.Project.{fresh_on_lem, on-begin}
use Rattle.wavelengths.proofs.Laws.Rest.{links_rest, run_rests}
use Rattle.mesh.specs.declared.Mesh.{Mesh}
use Rattle.mesh.specs.declared.Plan.{Plan}
use Rattle.mesh.specs.Answer.{Accepted}
use Rattle.planner.specs.Plan.{planned}
use Rattle.formed.specs.Cut.{Link}
use Rattle.recovery.specs.Answers as outcomes
use Rattle.recovery.specs.declared.Run.{Run}
use Rattle.recovery.specs.declared.Session.{Session}
use Rattle.recovery.specs.Session.{floods}
use Rattle.recovery.specs.Calls.{digraph, failure, with_floods}
use Rattle.history.specs.History.{Call, by_value, cut, run, reply, next, after}
use Rattle.history.specs.Log.{made_on, deliveries_on}
use Rattle.history.specs.Demand.{AtRest, started_on, ended, log, RunsOut}
use Rattle.history.proofs.Laws.Kept.{cut_session, graphs, lost, played, Since, kept-cut}
use Rattle.history.proofs.Laws.Started.{sound, progress, ended-kept}
use Rattle.history.proofs.Laws.Routed.{seen-rest}
use Rattle.history.proofs.Laws.Ruled.{after-append}
use Rattle.history.proofs.Laws.Undisturbed.{run_turns, just_cut, run_is, run-order, run-logged}

module _ (m : Mesh) (sized : length m.links ≡ 256) (good : (planned m).answer ≡ Accepted) (a : ℕ) (enough : 4 * m.count ≤ a) where
  abbrev p : Plan
  p = (planned m).plan

  -- under the cut of link k, after the deliveries ts
  module _ {k : ℕ} {ts : List Turn} (q : Since m p k ts) where
    abbrev g : Wavelength → Digraph
    g = graphs m p

    abbrev c : Wavelength → Failure
    c = lost m p k

    abbrev f : Floods
    f = played m p k ts

    abbrev s : Session
    s = cut_session m p k f

    abbrev ran : Ran
    ran = merge.run g c a f

    abbrev own_run : Wavelength → ℕ → machine.Ran
    own_run w n = machine.run (g w) (c w) n (on w f)

    abbrev twice : ℕ
    twice = 2 * m.count

    -- a flood's own run comes to rest
    own_rests : (w : Wavelength) (n : ℕ) → twice ≤ n → machine.at_rest (g w) (own_run w n).flood ≡ true
    unfolding usable
    own_rests w n h =
        own.run_rests (g w) (c w) (sound m good sized q w) n (progress m good sized q w) (omega (arith, count-le (λ i. not ((c w).blocked i)) m.count))

    -- so that the run is both
    both_run : ran ≡ record { floods = pair (own_run First twice).flood (own_run Second twice).flood; made = (own_run First twice).made + (own_run Second twice).made }
    both_run = run_rests g c f twice twice (own_rests First twice (omega arith)) (own_rests Second twice (omega arith)) a (omega arith)

    both_rest : (w : Wavelength) → machine.at_rest (g w) (on w ran.floods) ≡ true
    both_rest First = rw both_run (own_rests First twice (omega arith))
    both_rest Second = rw both_run (own_rests Second twice (omega arith))

    -- on each wavelength it makes all the deliveries of the own run, and the session rests then
    run_whole : (w : Wavelength) → links_on w (order g c a f) ≡ machine.order (g w) (c w) a (on w f)
    run_whole w = links_rest g c f w a a (own_rests w a (omega arith)) (both_rest w)

    run-resting : (w : Wavelength) → AtRest (next (run a) s) w
    run-resting w = subst (λ (r : Run). AtRest r.session w) (sym (run_is m sized good q a)) (seen-rest (with_floods s ran.floods) w (both_rest w))

    run_report : reply (run a) s ≡ outcomes.Made ran.made true
    run_report =
        ap (λ (r : Run). r.report) (run_is m sized good q a)
        ∙ ap (outcomes.Made ran.made) ((rest_says g ran.floods).1 (both_rest First, both_rest Second))

pub runs_out : (m : Mesh) → length m.links ≡ 256 → (planned m).answer ≡ Accepted → (calls : List Call) (k : ℕ) → (log m calls).cut ≡ Link k
    → (a : ℕ) → 4 * m.count ≤ a → (w : Wavelength) → RunsOut m calls w a
unfolding after
runs_out m sized good calls k stands a enough w =
    let (whole, rests) = kept-cut m (planned m).plan
    (λ s k ts. (links_on w (run_turns m s a) ≡ machine.order (digraph s w) (failure s w) a (on w (floods s))) × AtRest (next (run a) s) w)
    (λ k ts q. (ap (links_on w) (run-order m sized good q a) ∙ run_whole m sized good a enough q w, run-resting m sized good a enough q w))
    (ended-kept m good sized calls) k stands in
    record {
      same = run-logged m sized good w a calls ∙ ap (λ (js : List ℕ). made_on w (log m calls) ++ js) whole;
      rests = subst (λ (s : Session). AtRest s w) (sym (after-append calls (run a ∷ []) (started_on m))) rests;
    }

-- it reports that nothing is under way on either
pub reports_rest : (m : Mesh) → length m.links ≡ 256 → (planned m).answer ≡ Accepted → (calls : List Call) (k : ℕ) → (log m calls).cut ≡ Link k
    → (a : ℕ) → 4 * m.count ≤ a → (n : ℕ) × (reply (run a) (ended m calls) ≡ outcomes.Made n true)
reports_rest m sized good calls k stands a enough =
    kept-cut m (planned m).plan (λ s k ts. (n : ℕ) × (reply (run a) s ≡ outcomes.Made n true)) (λ k ts q. (_, run_report m sized good a enough q))
    (ended-kept m good sized calls) k stands

-- right after the cut of a link it makes as many deliveries on a wavelength as that wavelength's own run
module _ (m : Mesh) (sized : length m.links ≡ 256) (good : (planned m).answer ≡ Accepted) (k : ℕ) (below : k < m.count) (a : ℕ) (enough : 4 * m.count ≤ a) (w : Wavelength) where
  abbrev plan : Plan
  plan = (planned m).plan

  abbrev gw : Digraph
  gw = graphs m plan w

  abbrev cw : Failure
  cw = lost m plan k w

  abbrev fw : Flood
  fw = on w (played m plan k [])

  begun-own : fw ≡ machine.begin gw cw (machine.fresh 256 64)
  unfolding play
  begun-own = on-begin (graphs m plan) (lost m plan k) w (fresh_on_each 256 64) ∙ ap (machine.begin gw cw) (fresh_on_lem w 256 64)

  own-order : made_on w (log m (cut by_value k ∷ run a ∷ [])) ≡ machine.order gw cw a fw
  unfolding links_on
  own-order =
      just_cut m sized good k below
      (λ s l. let js = made_on w (log m (cut by_value k ∷ run a ∷ [])) in js ≡ made_on w l ++ machine.order (digraph s w) (failure s w) a (on w (floods s)) → js ≡ machine.order gw cw a fw)
      (λ e. e)
      (runs_out m sized good (cut by_value k ∷ []) k (just_cut m sized good k below (λ s l. l.cut ≡ Link k) refl) a enough w).same

  pub cut-run-made : deliveries_on w (log m (cut by_value k ∷ run a ∷ [])) ≡ (machine.run gw cw a (machine.begin gw cw (machine.fresh 256 64))).made
  unfolding machine.run
  cut-run-made = ap length own-order ∙ sym (order-accepted gw cw a fw) ∙ ap (λ (f : Flood). (machine.run gw cw a f).made) begun-own
