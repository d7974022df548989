-- A planned mesh: the start on it and its plan is accepted, and after every list of calls the session is as the calls keep it and passes its record test.
-- Assumes 256 entries in the mesh's list of links.
use Rattle.std.specs.Prelude.{ℕ, ◌≡◌, not, List, ◌++◌, length}
use Rattle.std.proofs.Common.{sym, subst, ap, ◌∙◌}
use Rattle.std.proofs.lemmas.Bool.{lt-leb}
use Rattle.flood.specs.Digraph.{Sound}
use Rattle.flood.specs.Path.{Strong}
use Rattle.flood.specs.Laws.Progress.{Progress}
use Rattle.wavelengths.specs.declared.Wavelength.{Wavelength}
use Rattle.wavelengths.specs.Wavelength.{on}
use Rattle.wavelengths.specs.Merge.{Turn, links_on}
use Rattle.mesh.specs.declared.Mesh.{Mesh}
use Rattle.mesh.specs.declared.Plan.{Plan}
use Rattle.mesh.specs.Answer.{Accepted}
use Rattle.mesh.specs.Mesh.{mesh_answer}
use Rattle.mesh.specs.Laws.Checked.{Passes, passes}
use Rattle.planner.specs.Plan.{planned}
use Rattle.planner.specs.Laws.Meaning.{plan_checked}
use Rattle.formed.specs.Cut.{Link}
use Rattle.recovery.specs.declared.Change.{Change}
use Rattle.recovery.specs.declared.Session.{Session}
use Rattle.recovery.specs.Formed.{record_answer}
use Rattle.formed.specs.WellFormed.{PlanFormed}
use Rattle.formed.specs.Laws.Forming.{cut_says, start-accepts}
use Rattle.formed.specs.Laws.Fresh.{fresh-answer}
use Rattle.recovery.specs.Calls.{fresh_on, started}
use Rattle.recovery.specs.Laws.Forming.{record_accepts}
use Rattle.history.specs.History.{Call, after, answers}
use Rattle.history.specs.Rules.{Now, start}
use Rattle.history.specs.Log.{Log, empty_log, logged}
use Rattle.history.specs.Demand.{seen, started_on, digraph_on, ended, log}
use Rattle.history.proofs.Laws.Backup.{plan_most, plan-past, plan_strong}
use Rattle.history.proofs.Laws.RuledCalls.{fresh-seen}
use Rattle.history.proofs.Laws.Kept as kept
use Rattle.history.proofs.Laws.Kept.{cut_session, graphs, lost, played, Since, Kept, free, under, calls-kept, calls-more}

module _ (m : Mesh) (accepted : (planned m).answer ≡ Accepted) where
  abbrev p : Plan
  p = (planned m).plan

  checked : mesh_answer m ≡ Accepted
  checked = plan_checked m accepted

  whole : Passes m
  whole = passes m checked

  plan_formed : PlanFormed m p
  plan_formed = record { most = λ i l. plan_most m accepted i; zeros = λ i l b. plan-past m accepted i l }

  pub started-fresh : started m p ≡ record { session = fresh_on m p; answer = Accepted }
  unfolding started
  started-fresh = rw (start-accepts m p checked plan_formed)

  -- the start is the fresh session, and the rules' start is what it holds
  pub from_start : (P : Session → Now → Type 0) → P (fresh_on m p) (seen (fresh_on m p)) → P (started_on m) start
  from_start P h = subst (λ (r : Change). P r.session start) (sym started-fresh) (subst (P (fresh_on m p)) (fresh-seen m p) h)

  module _ (sized : length m.links ≡ 256) where
    strong : Strong (digraph_on m)
    strong = plan_strong m accepted sized

    -- under a cut each wavelength's flood has made progress by its own deliveries
    module _ {k : ℕ} {ts : List Turn} (q : Since m p k ts) (w : Wavelength) where
      pub sound : Sound (graphs m p w) (lost m p k w)
      sound = kept.sound m p whole.count_most whole.nodes_most w strong q

      pub progress : Progress (graphs m p w) (lost m p k w) (length (links_on w ts)) (on w (played m p k ts))
      progress = kept.progress m p whole.count_most whole.nodes_most w strong q

    -- what the calls keep passes the record test
    pub kept_record : {s : Session} {l : Log} → Kept m p s l → record_answer s ≡ Accepted
    kept_record free = fresh-answer m p ∙ start-accepts m p checked plan_formed
    kept_record (under {k} {ts} q) = record_accepts (cut_session m p k (played m p k ts)) checked plan_formed ((cut_says m (Link k)).0 (ap not (lt-leb m.count k q.link))) (λ w.
        let f = progress q w in
        record {
          states = record { most = λ i l. f.small i; zeros = λ i l b. f.past_links i l };
          reached = λ v b t. f.past_nodes v t;
        })

    -- the session and what the answers say after the calls
    pub ended-kept : (calls : List Call) → Kept m p (ended m calls) (log m calls)
    ended-kept calls =
        from_start (λ s n. Kept m p (after calls s) (logged (digraph_on m) (answers calls s) n empty_log))
        (calls-kept m p (λ s l. kept_record) calls free)

    -- what they say after further calls
    pub ended-more : (calls more : List Call) → log m (calls ++ more) ≡ logged (digraph_on m) (answers more (ended m calls)) (seen (ended m calls)) (log m calls)
    ended-more calls more =
        from_start (λ s n. let t = after calls s in logged (digraph_on m) (answers (calls ++ more) s) n empty_log
        ≡ logged (digraph_on m) (answers more t) (seen t) (logged (digraph_on m) (answers calls s) n empty_log))
        (calls-more m p (λ s l. kept_record) calls more free)
