-- Rows on the calls from before wavelength 2: 01's bench examples P2, P6 and P7, and 01's refusals of each call in order. Definitions only; the theorem over
-- both tables is `old-bench` of Main.
use Rattle.std.specs.Prelude.{ℕ, ◌-◌, List, [], ◌∷◌, ◌++◌, length, replicate}
use Rattle.mesh.specs.Answer.{Answer, Accepted, Refused}
use Rattle.legacy.specs.declared.OldLink.{OldLink}
use Rattle.legacy.specs.declared.OldCut.TheVariants.{Link}
use Rattle.legacy.specs.declared.OldSession.{OldSession}
use Rattle.legacy.specs.Record.{zero_link}
use Rattle.legacy.specs.Calls.{Call, cut, deliver, mend, status, run, fresh_on, answer, route_answer, route_of}
use Rattle.legacy.specs.History.{Log, empty_log, after, logged}

-- ---- sessions

-- a link with these ends, not measured and with no fibre pair
abbrev ends : ℕ → ℕ → OldLink
ends low high = record { low = low; high = high; length = 0; pair = 0 }

-- a fresh session on a mesh of n nodes with these links and on these directions
abbrev fresh_with : ℕ → List OldLink → List ℕ → OldSession
fresh_with n ls p =
    fresh_on
    (record { nodes = n; count = length ls; links = ls ++ replicate (256 - length ls) zero_link })
    (record { directions = p ++ replicate (256 - length p) 0 })

-- on the triangle of P1 and its plan, and on the four nodes of P5 and theirs
abbrev triangle : OldSession
triangle = fresh_with 3 (ends 0 1 ∷ ends 0 2 ∷ ends 1 2 ∷ []) (0 ∷ 1 ∷ 0 ∷ [])

abbrev four_nodes : OldSession
four_nodes = fresh_with 4 (ends 0 1 ∷ ends 0 2 ∷ ends 0 3 ∷ ends 1 2 ∷ ends 2 3 ∷ []) (0 ∷ 0 ∷ 1 ∷ 0 ∷ 0 ∷ [])

-- ---- P2, P6, P7

-- the cut that stands and the deliveries made since, in order, and the route query's answer and links
pub record Outcome : Type 0 where
  pub log : Log
  pub answer : Answer
  pub route : List ℕ

-- calls on a session, and what comes of them
pub record Row : Type 0 where
  pub start : OldSession
  pub calls : List Call
  pub outcome : Outcome

abbrev pub outcome_of : Row → Outcome
outcome_of r = record {
  log = logged r.calls r.start empty_log;
  answer = route_answer (after r.calls r.start);
  route = route_of (after r.calls r.start);
}

-- link k is cut, deliveries are made on these links, and the route query gives these, none before rest
abbrev recovers : ℕ → List ℕ → List ℕ → Outcome
recovers k delivered route = record { log = record { cut = Link k; made = delivered }; answer = Accepted; route = route }

abbrev pub table : List Row
table =
    -- P2
    record { start = triangle; calls = cut 0 ∷ deliver 1 ∷ deliver 2 ∷ []; outcome = recovers 0 (1 ∷ 2 ∷ []) (1 ∷ 2 ∷ []) }
    -- P6
    ∷ record { start = four_nodes; calls = cut 4 ∷ run 4294967295 ∷ []; outcome = recovers 4 (1 ∷ 2 ∷ 3 ∷ 0 ∷ 0 ∷ 3 ∷ []) (1 ∷ 2 ∷ []) }
    -- P6, with an allowance that ends it before rest
    ∷ record { start = four_nodes; calls = cut 4 ∷ run 3 ∷ []; outcome = recovers 4 (1 ∷ 2 ∷ 3 ∷ []) [] }
    -- P7
    ∷ record {
      start = four_nodes;
      calls = cut 4 ∷ deliver 3 ∷ deliver 0 ∷ deliver 2 ∷ deliver 1 ∷ deliver 1 ∷ [];
      outcome = recovers 4 (3 ∷ 0 ∷ 2 ∷ 1 ∷ 1 ∷ []) (3 ∷ 0 ∷ 2 ∷ []);
    }
    -- P6, with refused calls between
    ∷ record {
      start = four_nodes;
      calls = run 6 ∷ cut 4 ∷ cut 3 ∷ mend 4 ∷ run 6 ∷ [];
      outcome = recovers 4 (1 ∷ 2 ∷ 3 ∷ 0 ∷ 0 ∷ 3 ∷ []) (1 ∷ 2 ∷ []);
    }
    ∷ []

-- ---- refusals

-- a call after others on the four nodes, which have no link 5, and its answer
pub record Question : Type 0 where
  pub calls : List Call
  pub call : Call
  pub answered : Answer

abbrev pub answer_to : Question → Answer
answer_to q = answer q.call (after q.calls four_nodes)

abbrev asked : List Call → Call → Answer → Question
asked calls call answered = record { calls = calls; call = call; answered = answered }

-- link 4 is cut; it is, and at rest; it is mended
abbrev broken : List Call
broken = cut 4 ∷ []

abbrev rested : List Call
rested = cut 4 ∷ run 6 ∷ []

abbrev mended : List Call
mended = cut 4 ∷ run 6 ∷ mend 4 ∷ []

-- cut 12, 22; delivery 12, 23, 24; run 23; mend 12, 23, 26, 25; status 12
abbrev pub questions : List Question
questions =
    asked broken (cut 5) (Refused 12 5) ∷ asked broken (cut 3) (Refused 22 3) ∷ asked [] (cut 3) Accepted ∷ asked mended (cut 3) Accepted
    ∷ asked [] (deliver 5) (Refused 12 5) ∷ asked [] (deliver 2) (Refused 23 2) ∷ asked broken (deliver 2) (Refused 24 2) ∷ asked broken (deliver 1) Accepted
    ∷ asked [] (run 6) (Refused 23 0) ∷ asked broken (run 0) Accepted
    ∷ asked [] (mend 5) (Refused 12 5) ∷ asked [] (mend 4) (Refused 23 4) ∷ asked broken (mend 1) (Refused 26 1) ∷ asked broken (mend 4) (Refused 25 4)
    ∷ asked rested (mend 4) Accepted ∷ asked mended (mend 4) (Refused 23 4)
    ∷ asked [] (status 5) (Refused 12 5) ∷ asked [] (status 4) Accepted
    ∷ []
