-- 01's bench examples marked P, as rows of one table, which show wavelength 1 alone (02, request 2). Definitions only; the theorem over the table is `bench`
-- of Main.
use Rattle.std.specs.Prelude.{ℕ, ◌-◌, true, cond, eqb, ◌≡◌, List, [], ◌∷◌, ◌++◌, map, length, replicate}
use Rattle.scan.specs.Entry.{at}
use Rattle.scan.specs.Passing.{passing}
use Rattle.mesh.specs.declared.Link.{Link}
use Rattle.mesh.specs.Answer.{Accepted, Refused}
use Rattle.mesh.specs.Mesh.{zero_link, zero_mesh}
use Rattle.codec.specs.declared.Decoded.{Decoded}
use Rattle.planner.specs.declared.Planned.{Planned}
use Rattle.codec.specs.Book.{decoded}
use Rattle.planner.specs.Plan.{padded, zero_plan, planned}
use Rattle.wavelengths.specs.declared.Wavelength.TheVariants.{First}
use Rattle.wavelengths.specs.Wavelength.{wavelength_of}
use Rattle.wavelengths.specs.Merge.{Turn, turn, links_on, order}
use Rattle.recovery.specs.declared.Session.{Session}
use Rattle.recovery.specs.Session.{floods}
use Rattle.recovery.specs.declared.Delivered.TheVariants.{Taken, TurnedBack, Released}
use Rattle.recovery.specs.Answers.{Made}
use Rattle.recovery.specs.declared.Routed.{Routed}
use Rattle.recovery.specs.Calls.{digraph, failure, after_delivery, routed_as, routed}
use Rattle.history.specs.History.{Call, Answered, by_value, cut, deliver, run, mend, status, next, after, answers, accepted}
use Rattle.history.specs.Demand.{started_on}

-- a link with these ends, not measured and with no fibre pair
abbrev pub ends : ℕ → ℕ → Link
ends low high = record { low = low; high = high; length = 0; pair = 0 }

-- the book reads as a mesh of n nodes with these links, none of which has a duct
abbrev pub reads : ℕ → List Link → Decoded
reads n ls = record {
  mesh = record { nodes = n; count = length ls; links = ls ++ replicate (256 - length ls) zero_link; ducts = replicate 256 0 };
  answer = Accepted;
}

-- reading the book is refused with this number at this place
abbrev pub refuses : ℕ → ℕ → Decoded
refuses number place = record { mesh = zero_mesh; answer = Refused number place }

-- planning gives these directions
abbrev pub plans : List ℕ → Planned
plans p = record { plan = padded p; answer = Accepted }

-- planning is refused with this number at this place
abbrev pub unplanned : ℕ → ℕ → Planned
unplanned number place = record { plan = zero_plan; answer = Refused number place }

-- the route query gives these links, from x on
abbrev pub routes : List ℕ → Routed
routes = routed_as Accepted

-- the route query is refused with this number at this place
abbrev pub unrouted : ℕ → ℕ → Routed
unrouted number place = routed_as (Refused number place) []

-- the deliveries that a call makes, in turn
abbrev pub turns_of : Call → Session → List Turn
turns_of (cut f k) s = []
turns_of (deliver f k u) s = cond (accepted (after_delivery s k u).answer) (turn k (wavelength_of u) ∷ []) []
turns_of (run a) s = order (digraph s) (failure s) a (floods s)
turns_of (mend f k) s = []
turns_of (status k u) s = []

unfoldable pub turns : List Call → Session → List Turn
turns [] s = []
turns (c ∷ cs) s = turns_of c s ++ turns cs (next c s)

-- the links of those on wavelength 1
abbrev pub turns_on_first : List Call → Session → List ℕ
turns_on_first cs s = links_on First (turns cs s)

-- the links taken on wavelength 1
abbrev pub taken_in : Session → List ℕ
taken_in s = passing (λ i. eqb (at s.first.states i) 2) s.mesh.count

-- calls on a session, each with its answer (a run's counts the deliveries on both wavelengths); on wavelength 1 the links on which they make deliveries, in
-- turn, and at the end the taken links and what the route query gives
pub record Recovery : Type 0 where
  pub answered : List Answered
  pub delivered : List ℕ
  pub taken : List ℕ
  pub routing : Routed

-- a book; what reading it gives; what planning the mesh that was read gives (a refused read gives the all-zero mesh, which planning refuses with
-- 3 at 0); what calls give on the session that is started on that mesh and plan (a refused start gives the all-zero session, whose record is refused
-- with 3 at 0)
pub record Row : Type 0 where
  pub book : List ℕ
  pub reading : Decoded
  pub planning : Planned
  pub recovery : Recovery

-- no calls
abbrev uncalled : Routed → Recovery
uncalled routing = record { answered = []; delivered = []; taken = []; routing = routing }

-- the row with calls
abbrev under : Row → Recovery → Row
under r recovery = record { book = r.book; reading = r.reading; planning = r.planning; recovery = recovery }

abbrev p1 : Row
p1 =
    record {
      book = 1 ∷ 3 ∷ 3 ∷ 0 ∷ 0 ∷ 2 ∷ 2 ∷ 1 ∷ 1 ∷ [];
      reading = reads 3 (ends 0 1 ∷ ends 0 2 ∷ ends 1 2 ∷ []);
      planning = plans (0 ∷ 1 ∷ 0 ∷ []);
      recovery = uncalled (unrouted 23 0);
    }

abbrev p2 : Row
p2 =
    under p1 (record {
      answered = (cut by_value 0, Accepted) ∷ (deliver by_value 1 1, Taken 2) ∷ (deliver by_value 2 1, Taken 1) ∷ [];
      delivered = 1 ∷ 2 ∷ [];
      taken = 1 ∷ 2 ∷ [];
      routing = routes (1 ∷ 2 ∷ []);
    })

abbrev p3 : Row
p3 =
    record {
      book = 1 ∷ 2 ∷ 1 ∷ 0 ∷ 0 ∷ [];
      reading = reads 2 (ends 0 1 ∷ []);
      planning = unplanned 21 0;
      recovery = uncalled (unrouted 23 0);
    }

abbrev p4 : Row
p4 = record { book = 1 ∷ 2 ∷ 0 ∷ 0 ∷ []; reading = reads 2 []; planning = unplanned 20 1; recovery = uncalled (unrouted 23 0) }

abbrev p5 : Row
p5 =
    record {
      book = 1 ∷ 4 ∷ 5 ∷ 0 ∷ 0 ∷ 2 ∷ 2 ∷ 2 ∷ 3 ∷ 1 ∷ 1 ∷ 1 ∷ 2 ∷ [];
      reading = reads 4 (ends 0 1 ∷ ends 0 2 ∷ ends 0 3 ∷ ends 1 2 ∷ ends 2 3 ∷ []);
      planning = plans (0 ∷ 0 ∷ 1 ∷ 0 ∷ 0 ∷ []);
      recovery = uncalled (unrouted 23 0);
    }

abbrev p6 : Row
p6 =
    under p5 (record {
      answered = (cut by_value 4, Accepted) ∷ (run 4294967295, Made 12 true) ∷ [];
      delivered = 1 ∷ 2 ∷ 3 ∷ 0 ∷ 0 ∷ 3 ∷ [];
      taken = 1 ∷ 2 ∷ [];
      routing = routes (1 ∷ 2 ∷ []);
    })

abbrev p7 : Row
p7 =
    under p5 (record {
      answered =
          (cut by_value 4, Accepted)
          ∷ (deliver by_value 3 1, Taken 1)
          ∷ (deliver by_value 0 1, Taken 0)
          ∷ (deliver by_value 2 1, Taken 3)
          ∷ (deliver by_value 1 1, TurnedBack 0)
          ∷ (deliver by_value 1 1, Released 2)
          ∷ [];
      delivered = 3 ∷ 0 ∷ 2 ∷ 1 ∷ 1 ∷ [];
      taken = 0 ∷ 2 ∷ 3 ∷ [];
      routing = routes (3 ∷ 0 ∷ 2 ∷ []);
    })

-- reading is refused with this number at this place; planning and the route query then meet the all-zero mesh
abbrev unread : List ℕ → ℕ → ℕ → Row
unread book number place =
    record { book = book; reading = refuses number place; planning = unplanned 3 0; recovery = uncalled (unrouted 3 0) }

abbrev p8 : Row
p8 = unread (1 ∷ 2 ∷ 1 ∷ 0 ∷ 2 ∷ 1 ∷ []) 9 4

abbrev p9 : Row
p9 = unread (1 ∷ 3 ∷ 3 ∷ 0 ∷ 0 ∷ 2 ∷ 2 ∷ 1 ∷ 1 ∷ 0 ∷ []) 10 9

abbrev p10 : Row
p10 = unread [] 1 0

abbrev pub table : List Row
table = p1 ∷ p2 ∷ p3 ∷ p4 ∷ p5 ∷ p6 ∷ p7 ∷ p8 ∷ p9 ∷ p10 ∷ []

module _ (r : Row) where
  -- the calls; the session on which the first is made, and the one after the last
  abbrev pub calls_of : List Call
  calls_of = map (λ (a : Answered). a.0) r.recovery.answered

  abbrev pub start_of : Session
  start_of = started_on (decoded r.book).mesh

  abbrev pub end_of : Session
  end_of = after calls_of start_of

  -- the row holds of the definitions that the contracts cite
  pub record Holds : Type 0 where
    pub reads : decoded r.book ≡ r.reading
    pub plans : planned (decoded r.book).mesh ≡ r.planning
    pub replies : answers calls_of start_of ≡ r.recovery.answered
    pub delivers : turns_on_first calls_of start_of ≡ r.recovery.delivered
    pub takes : taken_in end_of ≡ r.recovery.taken
    pub routes : routed end_of 1 ≡ r.recovery.routing
