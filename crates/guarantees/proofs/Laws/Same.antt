-- Computed equality of answers, meshes and what reading, planning, each call and the route query give: where the test passes, the two are equal.
-- Assumes nothing.
use Rattle.std.specs.Prelude.{ℕ, ◌≡◌, refl, Bool, true, false, cond, ◌&&◌, List, [], ◌∷◌, map, eqb, Err, Ok}
use Rattle.std.proofs.Common.{sym, ◌∙◌, ap, eqb-true}
use Rattle.std.proofs.lemmas.Bool.{false≢true}
use Rattle.std.proofs.Math.Bool.{and-eq-true_iff}
use Rattle.scan.specs.Entry.{at}
use Rattle.scan.specs.Total.{bit}
use Rattle.metres.specs.Known.{Length}
use Rattle.metres.specs.Known as lengths
use Rattle.mesh.specs.declared.Link.{Link}
use Rattle.mesh.specs.declared.Mesh.{Mesh}
use Rattle.mesh.specs.Answer.{Answer, Accepted, Refused}
use Rattle.codec.specs.declared.Decoded.{Decoded}
use Rattle.planner.specs.declared.Planned.{Planned}
use Rattle.recovery.specs.declared.Session.{Session}
use Rattle.recovery.specs.declared.Delivered.{Delivered}
use Rattle.recovery.specs.declared.Delivered.TheVariants as delivered
use Rattle.recovery.specs.Answers.{Report, Status}
use Rattle.recovery.specs.Answers as outcomes
use Rattle.recovery.specs.declared.Routed.{Routed}
use Rattle.history.specs.History.{Call, Reply, Answered, cut, deliver, run, mend, status, reply, next, answers}

abbrev pub same_link : Link → Link → Bool
same_link a b = eqb a.low b.low && (eqb a.high b.high && (eqb a.length b.length && eqb a.pair b.pair))

same-link : (a b : Link) → same_link a b ≡ true → a ≡ b
same-link a b e =
    let (low, e1) = (and-eq-true_iff (eqb a.low b.low) _).0 e in
    let (high, e2) = (and-eq-true_iff (eqb a.high b.high) _).0 e1 in
    let (length, pair) = (and-eq-true_iff (eqb a.length b.length) _).0 e2 in
    λ j. record { low = eqb-true a.low b.low low j; high = eqb-true a.high b.high high j; length = eqb-true a.length b.length length j; pair = eqb-true a.pair b.pair pair j }

-- lists, by a test of their elements
abbrev same_all : {A : Type 0} → (A → A → Bool) → List A → List A → Bool
same_all t [] [] = true
same_all t [] (b ∷ bs) = false
same_all t (a ∷ r) [] = false
same_all t (a ∷ r) (b ∷ bs) = t a b && same_all t r bs

same-all : {A : Type 0} (t : A → A → Bool) → ((a b : A) → t a b ≡ true → a ≡ b) → (r bs : List A) → same_all t r bs ≡ true → r ≡ bs
same-all t f [] [] e = refl
same-all t f [] (b ∷ bs) e = absurd (false≢true e)
same-all t f (a ∷ r) [] e = absurd (false≢true e)
same-all t f (a ∷ r) (b ∷ bs) e =
    let (first, rest) = (and-eq-true_iff (t a b) _).0 e in
    λ j. f a b first j ∷ same-all t f r bs rest j

abbrev pub same_numbers : List ℕ → List ℕ → Bool
same_numbers = same_all eqb

pub same-numbers : (r bs : List ℕ) → same_numbers r bs ≡ true → r ≡ bs
same-numbers = same-all eqb eqb-true

abbrev pub same_mesh : Mesh → Mesh → Bool
same_mesh a b =
    eqb a.nodes b.nodes && (eqb a.count b.count && (same_all same_link a.links b.links && same_numbers a.ducts b.ducts))

same-mesh : (a b : Mesh) → same_mesh a b ≡ true → a ≡ b
same-mesh a b e =
    let (nodes, e1) = (and-eq-true_iff (eqb a.nodes b.nodes) _).0 e in
    let (count, e2) = (and-eq-true_iff (eqb a.count b.count) _).0 e1 in
    let (links, ducts) = (and-eq-true_iff (same_all same_link a.links b.links) _).0 e2 in
    λ j. record {
      nodes = eqb-true a.nodes b.nodes nodes j;
      count = eqb-true a.count b.count count j;
      links = same-all same_link same-link a.links b.links links j;
      ducts = same-numbers a.ducts b.ducts ducts j;
    }

abbrev pub same_answer : Answer → Answer → Bool
same_answer Accepted Accepted = true
same_answer Accepted (Err r) = false
same_answer (Err r) Accepted = false
same_answer (Err r) (Err why) = eqb r.number why.number && eqb r.place why.place

same_answer_lem : (a b : Answer) → same_answer a b ≡ true → a ≡ b
same_answer_lem Accepted Accepted e = refl
same_answer_lem Accepted (Err r) e = absurd (false≢true e)
same_answer_lem (Err r) Accepted e = absurd (false≢true e)
same_answer_lem (Err r) (Err why) e =
    let (first, second) = (and-eq-true_iff (eqb r.number why.number) _).0 e in
    λ j. Refused (eqb-true r.number why.number first j) (eqb-true r.place why.place second j)

abbrev pub same_decoded : Decoded → Decoded → Bool
same_decoded a b = same_mesh a.mesh b.mesh && same_answer a.answer b.answer

pub same-decoded : (a b : Decoded) → same_decoded a b ≡ true → a ≡ b
same-decoded a b e =
    let (mesh, answer) = (and-eq-true_iff (same_mesh a.mesh b.mesh) _).0 e in
    λ j. record { mesh = same-mesh a.mesh b.mesh mesh j; answer = same_answer_lem a.answer b.answer answer j }

abbrev pub same_planned : Planned → Planned → Bool
same_planned a b = same_numbers a.plan.directions b.plan.directions && same_answer a.answer b.answer

pub same-planned : (a b : Planned) → same_planned a b ≡ true → a ≡ b
same-planned a b e =
    let (plan, answer) = (and-eq-true_iff (same_numbers a.plan.directions b.plan.directions) _).0 e in
    λ j. record {
      plan = record { directions = same-numbers a.plan.directions b.plan.directions plan j };
      answer = same_answer_lem a.answer b.answer answer j;
    }

abbrev pub same_routed : Routed → Routed → Bool
same_routed a b =
    eqb a.route.length b.route.length && (same_numbers a.route.links b.route.links && same_answer a.answer b.answer)

pub same-routed : (a b : Routed) → same_routed a b ≡ true → a ≡ b
same-routed a b e =
    let (length, e1) = (and-eq-true_iff (eqb a.route.length b.route.length) _).0 e in
    let (links, answer) = (and-eq-true_iff (same_numbers a.route.links b.route.links) _).0 e1 in
    λ j. record {
      route = record { links = same-numbers a.route.links b.route.links links j; length = eqb-true a.route.length b.route.length length j };
      answer = same_answer_lem a.answer b.answer answer j;
    }

-- ---- what a call answers: as numbers, from which it can be read back

same_coded : {A : Type 0} (code : A → List ℕ) (back : List ℕ → A) → ((a : A) → back (code a) ≡ a) → (a b : A)
    → same_numbers (code a) (code b) ≡ true → a ≡ b
same_coded code back inverse a b e = sym (inverse a) ∙ ap back (same-numbers (code a) (code b) e) ∙ inverse b

abbrev delivered_numbers : Delivered → List ℕ
delivered_numbers (delivered.Taken v) = 0 ∷ v ∷ []
delivered_numbers (delivered.TurnedBack v) = 1 ∷ v ∷ []
delivered_numbers (delivered.Released v) = 2 ∷ v ∷ []
delivered_numbers (delivered.Refused number place) = 3 ∷ number ∷ place ∷ []

same_delivered : (a b : Delivered) → same_numbers (delivered_numbers a) (delivered_numbers b) ≡ true → a ≡ b
same_delivered = same_coded delivered_numbers back inverse
  where
    back : List ℕ → Delivered
    back l =
        cond (eqb (at l 0) 0) (delivered.Taken (at l 1))
        (cond (eqb (at l 0) 1) (delivered.TurnedBack (at l 1))
        (cond (eqb (at l 0) 2) (delivered.Released (at l 1))
        (delivered.Refused (at l 1) (at l 2))))

    inverse : (a : Delivered) → back (delivered_numbers a) ≡ a
    inverse (delivered.Taken v) = refl
    inverse (delivered.TurnedBack v) = refl
    inverse (delivered.Released v) = refl
    inverse (delivered.Refused number place) = refl

abbrev report_numbers : Report → List ℕ
report_numbers (Ok o) = 0 ∷ o.made ∷ bit o.rest ∷ []
report_numbers (Err r) = 1 ∷ r.number ∷ r.place ∷ []

same_report : (a b : Report) → same_numbers (report_numbers a) (report_numbers b) ≡ true → a ≡ b
same_report = same_coded report_numbers back inverse
  where
    back : List ℕ → Report
    back l = cond (eqb (at l 0) 0) (outcomes.Made (at l 1) (eqb (at l 2) 1)) (Refused (at l 1) (at l 2))

    made : (count : ℕ) (rest : Bool) → back (report_numbers (outcomes.Made count rest)) ≡ outcomes.Made count rest
    made count true = refl
    made count false = refl

    inverse : (a : Report) → back (report_numbers a) ≡ a
    inverse (Ok o) = made o.made o.rest
    inverse (Err r) = refl

abbrev link_numbers : ℕ → ℕ → Length → List ℕ
link_numbers state under_way (lengths.Metres n) = 0 ∷ state ∷ under_way ∷ n ∷ []
link_numbers state under_way lengths.NotKnown = 1 ∷ state ∷ under_way ∷ []

abbrev status_numbers : Status → List ℕ
status_numbers (Ok l) = link_numbers l.state l.under_way l.route
status_numbers (Err r) = 2 ∷ r.number ∷ r.place ∷ []

same_status : (a b : Status) → same_numbers (status_numbers a) (status_numbers b) ≡ true → a ≡ b
same_status = same_coded status_numbers back inverse
  where
    back : List ℕ → Status
    back l =
        cond (eqb (at l 0) 0) (outcomes.Link (at l 1) (at l 2) (lengths.Metres (at l 3)))
        (cond (eqb (at l 0) 1) (outcomes.Link (at l 1) (at l 2) lengths.NotKnown)
        (Refused (at l 1) (at l 2)))

    link : (state under_way : ℕ) (route : Length) → back (link_numbers state under_way route) ≡ outcomes.Link state under_way route
    link state under_way (lengths.Metres n) = refl
    link state under_way lengths.NotKnown = refl

    inverse : (a : Status) → back (status_numbers a) ≡ a
    inverse (Ok l) = link l.state l.under_way l.route
    inverse (Err r) = refl

abbrev same_reply : (c : Call) → Reply c → Reply c → Bool
same_reply (cut f k) a b = same_answer a b
same_reply (deliver f k u) a b = same_numbers (delivered_numbers a) (delivered_numbers b)
same_reply (run n) a b = same_numbers (report_numbers a) (report_numbers b)
same_reply (mend f k) a b = same_answer a b
same_reply (status k u) a b = same_numbers (status_numbers a) (status_numbers b)

same-reply : (c : Call) (a b : Reply c) → same_reply c a b ≡ true → a ≡ b
same-reply (cut f k) = same_answer_lem
same-reply (deliver f k u) = same_delivered
same-reply (run a) = same_report
same-reply (mend f k) = same_answer_lem
same-reply (status k u) = same_status

-- the answers to calls, each made on the session as the one before returned or left it
abbrev pub same_replies : List Answered → Session → Bool
same_replies [] s = true
same_replies ((c, a) ∷ rest) s = same_reply c (reply c s) a && same_replies rest (next c s)

pub same_replies_lem : (l : List Answered) (s : Session) → same_replies l s ≡ true → answers (map (λ (a : Answered). a.0) l) s ≡ l
unfolding answers
same_replies_lem [] s e = refl
same_replies_lem ((c, a) ∷ rest) s e =
    let (first, others) = (and-eq-true_iff (same_reply c (reply c s) a) _).0 e in
    λ j. (c, same-reply c (reply c s) a first j) ∷ same_replies_lem rest (next c s) others j
