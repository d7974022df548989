-- A session that passes its record test follows the rules, call by call, and so over a list of calls: what the rules see of it are functions, equal where
-- their values are. Assumes nothing.
use Rattle.std.specs.Prelude.{ℕ, ◌≡◌, refl, List, [], ◌∷◌, ◌++◌}
use Rattle.std.proofs.Common.{◌∙◌, ap, ap₂, subst, append_assoc}
use Rattle.mesh.specs.declared.Mesh.{Mesh}
use Rattle.mesh.specs.declared.Plan.{Plan}
use Rattle.mesh.specs.Answer.{Accepted}
use Rattle.mesh.specs.WellFormed.{lengths}
use Rattle.flood.specs.Digraph.{Digraph}
use Rattle.recovery.specs.declared.Session.{Session}
use Rattle.recovery.specs.Formed.{record_answer}
use Rattle.topology.specs.Backup.{backup}
use Rattle.history.specs.History.{Call, reply, next, after}
use Rattle.history.specs.Rules.{Now, rule_next, rule_reply, ruled}
use Rattle.history.specs.Demand.{Follows, Sized, seen, arcs, CallFollows}
use Rattle.history.proofs.Laws.RuledNext.{next-mesh-plan, next_sized, next-seen}
use Rattle.history.proofs.Laws.RuledReply.{reply-seen}

-- ---- to follow is to be seen so

follows-seen : {s : Session} {n : Now} → Follows s n → seen s ≡ n
follows-seen F = λ t. record { cut = F.cut t; on = λ w. record { state = λ i. F.state w i t; reached = λ v. F.reached w v t } }

seen-follows : {s : Session} {n : Now} → seen s ≡ n → Follows s n
seen-follows e = record { cut = λ t. (e t).cut; state = λ w i t. ((e t).on w).state i; reached = λ w v t. ((e t).on w).reached v }

-- a session is seen as it is
pub follows_self : (s : Session) → Follows s (seen s)
follows_self s = seen-follows refl

-- ---- one call

module _ (s : Session) (n : Now) (z : Sized s) (r : record_answer s ≡ Accepted) (F : Follows s n) where
  reply-follows : (c : Call) → reply c s ≡ rule_reply (arcs s) (lengths s.mesh) c n
  reply-follows c = reply-seen s z r c ∙ ap (rule_reply (arcs s) (lengths s.mesh) c) (follows-seen F)

  next-follows : (c : Call) → Follows (next c s) (rule_next (arcs s) c n)
  next-follows c = seen-follows (next-seen s z r c ∙ ap (rule_next (arcs s) c) (follows-seen F))

-- from what the session holds
pub call_as_ruled : (s : Session) → Sized s → record_answer s ≡ Accepted → (c : Call) → CallFollows s c
call_as_ruled s z r c =
    let (mesh, plan) = next-mesh-plan c s in
    record { mesh = mesh; plan = plan; follows = seen-follows (next-seen s z r c); answered = reply-seen s z r c }

-- ---- a list of calls

same-backup : {m m' : Mesh} {p p' : Plan} → (m ≡ m') × (p ≡ p') → backup m p ≡ backup m' p'
same-backup (a, b) = ap₂ backup a b

pub after-append : (calls more : List Call) (s : Session) → after (calls ++ more) s ≡ after more (after calls s)
unfolding after
after-append [] more s = refl
after-append (c ∷ cs) more s = after-append cs more (next c s)

after-mesh-plan : (calls : List Call) (s : Session) → ((after calls s).mesh ≡ s.mesh) × ((after calls s).plan ≡ s.plan)
unfolding after
after-mesh-plan [] s = (refl, refl)
after-mesh-plan (c ∷ cs) s =
    let (m, p) = after-mesh-plan cs (next c s) in
    let (m₀, p₀) = next-mesh-plan c s in
    (m ∙ m₀, p ∙ p₀)

after_sized : (calls : List Call) (s : Session) → Sized s → Sized (after calls s)
unfolding after
after_sized [] s z = z
after_sized (c ∷ cs) s z = after_sized cs (next c s) (next_sized c s z)

-- the session passes its record test before each of the calls, and after them
abbrev pub Passing : List Call → Session → Type 0
Passing calls s = (first rest : List Call) → calls ≡ first ++ rest → record_answer (after first s) ≡ Accepted

pub list_follows : (s : Session) (n : Now) (calls : List Call) → Sized s → Passing calls s → Follows s n → Follows (after calls s) (ruled (arcs s) calls n)
unfolding after ruled
list_follows s n [] z h F = F
list_follows s n (c ∷ cs) z h F =
    let m : Now = rule_next (arcs s) c n in
    let G : Follows (next c s) m = next-follows s n z (h [] (c ∷ cs) refl) F c in
    subst (λ (g : Digraph). Follows (after cs (next c s)) (ruled g cs m)) (same-backup (next-mesh-plan c s))
    (list_follows (next c s) m cs (next_sized c s z) (λ first rest e. h (c ∷ first) rest (ap (◌∷◌ c) e)) G)

pub list_answers : (s : Session) (n : Now) (calls : List Call) → Sized s → Passing calls s → Follows s n
    → (first : List Call) (c : Call) (rest : List Call) → calls ≡ first ++ (c ∷ rest)
    → reply c (after first s) ≡ rule_reply (arcs s) (lengths s.mesh) c (ruled (arcs s) first n)
list_answers s n calls z h F first c rest e =
    let passing : Passing first s = λ p q d. h p (q ++ (c ∷ rest)) (e ∙ ap (λ (l : List Call). l ++ (c ∷ rest)) d ∙ append_assoc p q (c ∷ rest)) in
    let m : Now = ruled (arcs s) first n in
    reply-follows (after first s) m (after_sized first s z) (h first (c ∷ rest) e) (list_follows s n first z passing F) c
    ∙ ap₂ (λ (g : Digraph) (length : ℕ → ℕ). rule_reply g length c m) (same-backup (after-mesh-plan first s)) (ap lengths (after-mesh-plan first s).0)
