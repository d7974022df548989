-- What the answer of the mesh checks tells: each refusal is given only on its own condition. Assumes nothing, also not that there are 256 entries.
use Rattle.std.specs.Prelude.{ℕ, zero, suc, ◌+◌, ◌<◌, ◌≤◌, ◌≡◌, refl, Bool, true, false, ◌&&◌, List, [], ◌∷◌, eqb, length, get_or, take, drop}
use Rattle.std.proofs.Common.{subst, ⊎_elim, arith, length-take, get_or-take, leb-true, leb-false}
use Rattle.std.proofs.Math.Bool.{and-eq-true_iff}
use Rattle.scan.specs.Test.{branch, known, fails, Says, eq_says, le_says, and_says}
use Rattle.scan.specs.All.{all-drop-each, all-drop_fails}
use Rattle.mesh.specs.declared.Link.{Link}
use Rattle.mesh.specs.declared.Mesh.{Mesh}
use Rattle.mesh.specs.Answer.{Answer, Refused}
use Rattle.mesh.specs.Mesh.{zero_link, nodes_fit, count_fits, links_answer, is_zero, all_zero, rest_zero, mesh_answer}
use Rattle.mesh.specs.WellFormed.{link, duct}
use Rattle.mesh.specs.Refusal.{LinkFault, Faultless, previous, Refusal, nodes_unfit, count_unfit, first_fault, entry-not-zero, duct-not-zero}
use Rattle.mesh.specs.Laws.Answer.{Tells, accepting, refusing, told-refused, tells_map, tells_and_then}
use Rattle.mesh.specs.Laws.Ends.{follows_says, ends-told}
use Rattle.mesh.specs.Laws.Zeros.{zero_says}

-- ---- the links in turn

-- the first k of the links ls after p have no fault
abbrev Good : ℕ → Link → List Link → ℕ → Type 0
Good n p ls k = (j : ℕ) → j < k → Faultless n (get_or (p ∷ ls) j zero_link) (get_or ls j zero_link)

-- the first fault in the links ls after p, the first of them with the number i
record FirstFault (n : ℕ) (p : Link) (i : ℕ) (ls : List Link) (number place : ℕ) : Type 0 where
  entry : ℕ
  within : entry < length ls
  placed : i + entry ≡ place
  fault : LinkFault n (get_or (p ∷ ls) entry zero_link) (get_or ls entry zero_link) number
  good : Good n p ls entry

good_more : (n : ℕ) (p l : Link) (ls : List Link) (k : ℕ) → Faultless n p l → Good n l ls k → Good n p (l ∷ ls) (suc k)
good_more n p l ls k f g zero h = f
good_more n p l ls k f g (suc j) h = g j (omega arith)

links_told : (n : ℕ) (p : Link) (i : ℕ) (ls : List Link) → Tells (Good n p ls (length ls)) (FirstFault n p i ls) (links_answer n p i ls)
unfolding links_answer
links_told n p i [] = accepting (λ j h. absurd (omega arith))
links_told n p i (l ∷ ls) =
    tells_and_then (ends-told n p.low p.high l.low l.high i)
    (λ (low_below, inside, after).
    let f : Faultless n p l = (record { apart = low_below; inside = inside }, (follows_says p.low p.high l.low l.high).0 after) in
    tells_map (links_told n l (i + 1) ls) (good_more n p l ls (length ls) f)
    (λ number place r. record {
      entry = suc r.entry;
      within = omega (arith, r.within);
      placed = omega (arith, r.placed);
      fault = r.fault;
      good = good_more n p l ls r.entry f r.good;
    }))
    (λ number place (f, e). record { entry = 0; within = omega arith; placed = omega arith; fault = f; good = λ j h. absurd (omega arith) })

-- ---- the whole

pub nodes_says : (n : ℕ) → Says (nodes_fit n) ((2 ≤ n) × (n ≤ 64))
nodes_says n = and_says (le_says 2 n) (le_says n 64)

-- what holds of an accepted mesh; the checks do not see a link past the end of the list
pub record Sound (m : Mesh) : Type 0 where
  pub nodes : (2 ≤ m.nodes) × (m.nodes ≤ 64)
  pub count : m.count ≤ 256
  pub faultless : (i : ℕ) → i < m.count → i < length m.links → Faultless m.nodes (previous m i) (link m i)
  pub zeros : (i : ℕ) → m.count ≤ i → link m i ≡ zero_link
  pub ductless : (i : ℕ) → m.count ≤ i → duct m i ≡ 0

-- link i and the link before it, among the first links
module _ (m : Mesh) (i : ℕ) (h : i < m.count) where
  link-taken : get_or (take m.count m.links) i zero_link ≡ link m i
  link-taken = get_or-take m.count m.links i zero_link h

  previous-taken : get_or (zero_link ∷ take m.count m.links) i zero_link ≡ previous m i
  previous-taken = get_or-take (suc m.count) (zero_link ∷ m.links) i zero_link (omega arith)

  good_taken : (k : ℕ) → i < k → Good m.nodes zero_link (take m.count m.links) k → Faultless m.nodes (previous m i) (link m i)
  good_taken k b g = rw (previous-taken, link-taken) at (g i b)

second_fails : (a b : Bool) → (a && b) ≡ false → a ≡ true → b ≡ false
second_fails a b f t = rw t at f

-- an entry or a duct number past the last link is not zero
not-zero : (m : Mesh) → rest_zero m ≡ false → Refusal m 13 0
not-zero m d = ⊎_elim numbers entries (known (all_zero (drop m.count m.links)))
  where
    entries : all_zero (drop m.count m.links) ≡ false → Refusal m 13 0
    entries e =
        let (i, h, z) = all-drop_fails is_zero zero_link m.links m.count e in
        entry-not-zero i h (fails (zero_says (link m i)) z)

    numbers : all_zero (drop m.count m.links) ≡ true → Refusal m 13 0
    numbers e =
        let (i, h, z) = all-drop_fails (λ v. eqb v 0) 0 m.ducts m.count (second_fails _ _ d e) in
        duct-not-zero i h (fails (eq_says (duct m i) 0) z)

pub mesh-told : (m : Mesh) → Tells (Sound m) (Refusal m) (mesh_answer m)
unfolding mesh_answer
mesh-told m =
    branch Told (nodes_fit m.nodes)
    (λ a. branch Told (count_fits m.count)
    (λ b. tells_and_then (links_told m.nodes zero_link 0 (take m.count m.links))
    (λ c. branch Told (rest_zero m)
    (λ d. let (e, f) = (and-eq-true_iff (all_zero (drop m.count m.links)) _).0 d in
    accepting (record {
      nodes = (nodes_says m.nodes).0 a;
      count = leb-true _ _ b;
      faultless = λ i h l. good_taken m i h _ (simp length-take (omega arith)) c;
      zeros = λ i h. (zero_says (link m i)).0 (all-drop-each is_zero zero_link m.links m.count refl e i h);
      ductless = λ i h. (eq_says (duct m i) 0).0 (all-drop-each (λ v. eqb v 0) 0 m.ducts m.count refl f i h);
    }))
    (λ d. refusing (not-zero m d)))
    fault)
    (λ b. refusing (count_unfit (leb-false _ _ b))))
    (λ a. refusing (nodes_unfit (fails (nodes_says m.nodes) a)))
  where
    Told : Answer → Type 0
    Told = Tells (Sound m) (Refusal m)

    fault : (number place : ℕ) → FirstFault m.nodes zero_link 0 (take m.count m.links) number place → Refusal m number place
    fault number place r =
        let e : r.entry ≡ place = omega arith in
        let h : r.entry < m.count = omega (arith, simp length-take at r.within) in
        let f : LinkFault m.nodes (previous m r.entry) (link m r.entry) number = rw (previous-taken m r.entry h, link-taken m r.entry h) at r.fault in
        rw (← e) (first_fault h f (λ i b. good_taken m i (omega arith) r.entry b r.good))

-- a refusal is given only on its own condition
pub refused_only : (m : Mesh) (number place : ℕ) → mesh_answer m ≡ Refused number place → Refusal m number place
refused_only m number place e = told-refused (subst (Tells (Sound m) (Refusal m)) e (mesh-told m))
