-- A state that is lent for a call with numbers: one walk, over the callee by value and its definition, for every function of this code. The
-- borrow is opened, the state is copied out of it and passed to the callee, what the callee returned is stored in its place, and the borrow is
-- closed at that. No field of the state is looked at.
use Rattle.std.specs.Prelude.{◌≡◌, refl, ℕ, suc, [], ◌∷◌, ◌++◌, List, length}
use Rattle.std.proofs.Common.{ap, ◌∙◌}
use seplogic.Ra.Ura.{Ura}
use base.Fraction.{full_share}
use mir.Syntax.{Callee, Fn, Width, local, value_local, seq, assign, call, return, rv_opd, copy, place, deref, field, ty_ref, mut, named}
use mir.Val.{Val, vptr}
use base.Logic.{SProp, ent, sep, emp, via, fst∗, snd∗, ex_e, id⊢}
use base.Fml.{GName, Lft, Share, ftrue, fat, flft, fobs, fbor}
use prog.Wp.{Env, Calls, Loops, WpFn, Tables}
use types.Logic.{Logic, sem}
use contract.Monad.{fact}
use types.Kit.{‵, raw, some, later, ◌⊛◌, ◌$◌, ◌∵◌, !, qed, by, move, keep, drop, use1, split, join, pick, rewrite, fsplit, fsplit3, fjoin, fjoin3, feq_i, suffices, frame, await, done}
use types.Run.{look, look_raw, init, store_raw, forget, stop, hop, fld, from, load, of_opd, and_then, assigns, land, returns, enter, alloc1, alloc0, params1, pass1, free1, free0}
use types.Part.{whole, sub, look_in}
use types.SemTy.{Body}
use sound.WpLaws.{FmC, fm_of, WpFn-mono}
use denote.RattleType.{RattleType, Valss, flat, owns}
use denote.Laws.{Is, shows}
use denote.Memory.{mem, pointee}
use denote.Ref.{MutBor, MutRef, mut_vals, mut_Tells}
use denote.Signature.{plain}
use denote.Steps.{only, opens, closes, owned, peeks, heard, nothing}
use denote.Struct.Steps.{spelt}
use denote.Struct.Laws as LL
use denote.Enum.Laws as Le
use denote.Triple.Statement.{Triple}
use denote.Triple.Call.{calls_at}
use denote.Triple.Clauses.{closing, ensured, lasts}
use denote.Triple.Entry.{on_entry}
use denote.Triple.Spec.{Meets}
use denote.Triple.Walked.{says, Stays, stay_ref, walk_of, AllGo, Goes-ref, Walks, ends_at, walked, walk_Meets}
use Rattle.lent.specs.Numbers.{Takes, Lives, rows, Numbers, applied, spellings, values, passed_on, locals, copies, past}
use Rattle.lent.specs.Returned.{State, Returned, state-row, state_mir, state-vals, returned, returned-row, returned_laws, returned_mir, answer-row, answer_mir, answer_val, state_is, answer_is}
use Rattle.lent.specs.CallContracts.{in_place, in_place_ended, in_place_clauses, by_value_ended, by_value_clauses, ByValue}
use Rattle.lent.specs.Laws.Numbers.{stay_all, tell_all, Fit, left_none, fit_none, fit_on, applied-on, go_all, owned_all, had-all, from_past, alloc_all, pass_all, free_all, copied}

module _ (S : State) (R : Returned S) (ws : List Width) where
  abbrev Row : RattleType
  Row = state-row S

  abbrev ReturnedRow : RattleType
  ReturnedRow = returned-row S R

  abbrev AnswerRow : RattleType
  AnswerRow = answer-row S R

  -- the code: `let r = CALLEE(*s, k, …); *s = r.state; r.answer`. The numbers are the locals from 2 on
  abbrev pub stored_back : Callee → Fn
  stored_back key = record {
    lifetimes = 1;
    outlives = [];
    ty_params = [];
    givens = 0;
    params = suc (length ws);
    locals = local (answer_mir S R) value_local ∷ local (ty_ref (named 0) mut (pointee Row.written)) value_local ∷ (locals ws ++ (local (returned_mir S R) value_local ∷ local (state_mir S) value_local ∷ []));
    body = seq (assign (place (past 3 ws) []) (rv_opd (copy (place 1 (deref (state_mir S) ∷ [])))))
        (seq (call key (copy (place (past 3 ws) []) ∷ copies 2 ws) (place (past 2 ws) []))
        (seq (assign (place 1 (deref (state_mir S) ∷ [])) (rv_opd (copy (place (past 2 ws) (field 0 ∷ [])))))
        (seq (assign (place 0 []) (rv_opd (copy (place (past 2 ws) (field 1 ∷ []))))) return)));
  }

  abbrev stayed : Stays (in_place_ended S R ws).signature.params (in_place_ended S R ws).kept
  stayed = (stay_ref (0 ∷ []) tt (plain (λ _. Row)), stay_all 1 ws)

  module _ (key : Callee) (f : S.T.D → Takes ws R.D) {M : Type 1} {𝓤 : Ura M} (𝓛 : Logic 𝓤) (κ : Lft) (q : Share) (b o : ℕ) (γ : GName) (h : S.T.D) (a : Numbers (1, (κ, tt)) ws) (fit : Fit (1, (κ, tt)) ws a) where
    -- the lifetimes of this signature, and of the callee's
    open 𝓛 use {H, A}

    abbrev here : Lives
    here = (1, (κ, tt))

    abbrev there : Lives
    there = (0, tt)

    abbrev x : MutBor S.T.D × Numbers here ws
    x = (record { ref_ptr = (b, o); ghost_name = γ; now = h }, a)

    abbrev at : List Val × Valss (rows here ws)
    at = (vptr b o ∷ [], values here ws a)

    abbrev vals : S.T.D → List Val
    vals = state-vals S

    abbrev Post : Val → SProp 𝓤
    Post = (walk_of 𝓛 (in_place_ended S R ws) stayed (in_place_clauses S R ws f 𝓤)).post (((κ, tt), (q, tt), tt, x, at), tt)

    exits : (r : R.D) → r ≡ applied here ws (f h) a → Is AnswerRow (R.answer r) (answer_val S R (R.answer r) ∷ [])
        → ent 𝓤 (sep 𝓤 (A.obs γ (Row.coded.code (R.state r))) (sep 𝓤 (A.bor κ (Body (mem Row) b o γ)) (A.lft κ q))) (Post (answer_val S R (R.answer r)))
    exits r e is =
        qed 𝓛 (‵ (fobs γ (Row.coded.code (R.state r))) ∷ ‵ (fbor κ (Body (mem Row) b o γ)) ∷ ‵ (flft κ q) ∷ []) ∵
        suffices ! _ (ends_at 𝓛 (in_place_ended S R ws) stayed (in_place_clauses S R ws f 𝓤) (((κ, tt), (q, tt), tt, x, at), tt) (answer_val S R (R.answer r)) (R.answer r) (R.state r, left_none here ws a) (tt, fit_none here ws a)) $
        says ! (ap R.state e, ap R.answer e) $ nothing ! $ move ! (3 ∷ 0 ∷ []) $ join ! $
        frame ! $ feq_i ! (List Val) (vptr b o ∷ []) (vptr b o ∷ []) refl $ fjoin3 ! $ had-all ! here ws a fit $ move ! (1 ∷ 0 ∷ []) $ fjoin ! $
        owned ! AnswerRow (Is AnswerRow) (Le.makes R.E R.plain 𝓛) (R.answer r) _ is $ move ! (1 ∷ 0 ∷ []) $ done !

    -- the same numbers, passed to the callee
    abbrev on : Numbers there ws
    on = passed_on here there ws a

    abbrev to_by_value : (ByValue S R ws f 𝓤 𝓛).Ghost
    to_by_value = ((tt, tt, tt, (h, on), (vals h, values there ws on)), tt)

    goes_by_value : ent 𝓤 (sem 𝓛 (Row.own_val h (vals h))) ((ByValue S R ws f 𝓤 𝓛).pre to_by_value)
    goes_by_value =
        qed 𝓛 (‵ (Row.own_val h (vals h)) ∷ []) ∵ owned_all ! there ws on (fit_on here there ws a fit) $ move ! (1 ∷ 0 ∷ []) $ fjoin ! $
        nothing ! $ join ! $ nothing ! $ move ! (1 ∷ 0 ∷ []) $ done !

    -- of what the callee ensures, the clause alone
    said : (r : R.D) → ent 𝓤 (ensured 𝓛 (by_value_ended S R ws) (by_value_clauses S R ws f 𝓤) tt (h, on) tt r) (fact 𝓤 (r ≡ applied there ws (f h) on))
    said r = ex_e 𝓤 _ (λ us. snd∗ 𝓤 (sem 𝓛 (lasts (by_value_ended S R ws) tt (h, on) us)) (fact 𝓤 (r ≡ applied there ws (f h) on)))

    module _ (C : Calls 𝓤 H) (Λ : Loops 𝓤 H) (fm : FmC 𝓤 H 𝓛.laws C) (known : Triple 𝓤 (C key) (ByValue S R ws f 𝓤 𝓛)) where
      walk : ent 𝓤 (on_entry 𝓛 (in_place S R ws) (κ, tt) (q, tt) x at) (WpFn 𝓤 H C Λ (stored_back key) (vptr b o ∷ flat (rows here ws) (values here ws a)) Post)
      walk =
          qed 𝓛 ((‵ (flft κ q) ⊛ ‵ ftrue) ∷ ‵ (owns (MutRef (named 0) κ Row ∷ rows here ws) x at) ∷ []) ∵ split ! $ move ! (2 ∷ []) $ fsplit ! $ fsplit3 ! $ drop ! $ move ! (0 ∷ 1 ∷ 3 ∷ []) $
          -- [obs; the borrow; the token; what the numbers own; true]
          enter ! C Λ (stored_back key) (vptr b o ∷ flat (rows here ws) (values here ws a)) _ $
          -- F is the locals after the numbers, and each l is the block of a local that is no number
          alloc1 ! (λ l₀. alloc1 ! (λ l₁. alloc_all ! ws (λ bs. alloc1 ! (λ l₂. alloc1 ! (λ l₃. let F : Env 𝓤 H = (returned_mir S R, l₂) ∷ (state_mir S, l₃) ∷ [] in alloc0 ! $ params1 ! $ pass1 ! (init ! 5 refl (tt, tt)) $ move ! (4 ∷ []) $ pass_all here ! ws a fit bs F $
          move ! (9 ∷ 10 ∷ 11 ∷ []) $ opens ! tt Row {h = h} b o (λ vs. spelt ! Row (Is Row) (shows 𝓛 Row) vals (LL.tells S.T S.laws) full_share h vs b o $
          move ! (1 ∷ []) $ peeks ! Row (Is Row) (shows 𝓛 Row) h (vals h) (λ was. move ! (1 ∷ 0 ∷ []) $
          -- [the struct's cell; what it owns; the open borrow; obs; auth; the numbers; l₃; …; l₂; …; l₁; …; room for l₀; …]
          assigns ! (of_opd ! (load ! (from ! (hop ! (look ! 10 refl) (stop !))) (look_raw ! 0 refl))) (from_past ! ws bs F 1 (stop !)) (init ! 6 refl ((LL.lawful S.T S.laws 𝓛).typed h _ was).0) $
          owned ! Row (Is Row) (LL.makes S.T S.plain 𝓛) h _ was $ use1 𝓛 (raw ((ByValue S R ws f 𝓤 𝓛).pre to_by_value)) goes_by_value $ move ! (0 ∷ 6 ∷ []) $
          calls_at ! fm (ByValue S R ws f 𝓤 𝓛) known to_by_value (and_then ! (load ! (from_past ! ws bs F 1 (stop !)) (look ! 7 refl)) (copied here there ! ws a bs F)) (λ v.
          use1 𝓛 (later (some (λ (r : R.D). (‵ ftrue ⊛ ‵ (ReturnedRow.own_val r (v ∷ []))) ⊛ raw (ensured 𝓛 (by_value_ended S R ws) (by_value_clauses S R ws f 𝓤) tt (h, on) tt r)))) (id⊢ 𝓤 _) $ await ! tt $ pick ! (λ r.
          split ! $ move ! (1 ∷ []) $ use1 𝓛 (raw (fact 𝓤 (r ≡ applied there ws (f h) on))) (said r) $ heard ! (r ≡ applied there ws (f h) on) (λ e. split ! $ drop ! $
          peeks ! ReturnedRow (Is ReturnedRow) (shows 𝓛 ReturnedRow) r (v ∷ []) (λ is.
          -- [what was returned owns; the numbers; the struct's cell; what it owns; the open borrow; obs; auth; l₃; …; l₂; …; l₁; …; room for l₀; …]
          land ! (from_past ! ws bs F 0 (stop !)) (init ! 9 refl ((LL.lawful (returned S R) (returned_laws S R) 𝓛).typed r _ is).0) $
          rewrite ! 9 (λ (u : Val). ‵ (fat full_share (returned_mir S R) l₂ 0 u)) (ap only (LL.tells (returned S R) (returned_laws S R) r _ is)) refl $
          assigns ! (of_opd ! (load ! (from_past ! ws bs F 0 (fld ! refl (stop !))) (look_in ! 9 (sub ! 0 refl (whole !))))) (from ! (hop ! (look ! 11 refl) (stop !))) (store_raw ! 2 refl ((LL.lawful S.T S.laws 𝓛).typed (R.state r) _ (state_is S R r _ is)).0) $
          assigns ! (of_opd ! (load ! (from_past ! ws bs F 0 (fld ! refl (stop !))) (look_in ! 9 (sub ! 1 refl (whole !))))) (from ! (stop !)) (init ! 13 refl ((Le.lawful R.E R.laws 𝓛 R.few).typed (R.answer r) _ (answer_is S R r _ is)).0) $
          owned ! Row (Is Row) (LL.makes S.T S.plain 𝓛) (R.state r) _ (state_is S R r _ is) $ move ! (3 ∷ 0 ∷ 5 ∷ 6 ∷ 7 ∷ []) $ closes ! tt Row (R.state r) (vals (R.state r)) b o $
          -- [obs; the borrow; the token; what was returned owns; the numbers; what the struct owned; l₃; …; l₂; …; l₁; …; l₀; …]
          returns ! (look ! 12 refl) $ forget ! 6 refl $ forget ! 8 refl $ forget ! 10 refl $ forget ! 12 refl $
          move ! (12 ∷ 13 ∷ []) $ free1 ! $ move ! (10 ∷ 11 ∷ []) $ free1 ! $ move ! (4 ∷ []) $ free_all here ! ws a bs $ move ! (7 ∷ 8 ∷ []) $ free1 ! $ move ! (5 ∷ 6 ∷ []) $ free1 ! $ free0 ! $
          keep ! (0 ∷ 1 ∷ 2 ∷ []) $ by ! (exits r (e ∙ applied-on here there ws (f h) a) (answer_is S R r _ is)))))))))))))

  module _ (key : Callee) (f : S.T.D → Takes ws R.D) {M : Type 1} {𝓤 : Ura M} (𝓛 : Logic 𝓤) where
    open 𝓛 use {H}

    back_walks : (C : Calls 𝓤 H) (Λ : Loops 𝓤 H) → FmC 𝓤 H 𝓛.laws C → Triple 𝓤 (C key) (ByValue S R ws f 𝓤 𝓛) → Walks 𝓛 (in_place_ended S R ws) stayed (WpFn 𝓤 H C Λ (stored_back key)) (in_place_clauses S R ws f 𝓤)
    back_walks C Λ fm known = walked 𝓛 (in_place_ended S R ws) stayed (in_place_clauses S R ws f 𝓤) (WpFn 𝓤 H C Λ (stored_back key)) (λ κs. (mut_vals, spellings (1, κs) ws)) (λ κs. (mut_Tells (named 0) κs.0 Row, tell_all (1, κs) ws))
        (λ κs qs bounds a _ are. via 𝓤 _ (fst∗ 𝓤 _ (emp 𝓤)) (walk key f 𝓛 κs.0 qs.0 a.0.ref_ptr.0 a.0.ref_ptr.1 a.0.ghost_name a.0.now a.1 are.1 C Λ fm known))

    goes : AllGo 𝓛 1 (in_place S R ws).params (in_place_ended S R ws).kept stayed
    goes = (Goes-ref 𝓛 1 0 tt (plain (λ _. Row)), go_all 𝓛 1 ws)

  pub stores_back : (key : Callee) (f : S.T.D → Takes ws R.D) {M : Type 1} {𝓤 : Ura M} (𝓛 : Logic 𝓤) → (𝓣 : Tables 𝓤 𝓛.H) → Triple 𝓤 (𝓣.C key) (ByValue S R ws f 𝓤 𝓛)
      → Meets 𝓛 (in_place S R ws) (WpFn 𝓤 𝓛.H 𝓣.C 𝓣.Λ (stored_back key)) (closing 𝓛 (in_place_ended S R ws) (in_place_clauses S R ws f 𝓤))
  stores_back key f {𝓤 = 𝓤} 𝓛 𝓣 known = walk_Meets 𝓛 (in_place_ended S R ws) stayed (goes key f 𝓛) (in_place_clauses S R ws f 𝓤) (WpFn 𝓤 𝓛.H 𝓣.C 𝓣.Λ (stored_back key)) (WpFn-mono 𝓤 𝓛.H 𝓛.laws 𝓣 (stored_back key))
      (back_walks key f 𝓛 𝓣.C 𝓣.Λ (fm_of 𝓤 𝓛.H 𝓛.laws 𝓣) known)
