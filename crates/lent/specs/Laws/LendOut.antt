-- A caller that lends a state of its own for a call with numbers: one walk, over the callee and its definition, for every function of this
-- code. The state is stored in a slot and lent for a lifetime that is made for the call; when that has ended, the slot holds what the callee
-- left, and the struct of this and the answer is returned.
use Rattle.std.specs.Prelude.{◌≡◌, refl, ℕ, suc, [], ◌∷◌, ◌++◌, List, length}
use Rattle.std.proofs.Common.{sym, ap, subst, ◌∙◌}
use seplogic.Ra.Ura.{Ura}
use base.Fraction.{full_share}
use mir.Syntax.{Callee, Fn, Width, local, value_local, memory_slot, seq, assign, call, return, rv_opd, copy, place, addr_of, aggregate, ty_ref, mut, named, erased}
use mir.Val.{Val, vptr}
use base.Logic.{SProp, ent, sep, emp, via, fst∗, id⊢}
use base.Fml.{Fml, fsep, GName, ftrue, fat, flft, fres, flent}
use prog.Wp.{Env, Calls, Loops, WpFn, Tables}
use types.Logic.{Logic, sem}
use contract.Monad.{fact}
use types.Kit.{‵, raw, some, later, ◌⊛◌, ◌$◌, ◌∵◌, !, qed, by, move, keep, drop, use1, use2, use3, split, join, pick, rewrite, fsplit, fjoin, fpick, fpack, suffices, await, done}
use types.Run.{look, init, forget, stop, from, load, of_opd, and_then, no_more, addr, assigns, land, returns, enter, alloc1, alloc0, params1, pass1, free1, free0}
use types.Part.{agg}
use types.SemTy.{Body}
use types.Tokens.{lft_new, lft_end}
use sound.WpLaws.{FmC, fm_of, WpFn-mono}
use denote.RattleType.{RattleType, Valss, flat, owns}
use denote.Laws.{Is, shows}
use denote.Lend.{lends_ref, ref_back}
use denote.Memory.{mem, pointee, cell_at, part_at, part_of}
use denote.Ref.{MutBor, MutRef}
use denote.Steps.{only, owned, peeks, heard, nothing}
use denote.Struct.Steps.{spelt}
use denote.Struct.Laws as LL
use denote.Enum.Laws as Le
use denote.Exit.{Kept, Exit, Last, left, unchanged, yes}
use denote.Triple.Statement.{Triple}
use denote.Triple.Call.{calls_at}
use denote.Triple.Clauses.{Lasts, closing, ensured, lasts}
use denote.Triple.Entry.{on_entry}
use denote.Triple.Spec.{Meets}
use denote.Triple.Walked.{says, Stays, stay_none, walk_of, AllGo, Goes-none, Walks, ends_at, walked, walk_Meets}
use Rattle.lent.specs.Numbers.{Takes, Lives, rows, Numbers, applied, spellings, values, passed_on, locals, copies, past}
use Rattle.lent.specs.Returned.{State, Returned, state-row, state_mir, state-vals, returned, returned-row, returned_laws, returned-plain, returned_mir, answer-row, answer_mir, returned_is}
use Rattle.lent.specs.CallContracts.{by_value, by_value_ended, by_value_clauses, in_place_ended, in_place_clauses, InPlace}
use Rattle.lent.specs.Laws.Numbers.{stay_all, tell_all, Fit, left_none, fit_none, fit_on, applied-on, go_all, owned_all, had-all, from_past, alloc_all, pass_all, free_all, copied}

-- of a value that is at exit as it was passed nothing is bound, and nothing is said
silent : {D : Type 0} (e : Exit D) → unchanged ≡ e → (x : D) (w : Last e x) → left e x w ≡ ftrue
silent {D} e u = subst (λ (z : Exit D). (x : D) (w : Last z x) → left z x w ≡ ftrue) u (λ x w. refl)

bound : {D : Type 0} (e : Exit D) → unchanged ≡ e → (x : D) → Last e x
bound {D} e u = subst (λ (z : Exit D). (x : D) → Last z x) u (λ x. tt)

module _ (S : State) (R : Returned S) (ws : List Width) where
  abbrev Row : RattleType
  Row = state-row S

  abbrev ReturnedRow : RattleType
  ReturnedRow = returned-row S R

  abbrev AnswerRow : RattleType
  AnswerRow = answer-row S R

  -- the code: `let mut t = s; let a = CALLEE(&mut t, k, …); Returned { state: t, answer: a }`. The numbers are the locals from 2 on
  abbrev pub lent_out : Callee → Fn
  lent_out key = record {
    lifetimes = 0;
    outlives = [];
    ty_params = [];
    givens = 0;
    params = suc (length ws);
    locals = local (returned_mir S R) value_local ∷ local (state_mir S) value_local ∷ (locals ws ++ (local (state_mir S) memory_slot
        ∷ local (answer_mir S R) value_local ∷ local (ty_ref erased mut (pointee Row.written)) value_local ∷ local (state_mir S) value_local ∷ []));
    body = seq (assign (place (past 2 ws) []) (rv_opd (copy (place 1 []))))
        (seq (assign (place (past 4 ws) []) (addr_of (place (past 2 ws) [])))
        (seq (call key (copy (place (past 4 ws) []) ∷ copies 2 ws) (place (past 3 ws) []))
        (seq (assign (place (past 5 ws) []) (rv_opd (copy (place (past 2 ws) []))))
        (seq (assign (place 0 []) (aggregate (copy (place (past 5 ws) []) ∷ copy (place (past 3 ws) []) ∷ []))) return))));
  }

  still : (k : Kept) → unchanged ≡ Row.exit k
  still k = sym (LL.still S.T S.copy k)

  abbrev stayed : Stays (by_value_ended S R ws).signature.params (by_value_ended S R ws).kept
  stayed = (stay_none (λ _. Row) yes, stay_all 0 ws)

  module _ {M : Type 1} {𝓤 : Ura M} (𝓛 : Logic 𝓤) where
    -- a state's cell as what a borrow holds, and back
    open 𝓛 use {H}

    lies : (h : S.T.D) (b o : ℕ) → Is Row h (state-vals S h) → ent 𝓤 (H.at full_share (state_mir S) b o (LL.val S.T S.laws h)) (sem 𝓛 (part_at Row full_share h b o))
    unfolding part_of
    lies h b o is =
        qed 𝓛 (‵ (fat full_share (state_mir S) b o (LL.val S.T S.laws h)) ∷ []) ∵ use1 𝓛 (‵ (cell_at full_share Row.mir (state-vals S h) b o)) (𝓛.laws.at_raw full_share (state_mir S) b o (LL.val S.T S.laws h)) $
        owned ! Row (Is Row) (LL.makes S.T S.plain 𝓛) h _ is $ move ! (1 ∷ 0 ∷ []) $ fjoin ! $
        fpack ! (List Val) (λ vs. fsep (cell_at full_share Row.mir vs b o) (Row.own_val h vs)) (state-vals S h) $ done !

    stands : (h : S.T.D) (b o : ℕ) → ent 𝓤 (sem 𝓛 (part_at Row full_share h b o)) (sep 𝓤 (H.at full_share (state_mir S) b o (LL.val S.T S.laws h)) (sem 𝓛 (Row.own_val h (state-vals S h))))
    unfolding part_of
    stands h b o =
        qed 𝓛 (‵ (part_at Row full_share h b o) ∷ []) ∵ fpick ! (λ vs. fsplit ! $ spelt ! Row (Is Row) (shows 𝓛 Row) (state-vals S) (LL.tells S.T S.laws) full_share h vs b o $
        use1 𝓛 (‵ (fat full_share (state_mir S) b o (LL.val S.T S.laws h))) (𝓛.laws.raw_at full_share (state_mir S) b o (LL.val S.T S.laws h)) $ done !)

  -- the lifetimes of this signature: there are none
  abbrev here : Lives
  here = (0, tt)

  module _ (key : Callee) (f : S.T.D → Takes ws R.D) {M : Type 1} {𝓤 : Ura M} (𝓛 : Logic 𝓤) (h : S.T.D) (k : Numbers here ws) (was : Is Row h (state-vals S h)) (fit : Fit here ws k) where
    open 𝓛 use {H, A}

    abbrev x : S.T.D × Numbers here ws
    x = (h, k)

    abbrev at : List Val × Valss (rows here ws)
    at = (state-vals S h, values here ws k)

    -- what the callee's definition gives, and its parts
    abbrev r : R.D
    r = applied here ws (f h) k

    abbrev t : S.T.D
    t = R.state r

    abbrev Post : Val → SProp 𝓤
    Post = (walk_of 𝓛 (by_value_ended S R ws) stayed (by_value_clauses S R ws f 𝓤)).post ((tt, tt, tt, x, at), tt)

    -- what the caller knows of the answer, and of the struct that it makes
    given_is : (v : Val) (a : R.E.D) → a ≡ R.answer r → Is AnswerRow a (v ∷ []) → Is AnswerRow (R.answer r) (v ∷ [])
    given_is v a e is = subst (λ (z : R.E.D). Is AnswerRow z (v ∷ [])) e is

    made : (v : Val) (a : R.E.D) → a ≡ R.answer r → Is AnswerRow a (v ∷ []) → Is Row t (state-vals S t) → Is ReturnedRow r (LL.vals (returned S R) (returned_laws S R) r)
    made v a e is ts = returned_is S R r ts (subst (Is AnswerRow (R.answer r)) (Le.tells R.E R.laws (R.answer r) _ (given_is v a e is)) (given_is v a e is))

    exits : Is ReturnedRow r (LL.vals (returned S R) (returned_laws S R) r) → ent 𝓤 (sem 𝓛 ftrue) (Post (LL.val (returned S R) (returned_laws S R) r))
    exits is =
        qed 𝓛 (‵ ftrue ∷ []) ∵
        suffices ! _ (ends_at 𝓛 (by_value_ended S R ws) stayed (by_value_clauses S R ws f 𝓤) ((tt, tt, tt, x, at), tt) (LL.val (returned S R) (returned_laws S R) r) r (bound (Row.exit yes) (still yes) h, left_none here ws k) (tt, fit_none here ws k)) $
        says ! refl $ drop ! $ had-all ! here ws k fit $
        owned ! Row (Is Row) (LL.makes S.T S.plain 𝓛) h _ was $ fjoin ! $
        owned ! ReturnedRow (Is ReturnedRow) (LL.makes (returned S R) (returned-plain S R) 𝓛) r _ is $ move ! (1 ∷ 0 ∷ []) $ nothing ! $ done !

    module _ (b α : ℕ) (γ : GName) where
      -- the lifetime that is made for the call
      abbrev there : Lives
      there = (1, (α ∷ [], tt))

      -- the reference that is passed with the same numbers, and what the callee's contract binds at them
      abbrev ref : MutBor S.T.D
      ref = record { ref_ptr = (b, 0); ghost_name = γ; now = h }

      abbrev ref-own : Fml
      ref-own = (MutRef (named 0) (α ∷ []) Row).own_val ref (vptr b 0 ∷ [])

      abbrev on : Numbers there ws
      on = passed_on here there ws k

      abbrev to_callee : (InPlace S R ws f 𝓤 𝓛).Ghost
      to_callee = (((α ∷ [], tt), (full_share, tt), tt, (ref, on), (vptr b 0 ∷ [], values there ws on)), tt)

      goes_callee : ent 𝓤 (sep 𝓤 (A.lft (α ∷ []) full_share) (sem 𝓛 ref-own)) ((InPlace S R ws f 𝓤 𝓛).pre to_callee)
      goes_callee =
          qed 𝓛 (‵ (flft (α ∷ []) full_share) ∷ ‵ ref-own ∷ []) ∵ nothing ! $ move ! (1 ∷ 0 ∷ []) $ join ! $ move ! (1 ∷ []) $
          owned_all ! there ws on (fit_on here there ws k fit) $ move ! (1 ∷ 0 ∷ []) $ fjoin ! $ move ! (1 ∷ 0 ∷ []) $ join ! $
          nothing ! $ move ! (1 ∷ 0 ∷ []) $ done !

      -- what the callee's clause says of the last state and of the answer, and the same by this function's numbers
      abbrev Clause : S.T.D → R.E.D → Type 0
      Clause z a = (z ≡ R.state (applied there ws (f h) on)) × (a ≡ R.answer (applied there ws (f h) on))

      heard_here : (z : S.T.D) (a : R.E.D) → Clause z a → (z ≡ t) × (a ≡ R.answer r)
      heard_here z a c = (c.0 ∙ ap R.state (applied-on here there ws (f h) k), c.1 ∙ ap R.answer (applied-on here there ws (f h) k))

    module _ (C : Calls 𝓤 H) (Λ : Loops 𝓤 H) (fm : FmC 𝓤 H 𝓛.laws C) (known : Triple 𝓤 (C key) (InPlace S R ws f 𝓤 𝓛)) where
      walk : ent 𝓤 (on_entry 𝓛 (by_value S R ws) tt tt x at) (WpFn 𝓤 H C Λ (lent_out key) (LL.val S.T S.laws h ∷ flat (rows here ws) (values here ws k)) Post)
      walk =
          qed 𝓛 (‵ ftrue ∷ ‵ (owns (Row ∷ rows here ws) x at) ∷ []) ∵ move ! (1 ∷ []) $ drop ! $
          enter ! C Λ (lent_out key) (LL.val S.T S.laws h ∷ flat (rows here ws) (values here ws k)) _ $
          -- F is the locals after the numbers, and each l is the block of a local that is no number
          alloc1 ! (λ l₀. alloc1 ! (λ l₁. alloc_all ! ws (λ bs. alloc1 ! (λ l₂. alloc1 ! (λ l₃. alloc1 ! (λ l₄. alloc1 ! (λ l₅. let F : Env 𝓤 H = (state_mir S, l₂) ∷ (answer_mir S R, l₃) ∷ (ty_ref erased mut (pointee Row.written), l₄) ∷ (state_mir S, l₅) ∷ [] in alloc0 ! $ params1 ! $
          pass1 ! (init ! 9 refl ((LL.lawful S.T S.laws 𝓛).typed h _ was).0) $ move ! (8 ∷ []) $ pass_all here ! ws k fit bs F $
          -- [the numbers; l₅; …; l₄; …; l₃; …; l₂; …; l₁; …; l₀; …; true]
          assigns ! (of_opd ! (load ! (from ! (stop !)) (look ! 9 refl))) (from_past ! ws bs F 0 (stop !)) (init ! 7 refl ((LL.lawful S.T S.laws 𝓛).typed h _ was).0) $
          assigns ! (addr ! (from_past ! ws bs F 0 (stop !))) (from_past ! ws bs F 2 (stop !)) (init ! 3 refl (tt, tt)) $
          -- a lifetime is made, and the slot is lent for it
          move ! (7 ∷ []) $ use1 𝓛 (‵ (part_at Row full_share h l₂ 0)) (lies 𝓛 h l₂ 0 was) $ lft_new ! tt (λ α. move ! (1 ∷ []) $
          use1 𝓛 (later (some (λ (γ : GName). ‵ (ref-own l₂ α γ) ⊛ ‵ (flent (α ∷ []) (Body (mem Row) l₂ 0 γ))))) (lends_ref 𝓛 Row (named 0) (α ∷ []) h l₂ 0) $ await ! tt $ pick ! (λ γ. split ! $
          move ! (2 ∷ 0 ∷ []) $ use2 𝓛 (raw ((InPlace S R ws f 𝓤 𝓛).pre (to_callee l₂ α γ))) (goes_callee l₂ α γ) $ move ! (0 ∷ 2 ∷ []) $
          -- [pre; the numbers; the lender's part; l₅; …; l₄; …; l₃; …; the end of l₂; l₁; …; l₀; …; true]
          calls_at ! fm (InPlace S R ws f 𝓤 𝓛) known (to_callee l₂ α γ) (and_then ! (load ! (from_past ! ws bs F 2 (stop !)) (look ! 5 refl)) (copied here (there l₂ α γ) ! ws k bs F)) (λ v.
          use1 𝓛 (later (some (λ (a : R.E.D). ((‵ (flft (α ∷ []) full_share) ⊛ ‵ ftrue) ⊛ ‵ (AnswerRow.own_val a (v ∷ []))) ⊛ raw (ensured 𝓛 (in_place_ended S R ws) (in_place_clauses S R ws f 𝓤) (α ∷ [], tt) (ref l₂ α γ, on l₂ α γ) tt a)))) (id⊢ 𝓤 _) $ await ! tt $ pick ! (λ a.
          split ! $ move ! (1 ∷ []) $ use1 𝓛 (some (λ (us : Lasts (in_place_ended S R ws) (α ∷ [], tt) (ref l₂ α γ, on l₂ α γ)). ‵ (lasts (in_place_ended S R ws) (α ∷ [], tt) (ref l₂ α γ, on l₂ α γ) us) ⊛ raw (fact 𝓤 (Clause l₂ α γ us.0 a)))) (id⊢ 𝓤 _) $ pick ! (λ us.
          split ! $ move ! (1 ∷ []) $ heard ! (Clause l₂ α γ us.0 a) (λ c. let e : (us.0 ≡ t) × (a ≡ R.answer r) = heard_here l₂ α γ us.0 a c in
          fsplit ! $ fsplit ! $ rewrite ! 0 (λ (u : S.T.D). ‵ (fres γ (Row.coded.code u))) e.0 refl $ move ! (1 ∷ []) $ drop ! $ move ! (1 ∷ []) $ drop ! $
          -- [the last value; the token and what the answer owns; the numbers; the lender's part; …]
          move ! (1 ∷ []) $ split ! $ move ! (1 ∷ []) $ peeks ! AnswerRow (Is AnswerRow) (shows 𝓛 AnswerRow) a (v ∷ []) (λ is.
          -- [what the answer owns; the token; the last value; the numbers; the lender's part; l₅; …; l₄; …; l₃; …; the end of l₂; l₁; …; l₀; …; true]
          land ! (from_past ! ws bs F 1 (stop !)) (init ! 9 refl ((Le.lawful R.E R.laws 𝓛 R.few).typed (R.answer r) _ (given_is v a e.1 is)).0) $
          rewrite ! 9 (λ (u : Val). ‵ (fat full_share (answer_mir S R) l₃ 0 u)) (ap only (Le.tells R.E R.laws (R.answer r) _ (given_is v a e.1 is))) refl $
          -- the lifetime is ended, and the slot comes back at the last value
          drop ! $ split ! $ lft_end ! tt $ move ! (0 ∷ 4 ∷ 2 ∷ []) $ use3 𝓛 (later (‵ (part_at Row full_share t l₂ 0))) (ref_back 𝓛 Row (α ∷ []) γ t l₂ 0) $ await ! tt $
          use1 𝓛 (‵ (fat full_share (state_mir S) l₂ 0 (LL.val S.T S.laws t)) ⊛ ‵ (Row.own_val t (state-vals S t))) (stands 𝓛 t l₂ 0) $ split ! $
          move ! (1 ∷ []) $ peeks ! Row (Is Row) (shows 𝓛 Row) t (state-vals S t) (λ ts.
          -- [what the state owns; l₂; true; the numbers; l₅; …; l₄; …; l₃; …; the end of l₂; l₁; …; l₀; …; true]
          assigns ! (of_opd ! (load ! (from_past ! ws bs F 0 (stop !)) (look ! 1 refl))) (from_past ! ws bs F 3 (stop !)) (init ! 4 refl ((LL.lawful S.T S.laws 𝓛).typed t _ ts).0) $
          assigns ! (agg ! (and_then ! (load ! (from_past ! ws bs F 3 (stop !)) (look ! 4 refl)) (and_then ! (load ! (from_past ! ws bs F 1 (stop !)) (look ! 8 refl)) (no_more !)))) (from ! (stop !))
          (init ! 13 refl ((LL.lawful (returned S R) (returned_laws S R) 𝓛).typed r _ (made v a e.1 is ts)).0) $
          returns ! (look ! 13 refl) $ forget ! 1 refl $ forget ! 4 refl $ forget ! 6 refl $ forget ! 8 refl $ forget ! 11 refl $ forget ! 13 refl $
          move ! (13 ∷ 14 ∷ []) $ free1 ! $ move ! (11 ∷ 12 ∷ []) $ free1 ! $ move ! (3 ∷ []) $ free_all here ! ws k bs $ move ! (1 ∷ 9 ∷ []) $ free1 ! $
          move ! (6 ∷ 7 ∷ []) $ free1 ! $ move ! (4 ∷ 5 ∷ []) $ free1 ! $ move ! (2 ∷ 3 ∷ []) $ free1 ! $ free0 ! $
          keep ! (1 ∷ []) $ by ! (exits (made v a e.1 is ts)))))))))))))))))

  module _ (key : Callee) (f : S.T.D → Takes ws R.D) {M : Type 1} {𝓤 : Ura M} (𝓛 : Logic 𝓤) where
    open 𝓛 use {H}

    out_walks : (C : Calls 𝓤 H) (Λ : Loops 𝓤 H) → FmC 𝓤 H 𝓛.laws C → Triple 𝓤 (C key) (InPlace S R ws f 𝓤 𝓛) → Walks 𝓛 (by_value_ended S R ws) stayed (WpFn 𝓤 H C Λ (lent_out key)) (by_value_clauses S R ws f 𝓤)
    out_walks C Λ fm known = walked 𝓛 (by_value_ended S R ws) stayed (by_value_clauses S R ws f 𝓤) (WpFn 𝓤 H C Λ (lent_out key)) (λ κs. (state-vals S, spellings (0, κs) ws)) (λ κs. (LL.tells S.T S.laws, tell_all (0, κs) ws))
        (λ κs qs bounds a g are. via 𝓤 _ (fst∗ 𝓤 _ (emp 𝓤)) (walk key f 𝓛 a.0 a.1 are.0 are.1 C Λ fm known))

    goes : AllGo 𝓛 0 (by_value S R ws).params (by_value_ended S R ws).kept stayed
    goes = (Goes-none 𝓛 0 (λ _. Row) yes (λ κs z w. silent (Row.exit yes) (still yes) z w), go_all 𝓛 0 ws)

  pub lends_out : (key : Callee) (f : S.T.D → Takes ws R.D) {M : Type 1} {𝓤 : Ura M} (𝓛 : Logic 𝓤) → (𝓣 : Tables 𝓤 𝓛.H) → Triple 𝓤 (𝓣.C key) (InPlace S R ws f 𝓤 𝓛)
      → Meets 𝓛 (by_value S R ws) (WpFn 𝓤 𝓛.H 𝓣.C 𝓣.Λ (lent_out key)) (closing 𝓛 (by_value_ended S R ws) (by_value_clauses S R ws f 𝓤))
  lends_out key f {𝓤 = 𝓤} 𝓛 𝓣 known = walk_Meets 𝓛 (by_value_ended S R ws) stayed (goes key f 𝓛) (by_value_clauses S R ws f 𝓤) (WpFn 𝓤 𝓛.H 𝓣.C 𝓣.Λ (lent_out key)) (WpFn-mono 𝓤 𝓛.H 𝓛.laws 𝓣 (lent_out key))
      (out_walks key f 𝓛 𝓣.C 𝓣.Λ (fm_of 𝓤 𝓛.H 𝓛.laws 𝓣) known)
