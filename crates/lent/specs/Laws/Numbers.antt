-- The numbers of a call, whatever their widths: what a contract has of them, and the steps of a walk over the code that stores and passes them.
-- In a walk's context the cells of all of them are one entry.
use Rattle.std.specs.Prelude.{◌≡◌, refl, ℕ, zero, suc, List, [], ◌∷◌, ◌++◌, get_or, drop as skip}
use Rattle.std.proofs.Common.{sym, ap, subst, ◌∙◌}
use seplogic.Ra.Ura.{Ura}
use base.Fraction.{full_share}
use mir.Syntax.{Width, Ty, Local, ty_int, Step as PStep, place, Opd}
use mir.Val.{Val, vint}
use base.Logic.{ent, sep, emp, id⊢, via, emp∗, mono∗}
use base.Fml.{Fml, ftrue, fsep, fat, froom, fdies}
use prog.Wp.{Env, Spot, spot_of, no_local, walk}
use types.Logic.{Logic, sem}
use types.Kit.{Item, ‵, ⋆, Goal, prop, allocs, passes, frees, Seq, Step, step, ◌$◌, move, drop, use0, fsplit, fjoin, done}
use types.Run.{Walks, Finds, Opds, look, init, forget, stop, load, and_then, no_more, alloc1, pass1, pass0, free1}
use denote.RattleType.{flat, owns}
use denote.Laws.{Are, Ises, Tellss}
use denote.Plain.{UInt, uint_Tells, uint_Makes, uint_Lawful}
use denote.Exit.{yes}
use denote.Steps.{nothing}
use denote.Triple.End.{Fins, all}
use denote.Triple.Walked.{Stays, stay_none, fits_of, has_of, AllGo, Goes-none}
use Rattle.lent.specs.Numbers.{Takes, slots, Lives, rows, Numbers, applied, spellings, values, passed_on, locals, copies, past}

-- ---- in a contract: they are at exit as they were passed
abbrev pub stay_all : (n : ℕ) (ws : List Width) → Stays (slots n ws) (all yes (slots n ws))
stay_all n [] = tt
stay_all n (w ∷ ws) = (stay_none (λ _. UInt w) yes, stay_all n ws)

module _ (ℓ : Lives) where
  pub tell_all : (ws : List Width) → Tellss (rows ℓ ws) (Ises (rows ℓ ws)) (spellings ℓ ws)
  tell_all [] = tt
  tell_all (w ∷ ws) = (uint_Tells w, tell_all ws)

  -- each has its machine value, and its width holds it
  abbrev pub Fit : (ws : List Width) → Numbers ℓ ws → Type 0
  Fit ws a = Are (rows ℓ ws) (Ises (rows ℓ ws)) a (values ℓ ws a)

  abbrev pub left_none : (ws : List Width) (a : Numbers ℓ ws) → Fins ℓ.1 (slots ℓ.0 ws) (all yes (slots ℓ.0 ws)) a
  left_none [] a = tt
  left_none (w ∷ ws) a = (tt, left_none ws a.1)

  pub fit_none : (ws : List Width) (a : Numbers ℓ ws) → fits_of ℓ.1 (slots ℓ.0 ws) (all yes (slots ℓ.0 ws)) (stay_all ℓ.0 ws) a (left_none ws a)
  fit_none [] a = tt
  fit_none (w ∷ ws) a = (tt, fit_none ws a.1)

  -- what is owned of them at exit
  abbrev pub had : (ws : List Width) → Numbers ℓ ws → Fml
  had ws a = has_of ℓ.1 (slots ℓ.0 ws) (all yes (slots ℓ.0 ws)) (stay_all ℓ.0 ws) a (left_none ws a) (values ℓ ws a)

  as_passed : (ws : List Width) (a : Numbers ℓ ws) → owns (rows ℓ ws) a (values ℓ ws a) ≡ had ws a
  as_passed [] a = refl
  as_passed (w ∷ ws) a = ap (fsep ((UInt w).own_val a.0 (vint w a.0 ∷ []))) (as_passed ws a.1)

-- the same numbers as another signature's arguments
module _ (ℓ μ : Lives) where
  pub fit_on : (ws : List Width) (a : Numbers ℓ ws) → Fit ℓ ws a → Fit μ ws (passed_on ℓ μ ws a)
  fit_on [] a fit = tt
  fit_on (w ∷ ws) a fit = (fit.0, fit_on ws a.1 fit.1)

  pub applied-on : (ws : List Width) {X : Type 0} (g : Takes ws X) (a : Numbers ℓ ws) → applied μ ws g (passed_on ℓ μ ws a) ≡ applied ℓ ws g a
  applied-on [] g a = refl
  applied-on (w ∷ ws) g a = applied-on ws (g a.0) a.1

module _ {M : Type 1} {𝓤 : Ura M} (𝓛 : Logic 𝓤) where
  pub go_all : (n : ℕ) (ws : List Width) → AllGo 𝓛 n (slots n ws) (all yes (slots n ws)) (stay_all n ws)
  go_all n [] = tt
  go_all n (w ∷ ws) = (Goes-none 𝓛 n (λ _. UInt w) yes (λ κs x f. refl), go_all n ws)

  module _ (ℓ : Lives) where
    own-all : (ws : List Width) (a : Numbers ℓ ws) → Fit ℓ ws a → ent 𝓤 (emp 𝓤) (sem 𝓛 (owns (rows ℓ ws) a (values ℓ ws a)))
    own-all [] a fit = id⊢ 𝓤 (emp 𝓤)
    own-all (w ∷ ws) a fit = via 𝓤 (sep 𝓤 (emp 𝓤) (emp 𝓤)) (emp∗ 𝓤 (emp 𝓤)) (mono∗ 𝓤 (uint_Makes 𝓛 w a.0 _ fit.0) (own-all ws a.1 fit.1))

-- what they own is had for nothing, at entry and at exit
module _ {M : Type 1} {𝓤 : Ura M} {𝓛 : Logic 𝓤} {K : Type 0} {Γ : List (Item 𝓤)} {G : Goal 𝓤 𝓛.H} where
  pub owned_all : K → (ℓ : Lives) (ws : List Width) (a : Numbers ℓ ws) → Fit ℓ ws a → Step K 𝓛 (‵ (owns (rows ℓ ws) a (values ℓ ws a)) ∷ Γ) G Γ G
  owned_all t ℓ ws a fit = use0 𝓛 (‵ (owns (rows ℓ ws) a (values ℓ ws a))) (own-all 𝓛 ℓ ws a fit)

  pub had-all : K → (ℓ : Lives) (ws : List Width) (a : Numbers ℓ ws) → Fit ℓ ws a → Step K 𝓛 (‵ (had ℓ ws a) ∷ Γ) G Γ G
  had-all t ℓ ws a fit = use0 𝓛 (‵ (had ℓ ws a)) (subst (λ (P : Fml). ent 𝓤 (emp 𝓤) (sem 𝓛 P)) (as_passed ℓ ws a) (own-all 𝓛 ℓ ws a fit))

-- ---- in memory: a block for each
abbrev pub Blocks : List Width → Type 0
Blocks [] = Unit {0}
Blocks (w ∷ ws) = ℕ × Blocks ws

abbrev pub env : (ws : List Width) → Blocks ws → List (Ty × ℕ)
env [] bs = []
env (w ∷ ws) bs = (ty_int w, bs.0) ∷ env ws bs.1

abbrev pub rooms : (ws : List Width) → Blocks ws → Fml
rooms [] bs = ftrue
rooms (w ∷ ws) bs = fsep (fsep (froom (ty_int w) bs.0 zero) (fdies (ty_int w) bs.0)) (rooms ws bs.1)

abbrev pub cells : (ℓ : Lives) (ws : List Width) → Numbers ℓ ws → Blocks ws → Fml
cells ℓ [] a bs = ftrue
cells ℓ (w ∷ ws) a bs = fsep (fsep (fat full_share (ty_int w) bs.0 zero (vint w a.0)) (fdies (ty_int w) bs.0)) (cells ℓ ws a.1 bs.1)

-- the locals after them
past-suc : (k : ℕ) (ws : List Width) → past (suc k) ws ≡ suc (past k ws)
past-suc k [] = refl
past-suc k (w ∷ ws) = past-suc (suc k) ws

get_past : (ws : List Width) (bs : Blocks ws) (F : List (Ty × ℕ)) (j : ℕ) (d : Ty × ℕ) → get_or (env ws bs ++ F) (past j ws) d ≡ get_or F j d
get_past [] bs F j d = refl
get_past (w ∷ ws) bs F j d = ap (λ (i : ℕ). get_or (env (w ∷ ws) bs ++ F) i d) (past-suc j ws) ∙ get_past ws bs.1 F j d

-- the local k, and those after it
get_skip : (k : ℕ) (E : List (Ty × ℕ)) (d : Ty × ℕ) → get_or E k d ≡ get_or (skip k E) zero d
get_skip zero E d = refl
get_skip (suc k) [] d = refl
get_skip (suc k) (e ∷ E) d = get_skip k E d

skip_suc : (k : ℕ) (E : List (Ty × ℕ)) → skip (suc k) E ≡ skip 1 (skip k E)
skip_suc zero E = refl
skip_suc (suc k) [] = refl
skip_suc (suc k) (e ∷ E) = skip_suc k E

-- ---- the steps
module _ {M : Type 1} {𝓤 : Ura M} {𝓛 : Logic 𝓤} {K : Type 0} where
  -- a place by the entry that its local has
  open 𝓛 use {H}

  at_entry : {Γ : List (Item 𝓤)} {E : Env 𝓤 H} {i : ℕ} {st : List PStep} {sp : Spot 𝓤 H} (e : Ty × ℕ) → get_or E i (no_local 𝓤 H) ≡ e → Walks K 𝓛 Γ E (e.0, e.1, zero) st sp → Finds K 𝓛 Γ E (place i st) sp
  at_entry {Γ} {E} {i} {st} e is w = record { go = λ Kt h. subst (λ (z : Ty × ℕ). ent 𝓤 (⋆ 𝓛 Γ) (walk 𝓤 H E (z.0, z.1, zero) st Kt)) (sym is) (w.go Kt h) }

  -- a local after the numbers, which are the locals from 2 on
  pub from_past : K → (ws : List Width) (bs : Blocks ws) (F : Env 𝓤 H) (j : ℕ) {Γ : List (Item 𝓤)} {e₀ e₁ : Ty × ℕ} {st : List PStep} {sp : Spot 𝓤 H}
      → Walks K 𝓛 Γ (e₀ ∷ e₁ ∷ (env ws bs ++ F)) (spot_of 𝓤 H F j) st sp → Finds K 𝓛 Γ (e₀ ∷ e₁ ∷ (env ws bs ++ F)) (place (past (suc (suc j)) ws) st) sp
  from_past t ws bs F j {Γ} {e₀} {e₁} w =
      at_entry (get_or F j (no_local 𝓤 H)) (ap (λ (i : ℕ). get_or (e₀ ∷ e₁ ∷ (env ws bs ++ F)) i (no_local 𝓤 H)) (past-suc (suc j) ws ∙ ap suc (past-suc j ws)) ∙ get_past ws bs F j (no_local 𝓤 H)) w

  -- what evaluates in a context evaluates in one that says the same
  as_in : {Γ Γ' : List (Item 𝓤)} {E : Env 𝓤 H} {xs : List Opd} {vs : List Val} → Seq K 𝓛 Γ (prop (⋆ 𝓛 Γ')) → Seq K 𝓛 Γ' (prop (⋆ 𝓛 Γ)) → Opds K 𝓛 Γ' E xs vs → Opds K 𝓛 Γ E xs vs
  as_in {Γ} {Γ'} to back os = record { go = λ Kt h. via 𝓤 (⋆ 𝓛 Γ') to.prf (os.go Kt (via 𝓤 (⋆ 𝓛 Γ) back.prf h)) }

  pub alloc_all : K → (ws : List Width) {Γ : List (Item 𝓤)} {ls : List Local} {Kt : Env 𝓤 H → Goal 𝓤 H}
      → ((bs : Blocks ws) → Seq K 𝓛 (‵ (rooms ws bs) ∷ Γ) (allocs ls (λ E. Kt (env ws bs ++ E)))) → Seq K 𝓛 Γ (allocs (locals ws ++ ls) Kt)
  alloc_all t [] k = nothing t $ k tt
  alloc_all t (w ∷ ws) k = alloc1 t (λ b. alloc_all t ws (λ bs. move t (1 ∷ 2 ∷ 0 ∷ []) $ fjoin t $ fjoin t $ k (b, bs)))

  module _ (ℓ : Lives) where
    pub pass_all : K → (ws : List Width) (a : Numbers ℓ ws) → Fit ℓ ws a → (bs : Blocks ws) (F : Env 𝓤 H) {Γ : List (Item 𝓤)} {g : Goal 𝓤 H}
        → Step K 𝓛 (‵ (cells ℓ ws a bs) ∷ Γ) g (‵ (rooms ws bs) ∷ Γ) (passes (env ws bs ++ F) (flat (rows ℓ ws) (values ℓ ws a)) g)
    pass_all t [] a fit bs F = pass0 t
    pass_all t (w ∷ ws) a fit bs F = step (λ s. fsplit t $ fsplit t $ pass1 t (init t 0 refl ((uint_Lawful 𝓛 w).typed a.0 _ fit.0).0) $
        move t (2 ∷ []) $ pass_all t ws a.1 fit.1 bs.1 F $ move t (1 ∷ 2 ∷ 0 ∷ []) $ fjoin t $ fjoin t $ s)

    pub free_all : K → (ws : List Width) (a : Numbers ℓ ws) (bs : Blocks ws) {Γ : List (Item 𝓤)} {F : Env 𝓤 H} {g : Goal 𝓤 H}
        → Step K 𝓛 Γ (frees F g) (‵ (cells ℓ ws a bs) ∷ Γ) (frees (env ws bs ++ F) g)
    free_all t [] a bs = drop t
    free_all t (w ∷ ws) a bs = step (λ s. fsplit t $ fsplit t $ forget t 0 refl $ free1 t $ free_all t ws a.1 bs.1 $ s)

    -- their copies, as another signature's arguments: their cells are the entry after the first
    copy_all : (μ : Lives) → K → (ws : List Width) (a : Numbers ℓ ws) (bs : Blocks ws) (F : Env 𝓤 H) (k : ℕ) {Γ : List (Item 𝓤)} {i : Item 𝓤} {E : Env 𝓤 H} → skip k E ≡ env ws bs ++ F
        → Opds K 𝓛 (i ∷ ‵ (cells ℓ ws a bs) ∷ Γ) E (copies k ws) (flat (rows μ ws) (values μ ws (passed_on ℓ μ ws a)))
    copy_all μ t [] a bs F k e = no_more t
    copy_all μ t (w ∷ ws) a bs F k {Γ} {i} {E} e =
        as_in (move t (1 ∷ []) $ fsplit t $ fsplit t $ move t (3 ∷ 2 ∷ []) $ done t) (move t (2 ∷ 3 ∷ 1 ∷ 0 ∷ []) $ fjoin t $ fjoin t $ move t (1 ∷ 0 ∷ []) $ done t)
        (and_then t (load t (at_entry (ty_int w, bs.0) (get_skip k E (no_local 𝓤 H) ∙ ap (λ (G : Env 𝓤 H). get_or G zero (no_local 𝓤 H)) e) (stop t)) (look t 2 refl))
        (copy_all μ t ws a.1 bs.1 F (suc k) {Γ = ‵ (fat full_share (ty_int w) bs.0 zero (vint w a.0)) ∷ ‵ (fdies (ty_int w) bs.0) ∷ Γ} {i = i} {E = E} (skip_suc k E ∙ ap (skip 1) e)))

    pub copied : (μ : Lives) → K → (ws : List Width) (a : Numbers ℓ ws) (bs : Blocks ws) (F : Env 𝓤 H) {Γ : List (Item 𝓤)} {i : Item 𝓤} {e₀ e₁ : Ty × ℕ}
        → Opds K 𝓛 (i ∷ ‵ (cells ℓ ws a bs) ∷ Γ) (e₀ ∷ e₁ ∷ (env ws bs ++ F)) (copies 2 ws) (flat (rows μ ws) (values μ ws (passed_on ℓ μ ws a)))
    copied μ t ws a bs F = copy_all μ t ws a bs F 2 refl
