-- A struct of plain data, the state, and what a call by value on it returns: a struct of the later state and an answer, which is an enum.
-- Their types are built here as the check builds those of declared structs, so that a proof over them serves every such struct and enum.
use Rattle.std.specs.Prelude.{◌≡◌, List, [], ◌∷◌}
use mir.Syntax.{Sym, Ty}
use mir.Val.{Val}
use Rattle.std.specs.Borrow.{RattleType}
use denote.Laws.{Is}
use denote.Lowered.{Lowered}
use denote.Struct.Record as structs
use denote.Struct.Declared as fields
use denote.Struct.Struct.{Plains, layout}
use denote.Struct.Laws as struct_laws
use denote.Enum.Enum.{Plainss, Few}
use denote.Enum.Enum as enums
use denote.Enum.Declared as enum
use denote.Enum.Laws as enum_laws

pub record State : Type 2 where
  pub T : fields.Declared
  pub laws : struct_laws.Laws T
  pub plain : Plains (fields.fields T)
  pub copy : struct_laws.Copyables T.parts
  pub lowers : struct_laws.Lowered T

module _ (S : State) where
  abbrev pub state-row : RattleType
  state-row = fields.row S.T

  abbrev pub state_mir : Ty
  state_mir = layout (fields.shape S.T)

  abbrev pub state-vals : S.T.D → List Val
  state-vals = struct_laws.vals S.T S.laws

pub record Returned (S : State) : Type 2 where
  -- the answer
  pub E : enum.Declared
  pub laws : enum_laws.Laws E
  pub plain : Plainss (enum.variants E)
  pub few : Few (enum.shape E)
  pub lowers : Lowered (enum.row E)
  -- the struct
  pub name : Sym
  pub D : Type 0
  pub state : D → S.T.D
  pub answer : D → E.D
  pub make : S.T.D → E.D → D
  pub eta : (d : D) → make (state d) (answer d) ≡ d
  pub beta : (v : S.T.D × (E.D × Unit {0})) → (state (make v.0 v.1.0), (answer (make v.0 v.1.0), tt)) ≡ v
  pub propositions : (v : S.T.D × (E.D × Unit {0})) → IsProp structs.Done

module _ (S : State) (R : Returned S) where
  abbrev struct : structs.Record
  struct = record {
    name = R.name;
    args = [];
    types = [];
    parts = fields.field S.T ∷ enum.field R.E ∷ [];
    D = R.D;
    as_values = λ d. (R.state d, (R.answer d, tt));
    Ghost = λ v. structs.Done;
    ghosts = λ d. tt;
    make = λ v g. R.make v.0 v.1.0;
    eta = R.eta;
    beta = λ v g. R.beta v;
  }

  abbrev pub returned : fields.Declared
  returned = structs.declared struct R.propositions

  abbrev pub returned-row : RattleType
  returned-row = fields.row returned

  abbrev pub returned_laws : struct_laws.Laws returned
  returned_laws = (struct_laws.field_laws S.T S.laws S.lowers, (enum_laws.field_laws R.E R.laws R.few R.lowers, tt))

  abbrev pub returned-plain : Plains (fields.fields returned)
  returned-plain = (struct_laws.field_plain S.T S.plain, (enum_laws.field_plain R.E R.plain, tt))

  abbrev pub returned_mir : Ty
  returned_mir = layout (fields.shape returned)

  abbrev pub answer-row : RattleType
  answer-row = enum.row R.E

  abbrev pub answer_mir : Ty
  answer_mir = enums.layout (enum.shape R.E)

  abbrev pub answer_val : R.E.D → Val
  answer_val = enum_laws.val R.E R.laws

  -- what whoever holds what was returned knows of its two fields, and what whoever has the two can make
  pub state_is : (r : R.D) (vs : List Val) → Is returned-row r vs → Is (state-row S) (R.state r) (state-vals S (R.state r))
  state_is r vs is = (struct_laws.owed returned returned_laws r vs is).0

  pub answer_is : (r : R.D) (vs : List Val) → Is returned-row r vs → Is answer-row (R.answer r) (answer_val (R.answer r) ∷ [])
  answer_is r vs is = (struct_laws.owed returned returned_laws r vs is).1.0

  pub returned_is : (r : R.D) → Is (state-row S) (R.state r) (state-vals S (R.state r)) → Is answer-row (R.answer r) (answer_val (R.answer r) ∷ []) → Is returned-row r (struct_laws.vals returned returned_laws r)
  returned_is r s a = struct_laws.owes returned returned_laws r (s, (a, tt))
