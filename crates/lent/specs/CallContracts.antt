-- The two contracts of a call with numbers, over the call's definition f: by value the result is f's, and in place the state at exit and the
-- answer are those that f gives of the state at entry.
use Rattle.std.specs.Prelude.{◌≡◌, List, [], ◌∷◌}
use seplogic.Ra.Ura.{Ura}
use Rattle.std.specs.Int.{Width}
use base.Logic.{emp}
use types.Logic.{Logic}
use contract.Monad.{fact}
use denote.Builtin.{RefMutOf}
use denote.Exit.{yes}
use denote.Signature.{Signature, plain}
use denote.Triple.Clauses.{Ended, Clauses, closing}
use denote.Triple.End.{all}
use denote.Triple.Spec.{triple_of}
use denote.Triple.Statement.{Contract}
use Rattle.lent.specs.Numbers.{Takes, slots, applied}
use Rattle.lent.specs.Returned.{State, Returned, state-row, returned-row, answer-row}

module _ (S : State) (R : Returned S) (ws : List Width) where
  -- `fn(s: State, k: u16, …) -> Returned`, with a number of each width
  abbrev pub by_value : Signature
  by_value = record {
    lifetimes = 0;
    outlives = [];
    params = plain (λ κs. state-row S) ∷ slots 0 ws;
    result = plain (λ κs. returned-row S R);
  }

  abbrev pub by_value_ended : Ended
  by_value_ended = record { signature = by_value; kept = (yes, all yes (slots 0 ws)) }

  -- `fn(s: &mut State, k: u16, …) -> Answer`
  abbrev pub in_place : Signature
  in_place = record {
    lifetimes = 1;
    outlives = [];
    params = RefMutOf (0 ∷ []) tt (plain (λ κs. state-row S)) (λ κs. tt) ∷ slots 1 ws;
    result = plain (λ κs. answer-row S R);
  }

  abbrev pub in_place_ended : Ended
  in_place_ended = record { signature = in_place; kept = (yes, all yes (slots 1 ws)) }

  module _ (f : S.T.D → Takes ws R.D) {M : Type 1} (𝓤 : Ura M) where
    abbrev pub by_value_clauses : Clauses 𝓤 by_value_ended
    by_value_clauses κs a = record {
      ghost = Unit {0};
      requires = λ g. emp 𝓤;
      ensures = λ g r e. fact 𝓤 (r ≡ applied (0, κs) ws (f a.0) a.1);
    }

    abbrev pub in_place_clauses : Clauses 𝓤 in_place_ended
    in_place_clauses κs a = record {
      ghost = Unit {0};
      requires = λ g. emp 𝓤;
      ensures = λ g r e. fact 𝓤 ((e.0.now ≡ R.state (applied (1, κs) ws (f a.0.now) a.1)) × (r ≡ R.answer (applied (1, κs) ws (f a.0.now) a.1)));
    }

    abbrev pub ByValue : (𝓛 : Logic 𝓤) → Contract 𝓤
    ByValue 𝓛 = triple_of 𝓛 by_value (closing 𝓛 by_value_ended by_value_clauses)

    abbrev pub InPlace : (𝓛 : Logic 𝓤) → Contract 𝓤
    InPlace 𝓛 = triple_of 𝓛 in_place (closing 𝓛 in_place_ended in_place_clauses)
