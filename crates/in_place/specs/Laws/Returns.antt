-- The session as a state, and the delivery that deliver returns, in the words of `lent`.
use Rattle.std.specs.Prelude.{refl}
use Rattle.lent.specs.Returned.{State, Returned}
use Rattle.recovery.specs.declared.Delivery.{Delivery}
use Rattle.recovery.specs.contracts.Session as session
use Rattle.recovery.proofs.Session.TheLaws as session-laws
use Rattle.recovery.specs.contracts.Delivered as delivered
use Rattle.recovery.proofs.Delivered.TheLaws as delivered-laws
use Rattle.recovery.specs.contracts.Delivery as delivery

abbrev pub of_session : State
of_session = record {
  T = session.the_type;
  laws = session-laws.the_laws;
  plain = session-laws.the_plain;
  copy = session-laws.the_copy;
  lowers = session-laws.lowers;
}

abbrev pub of_delivery : Returned of_session
of_delivery = record {
  E = delivered.the_type;
  laws = delivered-laws.the_laws;
  plain = delivered-laws.the_plain;
  few = tt;
  lowers = delivered-laws.lowers;
  name = (delivery.struct).name;
  D = Delivery;
  state = λ d. d.session;
  answer = λ d. d.answer;
  make = λ s a. record { session = s; answer = a };
  eta = λ d. refl;
  beta = λ v. refl;
  propositions = delivery.the_propositions;
}
