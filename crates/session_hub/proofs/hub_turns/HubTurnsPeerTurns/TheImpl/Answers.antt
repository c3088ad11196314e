use Rattle.session_hub.proofs.hub_turns.HubTurnsPeerTurns.TheImpl.Goals as goal

-- it isn't told which calls were made
pub take_applied-tells : goal.take_applied-tells
take_applied-tells g c = λ told. absurd cc

pub take_answer-tells : goal.take_answer-tells
take_answer-tells g c = λ told. absurd cc

pub take_dropped-tells : goal.take_dropped-tells
take_dropped-tells g c = λ told. absurd cc

pub next_relay-tells : goal.next_relay-tells
next_relay-tells g c = λ told. absurd cc

pub next_copy-tells : goal.next_copy-tells
next_copy-tells g c = λ told. absurd cc
