use Rattle.std.proofs.Common.{refl}
use Rattle.peer_turns.specs.declared.call.TurnCall.TheVariants.{NextRelay}
use Rattle.peer_turns.proofs.Telling.{refused_more, gifts_same}
use Rattle.federation_link.proofs.asking.ask_relay.Goals as goal

pub returns-clause-spent : goal.returns-clause-spent
returns-clause-spent g c = λ tells. refused_more (NextRelay c.args.domain.now c.args.place) _ _ c.next_relay.result (λ a. refl) (c.next_relay.ensures tells)

pub returns-clause-gifts : goal.returns-clause-gifts
returns-clause-gifts g c = λ tells. gifts_same (NextRelay c.args.domain.now c.args.place) _ _ c.next_relay.result (λ a. refl) (c.next_relay.ensures tells)
