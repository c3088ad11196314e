use Rattle.std.proofs.Common.{refl}
use Rattle.peer_turns.specs.declared.call.TurnCall.TheVariants.{NextCopy}
use Rattle.peer_turns.proofs.Telling.{refused_more, gifts_same}
use Rattle.federation_link.proofs.asking.ask_copy.Goals as goal

pub returns-clause-spent : goal.returns-clause-spent
returns-clause-spent g c = λ tells. refused_more (NextCopy c.args.domain.now c.args.place) _ _ c.next_copy.result (λ a. refl) (c.next_copy.ensures tells)

pub returns-clause-gifts : goal.returns-clause-gifts
returns-clause-gifts g c = λ tells. gifts_same (NextCopy c.args.domain.now c.args.place) _ _ c.next_copy.result (λ a. refl) (c.next_copy.ensures tells)
