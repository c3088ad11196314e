use Rattle.std.proofs.Common.{sym, subst, ◌≡◌, ◌∙◌, true, List, filter}
use Rattle.shard_marks.specs.declared.mark.Mark.{Mark}
use Rattle.wavelet_shelf.specs.Parts.{is_in}
use Rattle.wavelet_shelf.specs.Shelves.{hosted_of}
use Rattle.hosted_copies.specs.Domains.{hosted_by}
use Rattle.shard_marks.specs.Marks.{is_founded, loaded}
use Rattle.shard_marks.specs.Passes.{marks_of}
use Rattle.shard_marks.proofs.Founded.{founded_own}
use Rattle.session_hub.proofs.Loading.{loaded_length, parts_in, seen_loaded}
use Rattle.session_hub.proofs.hub.Hub.new.Goals as goal

pub shards_of-requires : goal.shards_of-requires
shards_of-requires g c = λ i. parts_in c.args.domain c.args.shelf i _ (c.in_ok-parts.ensures.parts i)

pub returns-clause-seen : goal.returns-clause-seen
returns-clause-seen g c = λ k l. seen_loaded c.args.domain c.args.shelf c.in_ok-parts.parts.items c.in_ok-shards.shards.items k (marks_of c.in_ok-cells.passes k) c.in_ok-shards.ensures c.in_ok-parts.ensures.sixteen c.in_ok-parts.ensures.parts l (c.in_ok-cells.ensures.seen k)

pub returns-clause-own : goal.returns-clause-own
returns-clause-own g c = (
  c.in_ok-cells.ensures.own,
  λ k l. subst (λ (ms : List Mark). is_founded c.args.domain k ms ≡ true)
      (sym (seen_loaded c.args.domain c.args.shelf c.in_ok-parts.parts.items c.in_ok-shards.shards.items k (marks_of c.in_ok-cells.passes k) c.in_ok-shards.ensures c.in_ok-parts.ensures.sixteen c.in_ok-parts.ensures.parts l (c.in_ok-cells.ensures.seen k)))
      (founded_own c.args.domain k (loaded (filter (λ h. is_in k h.name) (hosted_by c.args.domain (hosted_of c.args.shelf))))),
)

pub new-requires : goal.new-requires
new-requires g c = loaded_length c.args.domain 0 c.in_ok-parts.parts.items c.in_ok-shards.shards.items c.in_ok-shards.ensures ∙ c.in_ok-parts.ensures.sixteen
