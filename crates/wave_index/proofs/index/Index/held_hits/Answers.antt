use Rattle.std.proofs.Common.{◌++◌, List, Bor, map, ap, sym, ◌∙◌, append-nil}
use Rattle.std.proofs.Math.ListN.{drop_of_length-le}
use Rattle.doc_items.specs.Maps.{Key}
use Rattle.document_words.specs.Places.{wavelets_of}
use Rattle.wave_index.specs.Inboxes.{hits_at}
use Rattle.wave_index.proofs.Keeping.{walk, all_hits}
use Rattle.wave_index.proofs.index.Index.held_hits.Goals as goal

pub returns : goal.returns
returns c =
    let hits = c.loop-name.hits.items in
    let g = hits_at c.args.self.now c.args.user.now c.args.word.now in
    sym (append-nil hits)
    ∙ ap (λ (ns : List (Bor Key)). hits ++ walk g (map (λ k. k.now) ns)) (sym (drop_of_length-le c.as_slice-name-items.result.now c.loop-name-test.false))
    ∙ c.loop-name.invariant
    ∙ all_hits c.args.places.now c.args.self.now c.args.user.now c.args.word.now (wavelets_of c.args.places.now c.args.word.now) c.in_ok-wavelets.ensures.order c.in_ok-wavelets.ensures.rest c.requires
