use Rattle.std.proofs.Common.{◌++◌, List, Bor, map, ap, sym, ◌∙◌, append-nil}
use Rattle.std.proofs.Math.ListN.{drop_of_length-le}
use Rattle.doc_items.specs.Maps.{Key}
use Rattle.document_words.specs.Places.{holders}
use Rattle.wave_index.specs.Inboxes.{hit_at}
use Rattle.wave_index.proofs.Keeping.{hits_are}
use Rattle.wave_index.proofs.hits.put_held.Goals as goal

pub returns : goal.returns
returns c =
    let hits = c.loop-document.hits.items in
    sym (append-nil hits)
    ∙ ap (λ (ds : List (Bor Key)). hits ++ map (hit_at c.args.name.now) (map (λ k. k.now) ds)) (sym (drop_of_length-le c.as_slice-document-items.result.now c.loop-document-test.false))
    ∙ c.loop-document.invariant
    ∙ ap (λ (ds : List Key). c.args.hits.now.items ++ map (hit_at c.args.name.now) ds)
    (hits_are c.args.places.now c.args.state.now c.args.word.now c.args.name.now (holders c.args.places.now c.args.word.now c.args.name.now) c.in_ok-holders.ensures.order c.in_ok-holders.ensures.among c.requires)
