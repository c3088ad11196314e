use Rattle.std.proofs.Common.{◌≡◌, None, sym, ap, subst, ◌∙◌}
use Rattle.std.specs.FinMap as finite
use Rattle.doc_items.specs.Maps.{Key}
use Rattle.wave_index.specs.Counts.{counts_in, CountsAs}
use Rattle.wave_index.specs.Taken.{TakenOf, Histories, point_of}
use Rattle.wave_index.proofs.Keeping.{new_counts, put_counts}
use Rattle.wave_index.proofs.index.Index.take_first.Goals as goal

pub insert-requires-clause-words : goal.insert-requires-clause-words
insert-requires-clause-words c =
    let m = c.args.self.now in
    let new = c.new-wavelet.result in
    let is = ap (λ (t : TakenOf). t.name) c.new-wavelet.ensures ∙ c.in_ok-copy.ensures in
    let own = new_counts m new (subst (λ (k : Key). finite.get m k ≡ None) (sym is) c.requires) (ap (λ (t : TakenOf). (point_of t).state) c.new-wavelet.ensures) in
    subst (λ (z : Histories). CountsAs c.take.new.words.places (counts_in (finite.insert z c.args.name.now c.take.new.self))) (sym c.give_words-words.ensures.same)
    (put_counts c.take.new.words.places m new.name c.args.name.now c.take.new.self is (c.in-Ok.ensures.words_ok (counts_in m) own c.give_words-words.ensures.words))

pub invariant_of-self : goal.invariant_of-self
invariant_of-self c =
    let m = c.args.self.now in
    let new = c.new-wavelet.result in
    let is = ap (λ (t : TakenOf). t.name) c.new-wavelet.ensures ∙ c.in_ok-copy.ensures in
    let own = new_counts m new (subst (λ (k : Key). finite.get m k ≡ None) (sym is) c.requires) (ap (λ (t : TakenOf). (point_of t).state) c.new-wavelet.ensures) in
    record {
      named = c.self.invariant.named;
      words = subst (λ (z : Histories). CountsAs c.take.new.words.places (counts_in z)) (sym (c.self.view_is ∙ c.give_words-words.ensures.same)) (c.in-Err.ensures.words_err (counts_in m) own c.give_words-words.ensures.words);
    }
