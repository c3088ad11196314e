use Rattle.std.proofs.Common.{sym, ap, subst, ◌∙◌}
use Rattle.std.specs.FinMap as finite
use Rattle.wave_index.specs.Counts.{counts_in, CountsAs}
use Rattle.wave_index.specs.Taken.{Histories, AreNamed, deltas_in}
use Rattle.wave_index.proofs.Entries.{written, lent}
use Rattle.wave_index.proofs.Keeping.{both_to, either_of, own_counts, put_counts}
use Rattle.wave_index.proofs.Taken.{refused_like, named_get, named_insert, put_itself, found_as, with_next, ok_to, err_to}
use Rattle.wave_index.proofs.index.Index.take_next.Goals as goal

pub invariant_of-self-2 : goal.invariant_of-self-2
invariant_of-self-2 c =
    let n = c.get_mut.follows.lender c.take.new.self in
    let m = c.args.self.now in
    let wavelet = c.in-Some.wavelet.now in
    let named = subst (λ (z : Histories). AreNamed z) c.self.view_is c.self.invariant.named in
    let kept = subst (λ (z : Histories). CountsAs c.self.inside.words.places (counts_in z)) c.self.view_is c.self.invariant.words in
    let there = lent c.self.inside.wavelets m c.args.name.now wavelet c.self.view_is c.in-Some.ensures.value in
    let is = named_get m c.args.name.now wavelet named there in
    let own = own_counts m c.args.name.now wavelet there is in
    let put = written c.self.inside.wavelets n m c.args.name.now c.take.new.self c.self.view_is c.requires (c.get_mut.follows.holds c.take.new.self).3 in
    record {
      named = subst (λ (z : Histories). AreNamed z) (sym put) (named_insert m c.args.name.now c.take.new.self named (c.take.ensures.named ∙ is));
      words = subst (λ (z : Histories). CountsAs c.take.new.words.places (counts_in z)) (sym put) (either_of c.take.result
          (ok_to c.take.result (λ f. put_counts c.take.new.words.places m wavelet.name c.args.name.now c.take.new.self is (f (counts_in m) own kept)) c.take.ensures.words_ok)
          (both_to c.take.result (λ same f. subst (λ (z : Histories). CountsAs c.take.new.words.places (counts_in z)) (sym (ap (finite.insert m c.args.name.now) same ∙ put_itself m c.args.name.now wavelet there)) (f (counts_in m) own kept))
          c.take.ensures.same c.take.ensures.words_err));
    }

pub returns-clause-ok : goal.returns-clause-ok
returns-clause-ok c =
    let n = c.get_mut.follows.lender c.take.new.self in
    let m = c.args.self.now in
    let named = subst (λ (z : Histories). AreNamed z) c.self.view_is c.self.invariant.named in
    let there = lent c.self.inside.wavelets m c.args.name.now c.in-Some.wavelet.now c.self.view_is c.in-Some.ensures.value in
    let put = written c.self.inside.wavelets n m c.args.name.now c.take.new.self c.self.view_is c.requires (c.get_mut.follows.holds c.take.new.self).3 in
    ok_to c.take.result (λ u. put ∙ with_next m c.args.name.now c.in-Some.wavelet.now c.take.new.self c.args.delta.now named there u) c.take.ensures.ok

pub returns-clause-refused : goal.returns-clause-refused
returns-clause-refused c =
    let m = c.args.self.now in
    let named = subst (λ (z : Histories). AreNamed z) c.self.view_is c.self.invariant.named in
    let there = lent c.self.inside.wavelets m c.args.name.now c.in-Some.wavelet.now c.self.view_is c.in-Some.ensures.value in
    refused_like c.take.result c.in-Some.wavelet.now (record { name = c.args.name.now; deltas = deltas_in m c.args.name.now }) c.args.delta.now (found_as m c.args.name.now c.in-Some.wavelet.now named there) c.take.ensures.refused

pub returns-clause-same : goal.returns-clause-same
returns-clause-same c =
    let n = c.get_mut.follows.lender c.take.new.self in
    let m = c.args.self.now in
    let there = lent c.self.inside.wavelets m c.args.name.now c.in-Some.wavelet.now c.self.view_is c.in-Some.ensures.value in
    let put = written c.self.inside.wavelets n m c.args.name.now c.take.new.self c.self.view_is c.requires (c.get_mut.follows.holds c.take.new.self).3 in
    err_to c.take.result (λ u. put ∙ ap (finite.insert m c.args.name.now) u ∙ put_itself m c.args.name.now c.in-Some.wavelet.now there) c.take.ensures.same
