use Rattle.std.proofs.Common.{sym, subst, ◌∙◌, Some}
use Rattle.std.specs.FinMap as finite
use Rattle.wave_index.specs.Counts.{counts_in, CountsAs}
use Rattle.wave_index.specs.Taken.{Histories, AreNamed}
use Rattle.wave_index.proofs.Entries.{set-entries}
use Rattle.wave_index.proofs.Taken.{named_insert}
use Rattle.wave_index.proofs.index.Index.insert.Goals as goal

pub returns-clause-ok : goal.returns-clause-ok
returns-clause-ok c =
    set-entries c.in_ok-name.name c.self.inside.wavelets c.insert.new.self (Some c.args.wavelet) c.in_ok-_old.ensures.updates
    ∙ (λ i. finite.insert (c.self.view_is i) (c.in_ok-name.ensures i) c.args.wavelet)

pub invariant_of-self-2 : goal.invariant_of-self-2
invariant_of-self-2 c =
    let put = set-entries c.in_ok-name.name c.self.inside.wavelets c.insert.new.self (Some c.args.wavelet) c.in_ok-_old.ensures.updates in
    record {
      named = subst (λ (m : Histories). AreNamed m) (sym put) (named_insert _ c.in_ok-name.name c.args.wavelet c.self.invariant.named (c.requires.named ∙ sym c.in_ok-name.ensures));
      words = subst (λ (m : Histories). CountsAs c.args.words.places (counts_in m)) (sym (put ∙ (λ i. finite.insert (c.self.view_is i) (c.in_ok-name.ensures i) c.args.wavelet))) c.requires.words;
    }
