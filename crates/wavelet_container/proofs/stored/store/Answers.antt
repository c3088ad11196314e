use Rattle.std.proofs.Common.{ap, subst, ◌∙◌}
use Rattle.wavelet_codec.specs.Spelling.{delta_bytes, IsDelta}
use Rattle.wavelet_container.proofs.Journals.{grown_from, moved_failed, moved_grown}
use Rattle.wavelet_container.proofs.stored.store.Goals as goal

pub returns-in_err-append-clause-moved : goal.returns-in_err-append-clause-moved
returns-in_err-append-clause-moved g c added is =
    let next = c.in_ok-ready.ensures.ready.next in
    let same = c.in_ok-ready.ensures.delta in
    moved_failed c.args.wavelet.now c.prepared.new.wavelet c.args.delta c.bytes.result.now c.args.journal.now c.append.new.journal added (c.bytes.ensures.value ∙ ap delta_bytes same) (record { is = subst IsDelta same c.bytes.ensures.is; next = next }) (is next) c.prepared.ensures.same
    c.append.ensures.any_moment c.in_err-append.ensures.err c.in_err-append.ensures.left_over c.append.ensures.later

pub returns-clause-moved : goal.returns-clause-moved
returns-clause-moved g c added is =
    let next = c.in_ok-ready.ensures.ready.next in
    let same = c.in_ok-ready.ensures.delta in
    let grown = grown_from c.args.wavelet.now c.prepared.new.wavelet c.commit.new.self c.in_ok-ready.ready.delta c.args.delta c.prepared.ensures.same c.commit.ensures same in
    moved_grown c.args.wavelet.now c.commit.new.self c.args.delta c.bytes.result.now c.args.journal.now c.append.new.journal added (c.bytes.ensures.value ∙ ap delta_bytes same) (record { is = subst IsDelta same c.bytes.ensures.is; next = next }) (is next) grown
    c.append.ensures.any_moment c.in_ok-append.ensures.ok c.in_ok-append.ensures.done c.append.ensures.later
