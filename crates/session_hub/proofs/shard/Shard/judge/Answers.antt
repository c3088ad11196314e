use Rattle.std.proofs.Common.{rules, length, slice_get, ap, sym, subst, ◌∙◌, ◌≡◌, ◌++◌, ◌∷◌, [], inr}
use Rattle.wavelet_shelf.specs.Hosting.{deltas_in, judged_in}
use Rattle.wavelet_shelf.specs.Shelves.{hosted_of, fault_count}
use Rattle.hosted_copies.specs.Domains.{hosted_by}
use Rattle.session_hub.specs.declared.record.Record.TheVariants as record_of
use Rattle.shard_marks.specs.declared.mark.Mark.TheVariants as mark
use Rattle.replica_store.specs.Worlds.{worlds_of}
use Rattle.shard_copies.specs.Shown.{deltas_among}
use Rattle.shard_marks.specs.Histories.{are_sound}
use Rattle.shard_marks.specs.Servers.{server}
use Rattle.shard_marks.proofs.Copying.{copied_noted, copied_fault}
use Rattle.shard_marks.proofs.Judging.{judged_noted, judged_fault}
use Rattle.shard_marks.proofs.Replaying.{noted, noted_one, own_of, noted_replay, own_noted, counted_noted, fault_replay, own_fault, counted_fault}
use Rattle.session_hub.specs.Entries.{entries_of}
use Rattle.session_hub.specs.Records.{marks_in}
use Rattle.session_hub.specs.Texts.{AreWritten}
use Rattle.session_hub.proofs.Adding.{grown_at, grown_marks, last_marks}
use Rattle.session_hub.proofs.Sounding.{sound_later}
use Rattle.session_hub.proofs.Written.{written_later}
use Rattle.session_hub.proofs.shard.Shard.judge.Goals as goal

pub invariant_of-self-in-Ok : goal.invariant_of-self-in-Ok
invariant_of-self-in-Ok g c =
    let s = c.args.self.now in
    let hs = hosted_of s.shelf in
    let gs = hosted_of c.submit.new.self in
    let n = c.args.name.now in
    let o = (judged_in hs n c.args.submission.now c.args.time).1 in
    let ns = marks_in s.domain s.number c.keep_growth.new.records.items in
    let ascend = c.copies_are_hosted.ensures.ascending in
    let at = grown_at hs gs n c.args.submission.now c.args.time ascend c.in-Ok.ensures.grown in
    let e : ns ≡ entries_of s ++ noted n o = grown_marks s.domain s.number s.records.items c.keep_growth.new.records.items n (slice_get (deltas_in gs n) (length (deltas_in hs n))) o at (search rules) in
    record {
      replay = noted_replay s.domain s.number (entries_of s) ns hs n c.args.submission.now c.args.time s.replay c.requires.hosted gs ascend c.requires.own c.in-Ok.ensures.grown e;
      copies = copied_noted s.domain s.number (worlds_of s.replicas) (entries_of s) ns n o c.requires.hosted e s.copies;
      own = own_noted s.domain s.number (entries_of s) ns n o (own_of s.domain s.number n c.requires.hosted c.requires.own) e s.own;
      sound = sound_later s.domain hs gs n c.args.submission.now c.args.time ascend c.requires.hosted c.in-Ok.ensures.grown c.keep_growth.ensures.sound s.sound;
      counted = counted_noted (entries_of s) ns n o (fault_count s.shelf) (fault_count c.submit.new.self) e s.counted c.submit.ensures.later;
      written = written_later s.domain hs gs (worlds_of s.replicas) n c.args.submission.now c.args.time ascend c.requires.hosted c.in-Ok.ensures.grown s.texts.items s.written;
    }

pub returns-in-Ok : goal.returns-in-Ok
returns-in-Ok g c =
    let s = c.args.self.now in
    let hs = hosted_of s.shelf in
    let gs = hosted_of c.submit.new.self in
    let n = c.args.name.now in
    let o = (judged_in hs n c.args.submission.now c.args.time).1 in
    let ns = marks_in s.domain s.number c.keep_growth.new.records.items in
    let at = grown_at hs gs n c.args.submission.now c.args.time c.copies_are_hosted.ensures.ascending c.in-Ok.ensures.grown in
    let e : ns ≡ entries_of s ++ noted n o = grown_marks s.domain s.number s.records.items c.keep_growth.new.records.items n (slice_get (deltas_in gs n) (length (deltas_in hs n))) o at (search rules) in
    record {
      judged = λ ps. judged_noted (server s.domain ps) s.number (entries_of s) ns n c.args.submission.now c.args.time hs c.in-Ok.verdict s.replay c.requires.hosted e c.in-Ok.ensures.verdict;
      same = tt;
      one = noted_one (entries_of s) ns n o e;
    }

pub invariant_of-self-in-Err-DiskFault : goal.invariant_of-self-in-Err-DiskFault
invariant_of-self-in-Err-DiskFault g c =
    let s = c.args.self.now in
    let n = c.args.name.now in
    let i = c.args.submission.now.id in
    let ns = marks_in s.domain s.number c.keep.new.records.items in
    let r = record_of.Fault c.of.result c.of-in-Err-DiskFault.result in
    let e : ns ≡ entries_of s ++ mark.Fault n i ∷ [] = last_marks s.domain s.number s.records.items c.keep.new.records.items (mark.Fault n i) r (search rules) (search rules) in
    record {
      replay = fault_replay s.domain s.number (entries_of s) ns (hosted_of c.submit.new.self) n i (ap (hosted_by s.domain) c.in-Err-DiskFault.ensures.same ∙ s.replay) e;
      copies = copied_fault s.domain s.number (worlds_of s.replicas) (entries_of s) ns n i e s.copies;
      own = own_fault s.domain s.number (entries_of s) ns n i (own_of s.domain s.number n c.requires.hosted c.requires.own) e s.own;
      sound = ap (λ hs. are_sound (hosted_by s.domain hs)) c.in-Err-DiskFault.ensures.same ∙ s.sound;
      counted = counted_fault (entries_of s) ns n i (fault_count s.shelf) (fault_count c.submit.new.self) e s.counted (search rules);
      written = subst (λ hs. AreWritten (deltas_among s.domain (hosted_by s.domain hs) (worlds_of s.replicas)) s.texts.items) (sym c.in-Err-DiskFault.ensures.same) s.written;
    }

pub returns-in-Err-DiskFault : goal.returns-in-Err-DiskFault
returns-in-Err-DiskFault g c =
    let s = c.args.self.now in
    let n = c.args.name.now in
    let i = c.args.submission.now.id in
    let ns = marks_in s.domain s.number c.keep.new.records.items in
    let r = record_of.Fault c.of.result c.of-in-Err-DiskFault.result in
    let e : ns ≡ entries_of s ++ mark.Fault n i ∷ [] = last_marks s.domain s.number s.records.items c.keep.new.records.items (mark.Fault n i) r (search rules) (search rules) in
    record {
      judged = λ ps. judged_fault (server s.domain ps) s.number (entries_of s) ns n c.args.submission.now c.args.time c.requires.hosted e;
      same = tt;
      one = inr (mark.Fault n i, e);
    }
