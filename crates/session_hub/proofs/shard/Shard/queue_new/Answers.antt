use Rattle.std.proofs.Common.{rules, ◌≡◌, ◌++◌, ◌∷◌, [], inr}
use Rattle.replica_store.specs.Worlds.{worlds_of, with_queued}
use Rattle.wavelet_shelf.specs.Shelves.{hosted_of, fault_count}
use Rattle.hosted_copies.specs.Domains.{hosted_by}
use Rattle.shard_marks.specs.declared.mark.Mark.TheVariants as mark
use Rattle.shard_marks.specs.Servers.{server}
use Rattle.shard_marks.proofs.Copying.{is_copy, copied_queued, hosted_queued, own_queued, counted_queued}
use Rattle.shard_marks.proofs.Judging.{judged_queued}
use Rattle.session_hub.specs.declared.record.Record.TheVariants as record_of
use Rattle.session_hub.specs.Entries.{entries_of}
use Rattle.session_hub.specs.Records.{marks_in}
use Rattle.session_hub.proofs.Adding.{last_marks, queued_where}
use Rattle.session_hub.proofs.Written.{written_queued}
use Rattle.session_hub.proofs.shard.Shard.queue_new.Goals as goal

pub invariant_of-self-2 : goal.invariant_of-self-2
invariant_of-self-2 g c =
    let s = c.args.self.now in
    let n = c.args.name.now in
    let x = c.args.submission.now in
    let hs = hosted_by s.domain (hosted_of s.shelf) in
    let gs = worlds_of c.queue_submission.new.self in
    let ns = marks_in s.domain s.number c.keep.new.records.items in
    let own = is_copy s.domain s.number n c.requires.other c.requires.own in
    let r = record_of.Queued c.of.result c.of-2.result in
    let e : ns ≡ entries_of s ++ mark.Queued n x ∷ [] = last_marks s.domain s.number s.records.items c.keep.new.records.items (mark.Queued n x) r (search rules) (search rules) in
    let after : gs ≡ with_queued (worlds_of s.replicas) n x = queued_where (worlds_of s.replicas) gs n x c.in_ok-waiting.waiting c.requires.new.unkept c.in_ok-waiting.ensures c.in_ok-_queued.ensures.after in
    record {
      replay = hosted_queued s.domain s.number (entries_of s) ns n x own e hs s.replay;
      copies = copied_queued s.domain s.number (entries_of s) ns n x own e (worlds_of s.replicas) gs s.copies after;
      own = own_queued s.domain s.number (entries_of s) ns n x own e s.own;
      sound = s.sound;
      counted = counted_queued (entries_of s) ns n x (fault_count s.shelf) e s.counted;
      written = written_queued s.domain hs (worlds_of s.replicas) n x gs after s.texts.items s.written;
    }

pub returns : goal.returns
returns g c =
    let s = c.args.self.now in
    let n = c.args.name.now in
    let x = c.args.submission.now in
    let ns = marks_in s.domain s.number c.keep.new.records.items in
    let r = record_of.Queued c.of.result c.of-2.result in
    let e : ns ≡ entries_of s ++ mark.Queued n x ∷ [] = last_marks s.domain s.number s.records.items c.keep.new.records.items (mark.Queued n x) r (search rules) (search rules) in
    record {
      judged = λ ps t peer. judged_queued (server s.domain ps) s.number (entries_of s) ns n x t (worlds_of s.replicas) c.requires.other peer c.requires.own s.copies e c.requires.new.unkept c.requires.new.absent c.requires.new.unwaited;
      same = tt;
      one = inr (mark.Queued n x, e);
    }
