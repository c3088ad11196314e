use Rattle.std.proofs.Common.{rules, ap, ◌≡◌, ◌++◌, ◌∙◌}
use Rattle.replica_store.specs.Worlds.{worlds_of}
use Rattle.wavelet_shelf.specs.Shelves.{hosted_of, fault_count}
use Rattle.hosted_copies.specs.Domains.{hosted_by}
use Rattle.shard_marks.specs.Givings.{gift_mark, marks_if}
use Rattle.shard_marks.specs.Marks.{is_copied}
use Rattle.shard_marks.proofs.Copying.{gift_is, gift_name, is_copy, one_given, hosted_given, copied_given, own_given, counted_given, given_at}
use Rattle.session_hub.specs.Entries.{entries_of}
use Rattle.session_hub.specs.Records.{marks_in}
use Rattle.session_hub.proofs.Adding.{gift_marks}
use Rattle.session_hub.proofs.Written.{written_given}
use Rattle.session_hub.proofs.shard.Shard.give_copy.Goals as goal

pub invariant_of-self-2 : goal.invariant_of-self-2
invariant_of-self-2 g c =
    let s = c.args.self.now in
    let n = c.args.name.now in
    let b = c.in_ok-given.changed in
    let m = gift_mark n c.args.giving.now in
    let gift = gift_is n c.args.giving.now in
    let hs = hosted_by s.domain (hosted_of s.shelf) in
    let ns = marks_in s.domain s.number c.keep_if.new.records.items in
    let own = ap (is_copied s.domain s.number) (gift_name n c.args.giving.now) ∙ is_copy s.domain s.number n c.requires.other c.requires.own in
    let e : ns ≡ entries_of s ++ marks_if b m = gift_marks s.domain s.number s.records.items c.keep_if.new.records.items b m c.in_ok-newest.newest c.in_ok-newest.ensures (search rules) in
    record {
      replay = hosted_given s.domain s.number (entries_of s) ns m b gift own e hs s.replay;
      copies = copied_given s.domain s.number (entries_of s) ns m b gift own e (worlds_of s.replicas) (worlds_of c.give_to.new.replicas) s.copies c.in_ok-given.ensures.after c.in_ok-given.ensures.taken;
      own = own_given s.domain s.number (entries_of s) ns m b gift own e s.own;
      sound = s.sound;
      counted = counted_given (entries_of s) ns b m (fault_count s.shelf) gift e s.counted;
      written = written_given s.domain hs (worlds_of s.replicas) m gift (worlds_of c.give_to.new.replicas) c.in_ok-given.ensures.after s.texts.items s.written;
    }

pub returns : goal.returns
returns g c =
    let s = c.args.self.now in
    let n = c.args.name.now in
    let b = c.in_ok-given.changed in
    let m = gift_mark n c.args.giving.now in
    let gift = gift_is n c.args.giving.now in
    let ns = marks_in s.domain s.number c.keep_if.new.records.items in
    let own = ap (is_copied s.domain s.number) (gift_name n c.args.giving.now) ∙ is_copy s.domain s.number n c.requires.other c.requires.own in
    let e : ns ≡ entries_of s ++ marks_if b m = gift_marks s.domain s.number s.records.items c.keep_if.new.records.items b m c.in_ok-newest.newest c.in_ok-newest.ensures (search rules) in
    record {
      given = given_at s.domain s.number (entries_of s) ns m b gift own e (worlds_of s.replicas) c.in_ok-given.given s.copies c.in_ok-given.ensures.taken c.in_ok-given.ensures.given;
      same = tt;
      one = one_given (entries_of s) ns b m e;
    }
