use Rattle.std.proofs.Common.{List, ℕ, ◌+◌, ap, ◌∙◌, subst}
use Rattle.disk_model.specs.Disk.{Kept}
use Rattle.disk_model.proofs.Moments.{weaker}
use Rattle.delta_journal.specs.File.{Closed, framed, opened}
use Rattle.delta_journal.specs.Shape.{Staged}
use Rattle.delta_journal.specs.Stage.{record_in}
use Rattle.delta_journal.specs.Journal.{IsJournal, WhereHeld}
use Rattle.delta_journal.proofs.Puts.{put_moments, put_opened, put_stays}
use Rattle.delta_journal.proofs.Stages.{headed_file, headed_place, on_err, opened-push, place_after, record_stands}
use Rattle.delta_journal.proofs.journal.Journal.add.Goals as goal

pub returns-in_err-write_through-2-clause-any_moment : goal.returns-in_err-write_through-2-clause-any_moment
returns-in_err-write_through-2-clause-any_moment g c name records held =
    let old = c.args.self.now in
    weaker _ _ _ _ (λ x at. record_stands name records (record_in c.args.block.items) x at)
    (put_moments _ _ _ old.place (opened name records) (framed (record_in c.args.block.items)) _ (headed_file name records old held c.requires.headed)
    (headed_place name records old held c.requires.headed) (c.deref.ensures.value ∙ c.requires.block) c.write_through.ensures.stays (c.in_ok-write_through.ensures.written held.told) c.write_through-2.ensures.stays)

pub returns-in_err-write_through-2-clause-err : goal.returns-in_err-write_through-2-clause-err
returns-in_err-write_through-2-clause-err g c =
    let old = c.args.self.now in
    let after : WhereHeld old (λ name records. IsJournal name records _) = λ name records held.
    let place = headed_place name records old held c.requires.headed in
    let staged = (put_stays _ _ _ old.place (opened name records) (framed (record_in c.args.block.items)) _ (headed_file name records old held c.requires.headed)
    place (c.deref.ensures.value ∙ c.requires.block) c.write_through.ensures.stays (c.in_ok-write_through.ensures.written held.told) c.write_through-2.ensures.stays).now in
    record {
      told = held.told;
      header = held.header;
      place = place;
      empty = tt;
      block = c.requires.block;
      file = subst (λ (b : List ℕ). Kept (g.K.Disk.view c.write_through-2.new.disk) (Staged (opened name records) b)) c.deref.ensures.value staged;
    } in
    on_err _ after

pub returns-clause-any_moment : goal.returns-clause-any_moment
returns-clause-any_moment g c name records held =
    let old = c.args.self.now in
    weaker _ _ _ _ (λ x at. record_stands name records (record_in c.args.block.items) x at)
    (put_moments _ _ _ old.place (opened name records) (framed (record_in c.args.block.items)) _ (headed_file name records old held c.requires.headed)
    (headed_place name records old held c.requires.headed) (c.deref.ensures.value ∙ c.requires.block) c.write_through.ensures.stays (c.in_ok-write_through.ensures.written held.told) c.write_through-2.ensures.stays)

pub returns-clause-ok : goal.returns-clause-ok
returns-clause-ok g c name records held =
    let old = c.args.self.now in
    let place = headed_place name records old held c.requires.headed in
    let behind = put_opened _ _ _ old.place (opened name records) (framed (record_in c.args.block.items)) _ (headed_file name records old held c.requires.headed)
    place (c.deref.ensures.value ∙ c.requires.block) c.write_through.ensures.stays (c.in_ok-write_through.ensures.written held.told) c.write_through-2.ensures.stays (c.in_ok-write_through-2.ensures.written held.told) in
    record {
      told = held.told;
      header = held.header;
      place = ap (λ (n : ℕ). old.place + n) (c.len-size.ensures ∙ c.args.block.ok.0) ∙ place_after name records c.args.block.items old.place place c.requires.block;
      empty = tt;
      block = tt;
      file = subst (λ (f : List ℕ). Kept (g.K.Disk.view c.write_through-2.new.disk) (Closed f)) (opened-push name records (record_in c.args.block.items)) behind;
    }
