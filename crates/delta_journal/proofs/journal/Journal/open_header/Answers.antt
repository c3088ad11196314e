use Rattle.std.proofs.Common.{◌≡◌, List, ℕ, ◌+◌, [], ◌∙◌, subst, arith}
use Rattle.disk_model.specs.Disk.{Kept}
use Rattle.disk_model.proofs.Moments.{weaker}
use Rattle.delta_journal.specs.File.{Closed, header}
use Rattle.delta_journal.specs.Shape.{Staged}
use Rattle.delta_journal.proofs.Puts.{put_moments, put_opened, put_stays}
use Rattle.delta_journal.proofs.Stages.{header_stands, opened-none, place_headed, shut_file, shut_none, shut_place}
use Rattle.delta_journal.proofs.journal.Journal.open_header.Goals as goal

pub returns-in_err-write_through-2-clause-any_moment : goal.returns-in_err-write_through-2-clause-any_moment
returns-in_err-write_through-2-clause-any_moment g c name records held =
    let old = c.args.self.now in
    let none = shut_none name records old held c.requires.shut in
    weaker _ _ _ _ (λ x at. header_stands name records x none at)
    (put_moments _ _ _ old.place [] (header name) _ (shut_file name records old held c.requires.shut) (shut_place name records old held c.requires.shut)
    (c.deref.ensures.value ∙ held.header) c.write_through.ensures.stays (c.in_ok-write_through.ensures.written held.told) c.write_through-2.ensures.stays)

pub returns-in_err-write_through-2-clause-held : goal.returns-in_err-write_through-2-clause-held
returns-in_err-write_through-2-clause-held g c name records held =
    let old = c.args.self.now in
    let place = shut_place name records old held c.requires.shut in
    let staged = (put_stays _ _ _ old.place [] (header name) _ (shut_file name records old held c.requires.shut) place
    (c.deref.ensures.value ∙ held.header) c.write_through.ensures.stays (c.in_ok-write_through.ensures.written held.told) c.write_through-2.ensures.stays).now in
    record {
      told = held.told;
      header = held.header;
      place = place;
      empty = shut_none name records old held c.requires.shut;
      block = tt;
      file = subst (λ (b : List ℕ). Kept (g.K.Disk.view c.write_through-2.new.disk) (Staged [] b)) (c.deref.ensures.value ∙ held.header) staged;
    }

pub returns-clause-any_moment : goal.returns-clause-any_moment
returns-clause-any_moment g c name records held =
    let old = c.args.self.now in
    let none = shut_none name records old held c.requires.shut in
    weaker _ _ _ _ (λ x at. header_stands name records x none at)
    (put_moments _ _ _ old.place [] (header name) _ (shut_file name records old held c.requires.shut) (shut_place name records old held c.requires.shut)
    (c.deref.ensures.value ∙ held.header) c.write_through.ensures.stays (c.in_ok-write_through.ensures.written held.told) c.write_through-2.ensures.stays)

pub returns-clause-held : goal.returns-clause-held
returns-clause-held g c name records held =
    let old = c.args.self.now in
    let none = shut_none name records old held c.requires.shut in
    let place = shut_place name records old held c.requires.shut in
    let behind = put_opened _ _ _ old.place [] (header name) _ (shut_file name records old held c.requires.shut) place
    (c.deref.ensures.value ∙ held.header) c.write_through.ensures.stays (c.in_ok-write_through.ensures.written held.told) c.write_through-2.ensures.stays (c.in_ok-write_through-2.ensures.written held.told) in
    let size : old.place + c.len.result ≡ c.len.result = omega (arith, place) in
    record {
      told = held.told;
      header = held.header;
      place = size ∙ c.len.ensures ∙ old.header.ok.0 ∙ place_headed name records old.header.items none held.header;
      empty = tt;
      block = tt;
      file = subst (λ (f : List ℕ). Kept (g.K.Disk.view c.write_through-2.new.disk) (Closed f)) (opened-none name records none) behind;
    }
