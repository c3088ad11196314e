-- What sessions are told of a shelf is what they are told of its histories.
--     attached_of       in the answer to an `open`
--     delivered_of      in deliveries
--     after_of          and the session then
--     told_of           whether it was sent all
--     placed_of         where its deltas stand
use Rattle.std.proofs.Common.{◌≡◌, false, Option}
use Rattle.doc_items.specs.Maps.{Key}
use Rattle.wave_base.specs.Versions.{VersionAt}
use Rattle.disk_model.specs.declared.disk.Disk as disk_of
use Rattle.wave_outside.specs.declared.folder.Folder as folder_of
use Rattle.session_core.specs.declared.session.Session.{Session}
use Rattle.session_core.specs.Access.{Shown, shown}
use Rattle.session_core.specs.Answers.{attached}
use Rattle.session_core.specs.Current.{are_sent}
use Rattle.session_core.specs.Deliveries.{delivered, after_delivery}
use Rattle.session_core.specs.News.{IsPlaced}
use Rattle.session_core.specs.declared.news.News.{News}
use Rattle.wavelet_shelf.specs.Hosting.{names_of, copy_in, IsCopyOf}
use Rattle.wavelet_shelf.specs.Shelves.{hosted_of, copies_of, outcome_of}
use Rattle.wavelet_shelf.specs.declared.shelf.Shelf.{Shelf}
use Rattle.hosted_copies.specs.Shown.{shown_in}
use Rattle.hosted_copies.proofs.Alike.{attached_alike, delivered_alike, after_alike, told_alike, placed_alike}
use Rattle.hosted_copies.proofs.Showing.{same_shown}

module _ {F D : Type 0} {folder : folder_of.Ghosts F D} {disk : disk_of.Ghosts D} (s : Shelf F D folder disk) (copies : (n : Key) → IsCopyOf (copies_of s n) (copy_in (hosted_of s) n)) where
  -- as the shelf shows itself
  abbrev itself : Shown
  itself = shown (λ n. copies_of s n) (names_of (hosted_of s)) (λ _. false) (λ n i. outcome_of s n i)

  pub attached_of : (x : Session) (name : Key) (from : Option VersionAt) → attached itself x name from ≡ attached (shown_in (hosted_of s)) x name from
  attached_of x name from = attached_alike itself (shown_in (hosted_of s)) (same_shown s copies) x name from

  pub delivered_of : (x : Session) → delivered itself x ≡ delivered (shown_in (hosted_of s)) x
  delivered_of x = delivered_alike itself (shown_in (hosted_of s)) (same_shown s copies) x

  pub after_of : (x : Session) → after_delivery itself x ≡ after_delivery (shown_in (hosted_of s)) x
  after_of x = after_alike itself (shown_in (hosted_of s)) (same_shown s copies) x

  pub told_of : (x : Session) → are_sent itself x ≡ are_sent (shown_in (hosted_of s)) x
  told_of x = told_alike itself (shown_in (hosted_of s)) (same_shown s copies) x

  pub placed_of : (n : News) → IsPlaced itself n → IsPlaced (shown_in (hosted_of s)) n
  placed_of n p = placed_alike itself (shown_in (hosted_of s)) (same_shown s copies) n p
