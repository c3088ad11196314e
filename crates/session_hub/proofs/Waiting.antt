-- What a copy has of an id before a submission of it.
--     standing_there, standing_none     by the copy of the name, and where there is none
use Rattle.std.proofs.Common.{◌≡◌, Some, None, refl, sym, subst}
use Rattle.std.specs.FinMap.{get}
use Rattle.doc_items.specs.Maps.{Key}
use Rattle.wave_base.specs.Versions.{IdOf}
use Rattle.replica_store.specs.Copies.{CopyOf}
use Rattle.replica_store.specs.Worlds.{WorldOf, world_of, Copies, worlds_of}
use Rattle.replica_store.proofs.Stored.{world_there, world_none}
use Rattle.session_hub.specs.Standings.{IsNewIn, IsStandingIn, IsNew, IsStanding}
use Rattle.session_hub.specs.declared.queueing.Standing.{Standing}

module _ (m : Copies) (n : Key) (i : IdOf) where
  pub standing_there : (c : CopyOf) (s : Standing) → Some c ≡ get m n → c.history.name ≡ n → IsStandingIn c.history.name (world_of c) i s → IsStanding (worlds_of m) n i s
  standing_there c s there named is = subst (λ (z : Key × WorldOf). IsStandingIn z.0 z.1 i s) (λ j. (named j, sym (world_there m n c (sym there)) j)) is

  pub standing_none : None ≡ get m n → IsNew (worlds_of m) n i
  standing_none none = subst (λ (w : WorldOf). IsNewIn n w i) (sym (world_none m n (sym none))) (record { unkept = refl; absent = refl; unwaited = refl })
