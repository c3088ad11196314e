-- A shelf, over any folder and disk that may go to another thread.
--     shelf_send, shelf_sync
use denote.RattleType.{RattleType}
use denote.Param.Send.{IsSend, IsSync, sendable}
use denote.Param.SendFields.{declared_send, declared_sync, as_row_send, as_row_sync}
use Rattle.std.specs.contracts.hash.BuildHasherDefault as builder
use Rattle.std.specs.contracts.hash.FoldHasher as fold
use Rattle.std.proofs.Crossing.{crosses}
use Rattle.std.proofs.MapsCrossing as maps
use Rattle.disk_model.specs.declared.disk.Disk as disk
use Rattle.wave_outside.specs.declared.folder.Folder as folder
use Rattle.wavelet_shelf.specs.contracts.shelf.Shelf as shelf
use Rattle.wavelet_shelf.specs.contracts.containers.Containers as containers
use Rattle.wavelet_shelf.specs.contracts.filed.Filed as filed
use Rattle.wave_base.specs.contracts.wavelet_name.WaveletName as name
use Rattle.thread_safety.proofs.Operations.{name_send, name_sync}
use Rattle.thread_safety.proofs.Containers.{container_send, container_sync}
use Rattle.thread_safety.proofs.Tables.{index_field_send, index_field_sync}

abbrev hashing : RattleType
hashing = builder.the_row fold.the_row

hashing_send : IsSend hashing
hashing_send = search sendable depth 20

hashing_sync : IsSync hashing
hashing_sync = search sendable depth 20

module _ (K : RattleType) (g : disk.Ghosts K.Denot) where
  filed_send : IsSend K → IsSend (filed.the_row K g)
  filed_send k = let c = container_send K g k in
      declared_send (filed.the_type K g) (search (sendable, as_row_send, crosses, maps.crosses, c) depth 40)

  filed_sync : IsSync K → IsSync (filed.the_row K g)
  filed_sync k = let c = container_sync K g k in
      declared_sync (filed.the_type K g) (search (sendable, as_row_sync, crosses, maps.crosses, c) depth 40)

  containers_send : IsSend K → IsSend (containers.the_row K g)
  containers_send k = declared_send (containers.the_type K g)
      (index_field_send name.the_row (filed.the_row K g) hashing fold.the_row _ _ _ _ name_send (filed_send k) hashing_send, (search (sendable, as_row_send), tt))

  containers_sync : IsSync K → IsSync (containers.the_row K g)
  containers_sync k = declared_sync (containers.the_type K g)
      (index_field_sync name.the_row (filed.the_row K g) hashing fold.the_row _ _ _ _ name_sync (filed_sync k) hashing_sync, (search (sendable, as_row_sync), tt))

module _ (F K : RattleType) (f : folder.Ghosts F.Denot K.Denot) (g : disk.Ghosts K.Denot) where
  pub shelf_send : IsSend F → IsSend K → IsSend (shelf.the_row F K f g)
  shelf_send s k = let c = containers_send K g k in
      declared_send (shelf.the_type F K f g) (search (sendable, as_row_send, crosses, s, c) depth 40)

  pub shelf_sync : IsSync F → IsSync K → IsSync (shelf.the_row F K f g)
  shelf_sync s k = let c = containers_sync K g k in
      declared_sync (shelf.the_type F K f g) (search (sendable, as_row_sync, crosses, s, c) depth 40)
