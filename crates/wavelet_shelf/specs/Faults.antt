-- Why a shelf wasn't loaded.
--     damage_of e     the name of the file and the offset that it tells
use Rattle.std.specs.Prelude.{ℕ, List, Option, Some, None, string_bytes}
use Rattle.wavelet_shelf.specs.declared.fault.ShelfFault.{ShelfFault}
use Rattle.wavelet_shelf.specs.declared.fault.ShelfFault.TheVariants.{Damaged, Failed, Memory}

abbrev pub damage_of : ShelfFault → Option (List ℕ × ℕ)
damage_of (Damaged file offset) = Some (string_bytes file, offset)
damage_of Failed = None
damage_of Memory = None
