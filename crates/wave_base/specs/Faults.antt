-- What the fault of a parser says of the text, where `good` says whether the grammar has it.
--     IsAddressFault good e        the grammar of addresses or of domains
--     IsNameFault good e           the grammar of wavelet names or of ids
use Rattle.std.specs.Prelude.{Bool, true, false, ◌≡◌}
use Rattle.wave_base.specs.declared.fault.BaseFault.{BaseFault}
use Rattle.wave_base.specs.declared.fault.BaseFault.TheVariants.{BadAddress, BadName, Memory}

abbrev pub IsAddressFault : Bool → BaseFault → Type 0
IsAddressFault good BadAddress = good ≡ false
IsAddressFault good BadName = ⊥
IsAddressFault good Memory = good ≡ true

abbrev pub IsNameFault : Bool → BaseFault → Type 0
IsNameFault good BadAddress = ⊥
IsNameFault good BadName = good ≡ false
IsNameFault good Memory = good ≡ true
