use Rattle.std.proofs.Common.{◌≢◌, ◌<◌, ◌^◌, ◌⊎◌, ℕ, map, take, length, string_bytes, IsSome, Err, true, ◌≡◌, sym, subst, arith}
use Rattle.wavelet_shelf.specs.FileNames.{file_name_of, is_file_name}
use Rattle.wavelet_shelf.specs.Folders.{IsLoading, IsSkipped, IsFileRead, IsFileStep}
use Rattle.wavelet_shelf.proofs.Reading.{taken_more, apart_at, before_at, all_at, there_still, not_before, looked_either, failed_all}
use Rattle.wavelet_shelf.proofs.Still.{still_on}
use Rattle.wavelet_shelf.proofs.load.load_all.Goals as goal

shorter : (n : ℕ) → n < 2 ^ 63 → n < 2 ^ 64
shorter n lt = omega (arith, lt)

pub look_at-requires-clause-there : goal.look_at-requires-clause-there
look_at-requires-clause-there g c told =
    let l = c.loop-name in
    let names = c.args.names.now in
    let item = c.name-item.result in
    let new = apart_at string_bytes names l.name-index item c.requires.distinct c.loop-name-test.true c.name-item.is in
    subst (λ m. IsSome (g.F.Folder.files l.folder m)) (sym c.as_str.ensures.value)
    (there_still g.F.Folder c.args.folder.now l.folder l.folder l.containers.map.entries l.containers.map.entries (map string_bytes (take l.name-index names)) (string_bytes item) new l.invariant.loading
    (λ t. all_at string_bytes (λ n. IsSome (g.F.Folder.files c.args.folder.now n)) names l.name-index item (c.requires.there t) c.loop-name-test.true c.name-item.is) told)

pub look_at-requires-clause-apart : goal.look_at-requires-clause-apart
look_at-requires-clause-apart g c n one =
    let l = c.loop-name in
    let names = c.args.names.now in
    let item = c.name-item.result in
    let new = apart_at string_bytes names l.name-index item c.requires.distinct c.loop-name-test.true c.name-item.is in
    subst (λ m. m ≢ file_name_of n) (sym c.as_str.ensures.value)
    (not_before g.F.Folder c.args.folder.now l.folder l.folder l.containers.map.entries l.containers.map.entries (map string_bytes (take l.name-index names)) (string_bytes item) new l.invariant.loading n one)

pub returns-in-Err-clause-step : goal.returns-in-Err-clause-step
returns-in-Err-clause-step g c =
    let l = c.loop-name in
    let names = c.args.names.now in
    let item = c.name-item.result in
    let new = apart_at string_bytes names l.name-index item c.requires.distinct c.loop-name-test.true c.name-item.is in
    let h = c.look_at.new.folder in
    let es = c.look_at.new.containers.map.entries in
    failed_all g.F.Folder c.args.folder.now l.folder h l.containers.map.entries es (map string_bytes (take l.name-index names)) (string_bytes item) new l.invariant.loading (map string_bytes names) c.in-Err.fault
    (subst (λ m. is_file_name m ≡ true) c.as_str.ensures.value c.in-Err.ensures.named)
    (λ k among less. before_at string_bytes names l.name-index item k c.requires.distinct c.loop-name-test.true c.name-item.is among less)
    (λ t. all_at string_bytes (λ n. IsSome (g.F.Folder.files c.args.folder.now n)) names l.name-index item (c.requires.there t) c.loop-name-test.true c.name-item.is)
    l.invariant.later
    (subst (λ m. IsFileStep g.F.Folder l.folder h m l.containers.map.entries es (Err c.in-Err.fault)) c.as_str.ensures.value c.in-Err.ensures.err)

pub returns-in-Err-clause-still : goal.returns-in-Err-clause-still
returns-in-Err-clause-still g c = still_on g.F.Folder c.args.folder.now c.loop-name.folder c.look_at.new.folder c.loop-name.invariant.still c.look_at.ensures.still

pub loop-name-preserved : goal.loop-name-preserved
loop-name-preserved g c =
    let l = c.loop-name in
    let names = c.args.names.now in
    let item = c.name-item.result in
    let new = apart_at string_bytes names l.name-index item c.requires.distinct c.loop-name-test.true c.name-item.is in
    let h = c.look_at.new.folder in
    let old = l.containers.map.entries in
    let es = c.look_at.new.containers.map.entries in
    let one = l.invariant.later in
    let two = c.look_at.ensures.later in
    record {
      room = c.look_at.ensures.room;
      loading = subst (IsLoading g.F.Folder c.args.folder.now h es) (sym (taken_more string_bytes names l.name-index item c.loop-name-test.true c.name-item.is))
          (looked_either g.F.Folder c.args.folder.now l.folder h old es (map string_bytes (take l.name-index names)) (string_bytes item) new l.invariant.loading c.file_named_once.ensures
          (λ told d. shorter (length (g.F.Disk.Disk.view d).seen) (g.met.F.Disk.Disk.bounded d told)) l.containers.in_order c.look_at.new.containers.in_order
          (subst (λ m. IsSkipped g.F.Folder l.folder h m old es ⊎ IsFileRead g.F.Folder l.folder h m old es) c.as_str.ensures.value c.in-Ok.ensures.ok));
      still = still_on g.F.Folder c.args.folder.now l.folder h l.invariant.still c.look_at.ensures.still;
      later = omega (arith, one, two);
    }
