use Rattle.std.proofs.Common.{◌+◌, ◌++◌, List, drop, sym, subst, ◌∙◌}
use Rattle.wave_outside.specs.MemoryFolders.{AreForks}
use Rattle.wave_outside.specs.declared.memory_folder.StoredFile.{StoredFile}
use Rattle.wave_outside.proofs.Files.{fork_of, one_fork, all_forked}
use Rattle.wave_outside.proofs.memory_folder.forked.Goals as goal

pub loop-file-init : goal.loop-file-init
loop-file-init c = subst (λ items. (rest : List StoredFile) → AreForks c.args.list.now rest → AreForks c.args.list.now (items ++ rest)) (sym c.new-files.ensures.items) (λ rest forks. forks)

pub loop-file-preserved : goal.loop-file-preserved
loop-file-preserved c =
    let l = c.loop-file in
    let file : StoredFile = record { name = c.in_ok-name.name; disk = c.in_ok-disk.disk } in
    let fork = fork_of c.file-item.result file (c.in_ok-name.ensures.ok ∙ c.as_str.ensures.value) c.in_ok-disk.ensures.seen c.in_ok-disk.ensures.synced in
    subst (λ items. (rest : List StoredFile) → AreForks (drop (l.file-index + 1) c.args.list.now) rest → AreForks c.args.list.now (items ++ rest)) (sym c.in_ok-push.ensures.items)
    (one_fork c.args.list.now l.files.items l.file-index c.file-item.result file c.loop-file-test.true c.file-item.is fork l.invariant)

pub returns : goal.returns
returns c = all_forked c.args.list.now c.loop-file.files.items c.loop-file.file-index c.loop-file-test.false c.loop-file.invariant
