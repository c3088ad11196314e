use Rattle.std.proofs.Common.{List, ap, subst, map, ◌∙◌}
use Rattle.wave_outside.specs.Folders.{Entry, FolderLog}
use Rattle.wave_outside.specs.MemoryFolders.{entry_of, AreForks}
use Rattle.wave_outside.proofs.Files.{same_names, alike_at, fork_names}
use Rattle.wave_outside.proofs.memory_folder.MemoryFolderFolder.another.Goals as goal

pub returns-clause-log : goal.returns-clause-log
returns-clause-log c told =
    let made : List Entry → FolderLog = λ es. record { entries = es; used = c.args.self.now.used } in
    ap made (c.in_ok-entered.ensures ∙ ap (map entry_of) c.as_slice-2.ensures.value)

pub returns-clause-files : goal.returns-clause-files
returns-clause-files c told m =
    let files = c.args.self.now.list.items in
    let forks = c.in_ok-list.list.items in
    alike_at files forks (subst (λ l. AreForks l forks) c.as_slice.ensures.value c.in_ok-list.ensures) m

pub returns-clause-room : goal.returns-clause-room
returns-clause-room c m =
    let files = c.args.self.now.list.items in
    let forks = c.in_ok-list.list.items in
    same_names files forks m (fork_names files forks (subst (λ l. AreForks l forks) c.as_slice.ensures.value c.in_ok-list.ensures))
