-- The words of a run.
--     usage        the usage text
--     IsOther c    words that name no command
--     folder_of c  the folder that a command names
--     IsStoring c  one that names a folder
use Rattle.std.specs.Prelude.{ℕ, List, Option, Some, None, IsSome, codes}
use Rattle.command_words.specs.Commands.{CommandOf, Pipe, Load, Play, Inbox, Serve, Edit}

abbrev pub usage : List ℕ
usage = codes "usage: wave pipe [--store DIR]\n       wave serve --domain D --listen A [--peer D=A[,D=A]...] [--sessions N] [--store DIR] [--echo]\n       wave edit --user U --client K --connect A\n       wave load N\n       wave play --store DIR --wavelet W\n       wave inbox --store DIR --user U\n"

abbrev pub IsOther : Option CommandOf → Type 0
IsOther None = Unit {0}
IsOther (Some c) = ⊥

abbrev pub folder_of : Option CommandOf → Option (List ℕ)
folder_of None = None
folder_of (Some (Pipe folder)) = folder
folder_of (Some (Load n)) = None
folder_of (Some (Play folder wavelet)) = Some folder
folder_of (Some (Inbox folder user)) = Some folder
folder_of (Some (Serve domain listen peers sessions folder echo)) = folder
folder_of (Some (Edit user client connect)) = None

abbrev pub IsStoring : Option CommandOf → Type 0
IsStoring c = IsSome (folder_of c)
