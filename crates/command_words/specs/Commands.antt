-- The words of the program.
--     option_rule, word_rule      an option with a value, as `--store DIR`;  a word that must be there
--     flag_rule                   an option without a value, as `--echo`
--     pipe, load, play, inbox     commands, as clap has them
--     door, serve                 the options that say for whom a server speaks, where, and with which others;  with the rest
--     writer, edit                the options that say who types;  with the address
--     plain_top, storeless, storing, serving, wave     the program: the commands that need no store, with those that need one, with
--                                 that of a server, with all
--     digits limit n cs           the number that goes on with these digits, up to the limit
--     number limit text           decimal digits without a sign or a leading zero, up to the limit
--     max_load, max_sessions, max_client      the greatest numbers of `load`, of `--sessions` and of `--client`
--     session_number text         a number of sessions, from 1 on
--     client_key text             the key of a client
--     checked good v              a value, where there is one and it is good
--     given v                     a value, where there is one and it isn't empty and doesn't begin with `-`
--     perhaps read v              what a value is read as, where there is one; None where it can't be read
--     folder v                    a value as a folder
--     flag v                      whether an option without a value is there; clap gives it the value `true` or `false`
--     both a b                    two values, where there are both
--     host l d ps                 where a server listens, its domain and the servers of others (`Peers`)
--     paired make a b             what is made of two values, where there are both
--     CommandOf                   a command
--     needs_net c                 it is one over a net
--     is_cut words                a word stands after `--`
--     accepted words              the command by clap and by the values
--     command_of words            the command that the words name; None where they name none
--     command_in words            the command that these strings name
use Rattle.std.specs.Prelude.{ℕ, ◌+◌, ◌-◌, ◌*◌, ◌==◌, ◌&&◌, ◌||◌, nat_le, not, Bool, true, false, cond, List, [], ◌∷◌, Option, Some, None, codes, map, option_and_then, String, string_bytes}
use Rattle.std.specs.Option.{option_map}
use Rattle.std.specs.Cmp.Lexicographic.{pointwise}
use Rattle.std.specs.Global.{Global}
use Rattle.clap.specs.Words.{App, Rule, Shape, Text, new_app, new_rule, with_rule, with_subcommand, first_of, subcommand_of}
use Rattle.clap.specs.Simple.{on_top}
use Rattle.clap.specs.Walk.{Row, is_empty}
use Rattle.clap.specs.Faults.{fault_of}
use Rattle.clap.specs.declared.builder.action.ArgAction.TheVariants.{Set, SetTrue}
use Rattle.wave_base.specs.Grammar.{is_address, is_domain, is_wavelet_name}
use Rattle.command_words.specs.Values.{is_value}
use Rattle.command_words.specs.Peers.{Peer, peers_by}

-- ---- as clap has them

abbrev pub option_rule : Text → Bool → Rule
option_rule name needed = record (new_rule name) { long = Some name; action = Some Set; required = needed }

abbrev pub flag_rule : Text → Rule
flag_rule name = record (new_rule name) { long = Some name; action = Some SetTrue }

abbrev pub word_rule : Text → Rule
word_rule name = record (new_rule name) { required = true }

abbrev pub pipe : App
pipe = with_rule (new_app (codes "pipe")) (option_rule (codes "store") false)

abbrev pub load : App
load = with_rule (new_app (codes "load")) (word_rule (codes "count"))

abbrev pub play : App
play = with_rule (with_rule (new_app (codes "play")) (option_rule (codes "store") true)) (option_rule (codes "wavelet") true)

abbrev pub inbox : App
inbox = with_rule (with_rule (new_app (codes "inbox")) (option_rule (codes "store") true)) (option_rule (codes "user") true)

abbrev pub door : App
door = with_rule (with_rule (with_rule (new_app (codes "serve")) (option_rule (codes "domain") true)) (option_rule (codes "listen") true))
    (option_rule (codes "peer") false)

abbrev pub serve : App
serve = with_rule (with_rule (with_rule door (option_rule (codes "sessions") false)) (option_rule (codes "store") false))
    (flag_rule (codes "echo"))

abbrev pub writer : App
writer = with_rule (with_rule (new_app (codes "edit")) (option_rule (codes "user") true)) (option_rule (codes "client") true)

abbrev pub edit : App
edit = with_rule writer (option_rule (codes "connect") true)

abbrev pub plain_top : Shape → Shape
plain_top s = record s {
  no_binary_name = true;
  disable_help_flag = true;
  disable_help_subcommand = true;
  disable_version_flag = true;
  subcommand_required = true;
}

-- with the commands that need no store
abbrev pub storeless : App
storeless = with_subcommand (with_subcommand (on_top plain_top (new_app (codes "wave"))) pipe.top) load.top

-- with those that need one
abbrev pub storing : App
storing = with_subcommand (with_subcommand storeless play.top) inbox.top

abbrev pub serving : App
serving = with_subcommand storing serve.top

abbrev pub wave : App
wave = with_subcommand serving edit.top

-- ---- values

abbrev pub is_digit : ℕ → Bool
is_digit c = nat_le 48 c && nat_le c 57

abbrev pub digits : ℕ → ℕ → List ℕ → Option ℕ
digits limit n [] = Some n
digits limit n (c ∷ cs) = cond (is_digit c && nat_le (n * 10 + (c - 48)) limit) (digits limit (n * 10 + (c - 48)) cs) None

abbrev pub number : ℕ → List ℕ → Option ℕ
number limit [] = None
number limit (c ∷ []) = digits limit 0 (c ∷ [])
number limit (c ∷ d ∷ cs) = cond (c == 48) None (digits limit 0 (c ∷ d ∷ cs))

abbrev pub max_load : ℕ
max_load = 100000

abbrev pub max_sessions : ℕ
max_sessions = 1000000

abbrev pub max_client : ℕ
max_client = 9007199254740991

abbrev pub from_one : ℕ → Option ℕ
from_one n = cond (n == 0) None (Some n)

abbrev pub session_number : List ℕ → Option ℕ
session_number text = option_and_then from_one (number max_sessions text)

abbrev pub client_key : List ℕ → Option ℕ
client_key text = number max_client text

-- ---- commands

pub data CommandOf : Type 0 where
  Pipe : Option (List ℕ) → CommandOf
  Load : ℕ → CommandOf
  Play : List ℕ → List ℕ → CommandOf
  Inbox : List ℕ → List ℕ → CommandOf
  Serve : List ℕ → List ℕ → List Peer → Option ℕ → Option (List ℕ) → Bool → CommandOf
  Edit : List ℕ → ℕ → List ℕ → CommandOf

abbrev pub needs_net : CommandOf → Bool
needs_net (Pipe store) = false
needs_net (Load n) = false
needs_net (Play store wavelet) = false
needs_net (Inbox store user) = false
needs_net (Serve domain listen peers sessions store echo) = true
needs_net (Edit user client connect) = true

abbrev pub loaded : Option (List ℕ) → Option CommandOf
loaded None = None
loaded (Some text) = option_map Load (number max_load text)

abbrev pub checked : (List ℕ → Bool) → Option (List ℕ) → Option (List ℕ)
checked good None = None
checked good (Some v) = cond (is_value v && good v) (Some v) None

abbrev pub given : Option (List ℕ) → Option (List ℕ)
given v = checked (λ _. true) v

abbrev pub perhaps : {X : Type 0} → (List ℕ → Option X) → Option (List ℕ) → Option (Option X)
perhaps read None = Some None
perhaps read (Some v) = option_map Some (read v)

abbrev pub folder : List ℕ → Option (List ℕ)
folder v = given (Some v)

abbrev pub stored : Option (List ℕ) → Option CommandOf
stored store = option_map Pipe (perhaps folder store)

abbrev pub flag : Option (List ℕ) → Bool
flag None = false
flag (Some v) = pointwise ◌==◌ v (codes "true")

abbrev pub both : {X Y : Type 0} → Option X → Option Y → Option (X × Y)
both None b = None
both (Some a) None = None
both (Some a) (Some b) = Some (a, b)

abbrev pub paired : {X Y : Type 0} → (X → Y → CommandOf) → Option X → Option Y → Option CommandOf
paired make a b = option_map (λ p. make p.0 p.1) (both a b)

abbrev pub played : Option (List ℕ) → Option (List ℕ) → Option CommandOf
played store wavelet = paired Play (given store) (checked is_wavelet_name wavelet)

abbrev pub inboxed : Option (List ℕ) → Option (List ℕ) → Option CommandOf
inboxed store user = paired Inbox (given store) (checked is_address user)

abbrev pub host : (listen domain peers : Option (List ℕ)) → Option (List ℕ × List ℕ × List Peer)
host listen domain peers = option_and_then (λ d. option_map (λ ps. (d.0, d.1, ps)) (peers_by d.1 peers))
    (both (given listen) (checked is_domain domain))

abbrev pub served : (listen domain peers sessions store : Option (List ℕ)) → (echo : Bool) → Option CommandOf
served listen domain peers sessions store echo = paired (λ h b. Serve h.1 h.0 h.2 b.0 b.1 echo) (host listen domain peers)
    (both (perhaps session_number sessions) (perhaps folder store))

abbrev pub served_by : List Row → Option CommandOf
served_by r = served (first_of (codes "listen") r) (first_of (codes "domain") r) (first_of (codes "peer") r)
    (first_of (codes "sessions") r) (first_of (codes "store") r) (flag (first_of (codes "echo") r))

abbrev pub edited : (connect user client : Option (List ℕ)) → Option CommandOf
edited connect user client = paired (λ w k. Edit w.1 k w.0) (both (given connect) (checked is_address user))
    (option_and_then client_key client)

abbrev pub edited_by : List Row → Option CommandOf
edited_by r = edited (first_of (codes "connect") r) (first_of (codes "user") r) (first_of (codes "client") r)

abbrev pub named_net : List ℕ × List Row → Option CommandOf
named_net p = cond (pointwise ◌==◌ p.0 (codes "edit")) (edited_by p.1) (served_by p.1)

abbrev pub named_past : List ℕ × List Row → Option CommandOf
named_past p = cond (pointwise ◌==◌ p.0 (codes "play")) (played (first_of (codes "store") p.1) (first_of (codes "wavelet") p.1))
    (cond (pointwise ◌==◌ p.0 (codes "inbox")) (inboxed (first_of (codes "store") p.1) (first_of (codes "user") p.1)) (named_net p))

abbrev pub named : List ℕ × List Row → Option CommandOf
named p = cond (pointwise ◌==◌ p.0 (codes "pipe")) (stored (first_of (codes "store") p.1))
    (cond (pointwise ◌==◌ p.0 (codes "load")) (loaded (first_of (codes "count") p.1)) (named_past p))

abbrev pub is_none : List Text → Bool
is_none [] = true
is_none (w ∷ words) = false

abbrev pub is_cut : List Text → Bool
is_cut [] = false
is_cut (w ∷ words) = (pointwise ◌==◌ w (codes "--") && not (is_none words)) || is_cut words

abbrev pub accepted : List Text → Option CommandOf
accepted words = cond (is_empty (fault_of wave words)) (option_and_then named (subcommand_of wave words)) None

abbrev pub command_of : List Text → Option CommandOf
command_of words = cond (is_cut words) None (accepted words)

abbrev pub command_in : List (String Global) → Option CommandOf
command_in words = command_of (map string_bytes words)
