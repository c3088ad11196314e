use Rattle.std.proofs.Common.{◌≡◌, ◌∙◌, Some, None, rules, arith, refl, ap, sym, subst, inl, inr, map, string_bytes, IsTrue, true, false, true≢false}
use Rattle.command_words.specs.Commands.{command_in, needs_net, Pipe, Load}
use Rattle.command_words.specs.Shown.{shown}
use Rattle.wave_outside.specs.Counts.{Rose}
use Rattle.wave_program.specs.Edit.{IsClient, HasNetCause}
use Rattle.wave_program.specs.Net.{IsServer}
use Rattle.wave_program.specs.Services.{service_of}
use Rattle.wave_program.specs.Store.{entered_at}
use Rattle.wave_program.specs.Words.{IsOther, IsStoring}
use Rattle.wave_program.proofs.Completing.{nothing_run, memory_complete}
use Rattle.wave_program.proofs.Hosting.{local_status, none_counted, not_loaded, met_by}
use Rattle.wave_program.proofs.LoadWords.{load_bound, key_bound}
use Rattle.wave_program.proofs.Naming.{as_named, all_served, all_unless, all_where, all_over, all_but, all_entered, all_edited, all_same, not_done, not_unloaded, served_of, served_local, served_other, served_more, edited_of, edited_local, edited_other, not_local, not_service, not_named, no_service}
use Rattle.wave_program.proofs.Serving.{none_there, left_same}
use Rattle.wave_program.proofs.Storing.{never_read}
use Rattle.wave_program.proofs.top.run.Goals as goal

pub net_command-requires-clause-key : goal.net_command-requires-clause-key
net_command-requires-clause-key g c = λ user connect k named.
    let said : command_in c.args.words.now.items ≡ Some (shown c.in-Ok.command) = search rules in
    key_bound (map string_bytes c.args.words.now.items) user connect k (said ∙ ap (λ d. Some d) named)

pub obey-requires-clause-small : goal.obey-requires-clause-small
obey-requires-clause-small g c = λ n named.
    let said : command_in c.args.words.now.items ≡ Some (shown c.in-Ok.command) = search rules in
    load_bound (map string_bytes c.args.words.now.items) n (said ∙ ap (λ d. Some d) named)

-- a server or a client
pub returns-then-needs_net : goal.returns-then-needs_net
returns-then-needs_net g c =
    let o = command_in c.args.words.now.items in
    let named = shown c.in-Ok.command in
    let said : o ≡ Some named = search rules in
    let net : needs_net named ≡ true = search rules in
    let before = c.args.outside.now.server in
    let left = c.net_command.new.outside.server in
    let r = c.net_command.ensures in
    let run = served_of _ o named said r.run in
    let hosted = served_of _ o named said r.hosted in
    record {
      served = λ is. not_local o named (Pipe None) said net is refl;
      complete = λ is source sink. not_local o named (Pipe None) said net is refl;
      stored = λ path service is folder_tells tells. not_service o named (path, service) said net is;
      stored_complete = λ path service is folder_tells tells sound source sink folder. not_service o named (path, service) said net is;
      alone = λ never. r.alone (λ storing. never (subst IsStoring (sym said) storing));
      loaded = λ n is. not_local o named (Load n) said net is refl;
      load_unread = λ n is. not_local o named (Load n) said net is refl;
      load_complete = λ n is sink. not_local o named (Load n) said net is refl;
      net_served = served_more _ _ o (λ domain listen peers sessions store h. h.served) run;
      net_done = served_more _ _ o (λ domain listen peers sessions store h. h.counted) run;
      net_met = served_more _ _ o (λ domain listen peers sessions store h zero. met_by g.N.Link.Link domain peers (g.N.Net.back before.net) (g.N.Net.back left.net) (g.N.Net.line before.net) (g.N.Net.line left.net) left.ended.items (h.met zero)) run;
      net_dialled = served_more _ _ o (λ domain listen peers sessions store h. h.dialled) run;
      net_robots = served_more _ _ o (λ domain listen peers sessions store h. h.robots) run;
      net_plain = served_more _ _ o (λ domain listen peers sessions store h. h.plain) hosted;
      net_stored = served_more _ _ o (λ domain listen peers sessions store h. h.stored) hosted;
      net_unloaded = served_more _ _ o (λ domain listen peers sessions store h. h.unloaded) hosted;
      net_left = served_more _ _ o (λ domain listen peers sessions store h. h.left) hosted;
      net_entered = served_more _ _ o (λ domain listen peers sessions store h. h.entered) hosted;
      net_unread = served_of _ o named said r.source;
      net_silent = served_more _ _ o (λ domain listen peers sessions store h. h.silent) hosted;
      net_known = served_more _ _ o (λ domain listen peers sessions store h. h.known) hosted;
      net_failed = λ seven. subst (λ x. HasNetCause x (Rose (g.N.Net.door before.net) (g.N.Net.door left.net)) (Rose (g.N.Net.line before.net) (g.N.Net.line left.net))) (sym said) (r.net_failed seven);
      refused_start = r.refused;
      spent = r.spent;
      edited = edited_of _ o named said r.edited;
      unserved = edited_of _ o named said r.unserved;
      closed = λ eleven. subst IsClient (sym said) (r.closed eleven);
      robots_left = λ never. r.robots_left (λ server. never (subst IsServer (sym said) server));
      no_net = λ local. absurd (true≢false (sym net ∙ local named said));
      usage = λ two. absurd (r.known.1 two);
      refused = λ other. absurd (subst IsOther said other);
      unread = λ two. absurd (r.known.1 two);
      shown = λ two. absurd (r.known.1 two);
      source_failed = r.source_failed;
      sink_failed = r.sink_failed;
      store_failed = r.store_failed;
      damaged = λ six. subst IsStoring (sym said) (r.damaged six);
      known = r.known.0;
    }

-- a command that needs no net
pub returns-else-needs_net : goal.returns-else-needs_net
returns-else-needs_net g c =
    let o = command_in c.args.words.now.items in
    let named = shown c.in-Ok.command in
    let said : o ≡ Some named = search rules in
    let local : needs_net named ≡ false = search rules in
    let none = c.requires.empty in
    let r = c.obey.ensures in
    let status = local_status c.obey.result r.known in
    record {
      served = λ is. r.served (as_named o named (Pipe None) said is);
      complete = λ is source sink. r.complete (as_named o named (Pipe None) said is) source sink;
      stored = λ path service is folder_tells tells. r.stored path service (subst (λ x. service_of x ≡ Some (path, service)) said is) folder_tells tells;
      stored_complete = λ path service is folder_tells tells sound source sink folder. r.stored_complete path service (subst (λ x. service_of x ≡ Some (path, service)) said is) folder_tells tells sound source sink folder;
      alone = λ never. r.alone (λ storing. never (subst IsStoring (sym said) storing));
      loaded = λ n is. r.loaded n (as_named o named (Load n) said is);
      load_unread = λ n is. r.load_unread n (as_named o named (Load n) said is);
      load_complete = λ n is sink. r.load_complete n (as_named o named (Load n) said is) sink;
      net_served = served_local _ o named said local;
      net_done = served_local _ o named said local;
      net_met = served_local _ o named said local;
      net_dialled = served_local _ o named said local;
      net_robots = served_local _ o named said local;
      net_plain = served_local _ o named said local;
      net_stored = served_local _ o named said local;
      net_unloaded = served_local _ o named said local;
      net_left = served_local _ o named said local;
      net_entered = served_local _ o named said local;
      net_unread = served_local _ o named said local;
      net_silent = served_local _ o named said local;
      net_known = served_local _ o named said local;
      net_failed = λ seven. absurd (status.1 seven);
      refused_start = λ nine. absurd (status.2 nine);
      spent = (λ twelve. absurd (status.4 twelve), λ some. absurd (true≢false (sym some ∙ none.1)));
      edited = edited_local _ o named said local;
      unserved = edited_local _ o named said local;
      closed = λ eleven. absurd (status.3 eleven);
      robots_left = λ never. refl;
      no_net = λ locals. refl;
      usage = λ two. absurd (status.0 two);
      refused = λ other. absurd (subst IsOther said other);
      unread = λ two. absurd (status.0 two);
      shown = λ two. absurd (status.0 two);
      source_failed = r.source_failed;
      sink_failed = r.sink_failed;
      store_failed = r.store_failed;
      damaged = λ six. subst IsStoring (sym said) (r.damaged six);
      known = elim r.known [ inl e ↦ inl e | inr e ↦ inr (inr (inl e)) ];
    }

-- other words
pub returns-in-Err-Usage : goal.returns-in-Err-Usage
returns-in-Err-Usage g c =
    let o = command_in c.args.words.now.items in
    let other : o ≡ None = search rules in
    let none = c.requires.empty in
    record {
      served = λ is. not_named o (Pipe None) other is;
      complete = λ is source sink. not_named o (Pipe None) other is;
      stored = λ path service is folder_tells tells. no_service o (path, service) other is;
      stored_complete = λ path service is folder_tells tells sound source sink folder. no_service o (path, service) other is;
      alone = λ never. refl;
      loaded = λ n is. not_named o (Load n) other is;
      load_unread = λ n is. not_named o (Load n) other is;
      load_complete = λ n is sink. not_named o (Load n) other is;
      net_served = served_other _ o other;
      net_done = served_other _ o other;
      net_met = served_other _ o other;
      net_dialled = served_other _ o other;
      net_robots = served_other _ o other;
      net_plain = served_other _ o other;
      net_stored = served_other _ o other;
      net_unloaded = served_other _ o other;
      net_left = served_other _ o other;
      net_entered = served_other _ o other;
      net_unread = served_other _ o other;
      net_silent = served_other _ o other;
      net_known = served_other _ o other;
      net_failed = λ seven. absurd (omega (arith, seven));
      refused_start = λ nine. absurd (omega (arith, nine));
      spent = (λ twelve. absurd (omega (arith, twelve)), λ some. absurd (true≢false (sym some ∙ none.1)));
      edited = edited_other _ o other;
      unserved = edited_other _ o other;
      closed = λ eleven. absurd (omega (arith, eleven));
      robots_left = λ never. refl;
      no_net = λ locals. refl;
      usage = λ two. subst IsOther (sym other) tt;
      refused = λ others. inl refl;
      unread = λ two. refl;
      shown = λ two. c.write_usage.ensures;
      source_failed = λ three. absurd (omega (arith, three));
      sink_failed = λ four. absurd (omega (arith, four));
      store_failed = λ five. absurd (omega (arith, five));
      damaged = λ six. absurd (omega (arith, six));
      known = inr (inl refl);
    }

-- there was no memory to read them
pub returns-in-Err-Memory : goal.returns-in-Err-Memory
returns-in-Err-Memory g c =
    let o = command_in c.args.words.now.items in
    let none = c.requires.empty in
    let old = c.args.outside.now in
    let passes = old.server.passes in
    let left = g.S.Source.left old.source in
    let held = g.W.Sink.written old.sink in
    record {
      served = λ is. nothing_run g.C.Clock _ old.clock left held;
      complete = λ is source sink. memory_complete left held _ 8 refl refl;
      stored = λ path service is folder_tells tells. inr (refl, never_read g.F.Folder g.F.Disk.Disk g.C.Clock _ old.folder old.folder held _ _ 8 (inr refl) (λ m. refl) (inr (refl, refl)));
      stored_complete = λ path service is folder_tells tells sound source sink folder. memory_complete left held _ 8 refl refl;
      alone = λ never. refl;
      loaded = λ n is. not_loaded n held;
      load_unread = λ n is. refl;
      load_complete = λ n is sink. inr refl;
      net_served = all_served _ o (λ domain listen peers sessions store. none_there passes _ none.2);
      net_done = all_served _ o (λ domain listen peers sessions store. none_counted sessions _ _ _);
      net_met = all_unless _ _ o not_done;
      net_dialled = all_unless _ _ o not_done;
      net_robots = all_unless _ _ o not_done;
      net_plain = all_where _ _ o (λ domain listen peers sessions store. none_there passes _ none.2);
      net_stored = all_over _ _ _ o (λ domain listen peers sessions path. none_there passes _ none.2);
      net_unloaded = all_but _ _ _ _ o not_unloaded;
      net_left = all_served _ o (λ domain listen peers sessions store folder_tells tells unseen. left_same g.F.Folder g.F.Disk.Disk old.folder);
      net_entered = all_entered g.F.Folder (IsTrue g.F.Folder.tells) (λ path. entered_at g.F.Folder path old.folder) old.folder o;
      net_unread = all_served _ o (λ domain listen peers sessions store. refl);
      net_silent = all_where _ _ o (λ domain listen peers sessions store. refl);
      net_known = all_served _ o (λ domain listen peers sessions store. inl (inr (inr (inl refl))));
      net_failed = λ seven. absurd (omega (arith, seven));
      refused_start = λ nine. absurd (omega (arith, nine));
      spent = (λ twelve. absurd (omega (arith, twelve)), λ some. absurd (true≢false (sym some ∙ none.1)));
      edited = all_edited _ o (λ user client connect. inr (refl, (refl, record { known = inr refl; back = refl; asked = λ tells. inr (refl, refl) })));
      unserved = all_same _ _ _ o;
      closed = λ eleven. absurd (omega (arith, eleven));
      robots_left = λ never. refl;
      no_net = λ locals. refl;
      usage = λ two. absurd (omega (arith, two));
      refused = λ others. inr refl;
      unread = λ two. absurd (omega (arith, two));
      shown = λ two. absurd (omega (arith, two));
      source_failed = λ three. absurd (omega (arith, three));
      sink_failed = λ four. absurd (omega (arith, four));
      store_failed = λ five. absurd (omega (arith, five));
      damaged = λ six. absurd (omega (arith, six));
      known = inl (inr (inr (inr (inr (inl refl)))));
    }
