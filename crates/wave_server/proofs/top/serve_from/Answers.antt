use Rattle.std.proofs.Common.{rules, ◌≡◌, ◌∙◌, ℕ, true, is_some, Some, refl, arith, sym, subst}
use Rattle.std.proofs.lemmas.List.{nil_from_length}
use Rattle.std.specs.Arc.{arc_value}
use Rattle.wave_outside.specs.Counts.{Rose}
use Rattle.robot_host.specs.Hosts.{host_by}
use Rattle.peer_rounds.specs.Peers.{SpeakFor, links, names}
use Rattle.peer_rounds.specs.Stands.{AreDialled}
use Rattle.shard_marks.specs.Passes.{marks_of}
use Rattle.session_hub.specs.Hubs.{server_of}
use Rattle.wave_server.specs.Meeting.{HasMet}
use Rattle.wave_server.proofs.Accepting.{has_counted}
use Rattle.wave_server.proofs.Attending.{ready_new}
use Rattle.wave_server.proofs.Ending.{begins_self, ended_well, at_door, at_start, spent_as, status_known}
use Rattle.wave_server.proofs.Going.{served_back}
use Rattle.wave_server.proofs.Meetings.{has_met, names_length, same_length}
use Rattle.wave_server.proofs.top.serve_from.Goals as goal
use Rattle.wave_server.proofs.top.serve_from.Goals.{in-Some, in-None}

pub serve_all-end-requires-clause-empty : goal.serve_all-end-requires-clause-empty
serve_all-end-requires-clause-empty g c =
    (nil_from_length c.args.server.now.ended.items (omega (arith, c.args.server.now.ended.ok, c.requires.empty.0)), c.requires.empty.0, c.requires.empty.1)

pub serve_all-end-requires-clause-ready : goal.serve_all-end-requires-clause-ready
serve_all-end-requires-clause-ready g c =
    ready_new (host_by (λ b. (goal.Robot-dyn g (b.vtable, b.value)).calls b.value) c.args.robots.now) c.requires.new (arc_value c.args.hub.now).domain (marks_of c.args.passes)

-- the links of peers are put back, and what ended the server is its status
pub returns : goal.returns
returns g c =
    let hub = arc_value c.args.hub.now in
    let all = c.serve_all-end.ensures in
    let r = c.serve_all-end.result in
    let status = c.status_of.result in
    let ok = c.status_of.ensures.ok in
    let err = c.status_of.ensures.err in
    let left = c.serve_all-end.new.server in
    let passes = c.serve_all-end.new.passes in
    let ps = c.serve_all-end.new.peers.list.items in
    let before = g.N.Net.back c.args.server.now.net in
    let line = g.N.Net.line c.args.server.now.net in
    let kept = elim c.match-sessions.branch as (λ _. c.match-sessions.most.1 ≡ true → c.args.sessions ≡ Some c.match-sessions.most.0) [ in-Some w ↦ search rules | in-None w ↦ search rules ] in
    let whole = elim c.match-sessions.branch as (λ _. (n : ℕ) → c.args.sessions ≡ Some n → c.match-sessions.most.0 ≡ n) [ in-Some w ↦ search rules | in-None w ↦ search rules ] in
    record {
      run = record {
        served = served_back g.N.Link.Link (server_of hub) (marks_of passes) (marks_of passes) (begins_self passes) _ _ before (g.N.Net.back left.net) (g.N.Net.back c.close.new.net) _
            (links ps, sym c.close.ensures.back) (λ n. n) all.served;
        counted = has_counted r c.args.sessions c.match-sessions.most.0 status _ (g.N.Net.accepted c.args.server.now.net) _ _ c.match-sessions.most.1 true err kept whole all.all refl c.close.ensures.same.1 all.accepted;
        met = λ zero.
            let met = ended_well r status err zero all.met in
            let speak = subst (SpeakFor hub.domain) (sym all.named) c.requires.speak in
            subst (λ n. HasMet g.N.Link.Link before (g.N.Net.back c.close.new.net) line (g.N.Net.line c.close.new.net) hub.domain n left.ended.items)
            (same_length ps c.args.peers.list.items all.named ∙ sym (names_length c.args.peers.list.items))
            (has_met g.N.Link.Link (server_of hub) (marks_of passes) _ hub.domain _ _ _ (links ps) _ _ _ left.ended.items ps c.close.ensures.back c.close.ensures.rises
            all.served met (c.close.ensures.come hub.domain met.from speak met.reached));
        dialled = λ zero told.
            let dialled = ended_well r status err zero all.dialled told in
            subst (λ asked. AreDialled asked (names c.args.peers.list.items)) (sym (c.close.ensures.asked told)) (subst (AreDialled (g.N.Net.asked left.net)) all.named dialled);
        robots = λ zero. ended_well r status err zero all.robots;
        door = λ seven. subst (Rose (g.N.Net.door c.args.server.now.net)) (sym c.close.ensures.same.0) (at_door r status ok err all.door seven);
        refused = at_start r status ok err all.refused;
        spent = spent_as r status (is_some left.spent) ok err all.spent;
      };
      known = status_known r status ok err;
      later = all.later;
      left = refl;
    }
