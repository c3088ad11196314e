use Rattle.std.proofs.Common.{◌≡◌, List, ℕ, [], ◌∷◌, ◌++◌, length, ap, sym, ◌∙◌, subst, arith}
use Rattle.delta_journal.specs.File.{blocks}
use Rattle.delta_journal.specs.Stored.{bytes_of, StandFrom}
use Rattle.delta_journal.specs.declared.stored.Stored.{Stored}
use Rattle.delta_journal.proofs.Read.{bytes_of-push, length-blocks-push, read_more, stand_more}
use Rattle.delta_journal.proofs.reading.records_in.Goals as goal

pub loop-behind-preserved : goal.loop-behind-preserved
loop-behind-preserved c =
    let so_far = c.loop-behind.invariant in
    let done = bytes_of c.loop-behind.records in
    let bytes = c.in-Some-record_in.bytes.now in
    let now : bytes_of c.push.new.self ≡ done ++ bytes ∷ [] =
    ap bytes_of c.in_ok-push.ensures ∙ bytes_of-push c.loop-behind.records _ ∙ ap (λ (l : List ℕ). done ++ l ∷ []) c.in_ok-copied.ensures in
    let behind : c.loop-behind.rest.now ≡ 1 ∷ c.in-Some.behind.now = c.in-Some.ensures in
    let read = read_more c.args.rest.now done c.loop-behind.rest.now c.in-Some.behind.now bytes c.in-Some-record_in.next.now so_far.read behind c.in-Some-record_in.ensures.0 in
    record {
      read = read ∙ ap (λ (l : List (List ℕ)). blocks l ++ c.in-Some-record_in.next.now) (sym now);
      some = c.in-Some-record_in.ensures.1;
      at = omega (arith, so_far.at, length-blocks-push done bytes, ap (λ (l : List (List ℕ)). length (blocks l)) now);
      gates = subst (λ (l : List Stored). StandFrom c.args.place l) (sym c.in_ok-push.ensures) (stand_more c.args.place c.loop-behind.records _ so_far.gates so_far.at);
    }
