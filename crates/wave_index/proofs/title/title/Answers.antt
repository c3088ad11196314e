use Rattle.std.proofs.Common.{◌≡◌, ◌+◌, ◌≤◌, ◌++◌, ℕ, List, length, drop, sym, ap, subst, ◌∙◌, IfOk}
use Rattle.wave_index.specs.Titles.{max_title, is_whole}
use Rattle.wave_index.proofs.Titles.{rest_of, one_more, still_short, whole}
use Rattle.wave_index.proofs.title.title.Goals as goal

pub returns-then-is_whole : goal.returns-then-is_whole
returns-then-is_whole c =
    let t = c.loop-place.text.items in
    let is = ap (λ (x : List ℕ). is_whole x c.in-Some.item.now.content) (sym c.as_slice-in-loop-place.ensures.value) ∙ sym c.is_whole.ensures ∙ c.if-is_whole.true in
    subst (λ (x : List ℕ). IfOk c.text_of-then-is_whole.result (λ z. z ≡ x))
    (c.as_slice-then-is_whole.ensures.value ∙ sym (whole t c.args.document.now c.loop-place.place c.in-Some.item.now (sym c.in-Some.ensures) is) ∙ c.loop-place.invariant.read) c.text_of-then-is_whole.ensures

pub loop-place-preserved : goal.loop-place-preserved
loop-place-preserved c =
    let t = c.loop-place.text.items in
    let more = ap (λ (x : List ℕ). is_whole x c.in-Some.item.now.content) (sym c.as_slice-in-loop-place.ensures.value) ∙ sym c.is_whole.ensures ∙ c.if-is_whole.false in
    record {
      read = ap (λ (x : List ℕ). x ++ rest_of x (drop (c.loop-place.place + 1) c.args.document.now)) c.in_ok-put_shown.ensures
          ∙ one_more t c.args.document.now c.loop-place.place c.in-Some.item.now (sym c.in-Some.ensures) c.loop-place.invariant.short more
          ∙ c.loop-place.invariant.read;
      short = subst (λ (x : List ℕ). length x ≤ max_title) (sym c.in_ok-put_shown.ensures) (still_short t c.in-Some.item.now c.loop-place.invariant.short more);
    }
