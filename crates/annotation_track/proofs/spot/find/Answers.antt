use Rattle.std.proofs.Common.{◌≡◌, ◌+◌, ◌-◌, ◌/◌, ◌<◌, ◌∙◌, Less, Equal, Greater, ap, sym, subst, arith, length}
use Rattle.std.proofs.lemmas.List.{get_or_default}
use Rattle.std.specs.Ordering.{nat_cmp}
use Rattle.std.specs.Cmp.Lexicographic.{slice_cmp}
use Rattle.std.specs.Str.{encode_utf8_all}
use Rattle.doc_items.specs.Changes.{same_key}
use Rattle.doc_items.specs.declared.change.Change.{Change}
use Rattle.annotation_track.proofs.Edits.{found_later, found_before, found_here}
use Rattle.annotation_track.proofs.spot.find.Goals as goal

pub loop-low-preserved-in-Less : goal.loop-low-preserved-in-Less
loop-low-preserved-in-Less c =
    let e : slice_cmp nat_cmp (encode_utf8_all c.args.key.now) (encode_utf8_all c.index-list-middle.result.key) ≡ Less =
    ap (λ (x : Change). slice_cmp nat_cmp (encode_utf8_all c.args.key.now) (encode_utf8_all x.key)) c.index-list-middle.is ∙ (λ i. slice_cmp nat_cmp (sym c.as_str.ensures.bytes i) (sym c.as_str-in-loop-low.ensures.bytes i)) ∙ sym c.in-Less.ensures in
    let here : c.loop-low.low + (c.loop-low.high - c.loop-low.low) / 2 < length c.args.list.now = omega (arith, c.loop-low-test.true, c.loop-low.invariant.bound) in
    record {
      order = omega (arith, c.loop-low-test.true);
      bound = omega (arith, here);
      front = c.loop-low.invariant.front;
      back = found_before c.args.list.now (c.loop-low.low + (c.loop-low.high - c.loop-low.low) / 2) c.index-list-middle.result c.args.key.now c.requires here c.index-list-middle.is e;
    }

pub returns-in-Equal : goal.returns-in-Equal
returns-in-Equal c =
    let e : slice_cmp nat_cmp (encode_utf8_all c.args.key.now) (encode_utf8_all c.index-list-middle.result.key) ≡ Equal =
    ap (λ (x : Change). slice_cmp nat_cmp (encode_utf8_all c.args.key.now) (encode_utf8_all x.key)) c.index-list-middle.is ∙ (λ i. slice_cmp nat_cmp (sym c.as_str.ensures.bytes i) (sym c.as_str-in-loop-low.ensures.bytes i)) ∙ sym c.in-Equal.ensures in
    let middle = c.loop-low.low + (c.loop-low.high - c.loop-low.low) / 2 in
    let here : middle < length c.args.list.now = omega (arith, c.loop-low-test.true, c.loop-low.invariant.bound) in (
      here,
      λ d. ap (λ (x : Change). same_key x.key c.args.key.now) (sym (c.index-list-middle.is ∙ get_or_default c.args.list.now middle c.index-list-middle.result d here))
          ∙ found_here c.args.key.now c.index-list-middle.result.key e,
    )

pub loop-low-preserved : goal.loop-low-preserved
loop-low-preserved c =
    let e : slice_cmp nat_cmp (encode_utf8_all c.args.key.now) (encode_utf8_all c.index-list-middle.result.key) ≡ Greater =
    ap (λ (x : Change). slice_cmp nat_cmp (encode_utf8_all c.args.key.now) (encode_utf8_all x.key)) c.index-list-middle.is ∙ (λ i. slice_cmp nat_cmp (sym c.as_str.ensures.bytes i) (sym c.as_str-in-loop-low.ensures.bytes i)) ∙ sym c.in-Greater.ensures in
    let here : c.loop-low.low + (c.loop-low.high - c.loop-low.low) / 2 < length c.args.list.now = omega (arith, c.loop-low-test.true, c.loop-low.invariant.bound) in
    record {
      order = omega (arith, c.loop-low-test.true);
      bound = c.loop-low.invariant.bound;
      front = found_later c.args.list.now (c.loop-low.low + (c.loop-low.high - c.loop-low.low) / 2) c.index-list-middle.result c.args.key.now c.requires here c.index-list-middle.is e;
      back = c.loop-low.invariant.back;
    }
