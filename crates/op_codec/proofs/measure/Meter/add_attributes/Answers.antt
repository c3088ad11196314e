use Rattle.std.proofs.Common.{◌≡◌, ◌+◌, ◌≤◌, length, map, sym, ap, subst, ◌∙◌, List, ◌∷◌, arith}
use Rattle.std.specs.List.{flat_map, AllByRecursion}
use Rattle.std.specs.FinMap as finite
use Rattle.doc_items.specs.Maps.{Key, pair_of}
use Rattle.op_codec.specs.Spelling.{capped, attribute, IsAttribute}
use Rattle.op_codec.proofs.Measures.{one_more, cons_length, count_within, attribute_some}
use Rattle.op_codec.proofs.measure.Meter.add_attributes.Goals as goal

pub loop-key-preserved : goal.loop-key-preserved
loop-key-preserved c =
    let entry : Key × Key = (c.as_str.result.now, c.as_str-in-loop-key.result.now) in
    let same : entry ≡ pair_of (c.in-Some.key.now, c.in-Some.value.now) = λ i. (c.as_str.ensures.value i, c.as_str-in-loop-key.ensures.value i) in
    let rest = map pair_of c.next.new.self in
    let total = length (flat_map attribute (finite.entries c.args.map.now)) in
    let listed : map pair_of c.loop-key.key-iterator ≡ entry ∷ rest = ap (map pair_of) c.in-Some.ensures.steps ∙ ap (λ (e : Key × Key). e ∷ rest) (sym same) in
    let both = cons_length attribute entry rest in
    let within : length (flat_map attribute (entry ∷ rest)) ≤ total = subst (λ (es : List (Key × Key)). length (flat_map attribute es) ≤ total) listed c.loop-key.invariant.within in
    record {
      size = λ n h.
          let k = c.loop-key.invariant.size n h in
          let here : k.0 + length (flat_map attribute (entry ∷ rest)) ≡ total = subst (λ (es : List (Key × Key)). k.0 + length (flat_map attribute es) ≡ total) listed k.2 in
          (k.0 + length (attribute entry), c.add_attribute.ensures.size (n + 4 + k.0) k.1 ∙ ap capped (omega arith), one_more k.0 entry rest total here);
      within = omega (arith, both, within);
      short = λ h all. c.loop-key.invariant.short h (subst (λ (es : List (Key × Key)). AllByRecursion IsAttribute es) (sym listed) (c.add_attribute.ensures.short (omega (arith, both, within, h)), all));
    }

pub returns-clause-short : goal.returns-clause-short
returns-clause-short c = λ h.
    let count = count_within attribute attribute_some (finite.entries c.args.map.now) in
    (omega (arith, count, h), c.loop-key.invariant.short (omega (arith, h)) (subst (λ (es : List (Key × Key)). AllByRecursion IsAttribute es) (sym (ap (map pair_of) c.in-None.ensures.steps.0)) tt))
