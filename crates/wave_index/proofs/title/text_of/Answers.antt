use Rattle.std.proofs.Common.{◌≡◌, ℕ, List, ◌++◌, ◌∷◌, [], ap, sym, subst, ◌∙◌, take, add-one, append-nil, string_bytes, IfOk}
use Rattle.std.specs.Str.{chars, encode_utf8_all}
use Rattle.std.proofs.Math.Seq.{take-suc}
use Rattle.std.proofs.Math.Utf8.{encode}
use Rattle.std.proofs.lemmas.List.{take_all}
use Rattle.std.proofs.lemmas.Str.{chars_from_encodes, encodes-append, IsUtf8-string_bytes}
use Rattle.wave_index.proofs.title.text_of.Goals as goal

pub loop-c-preserved : goal.loop-c-preserved
loop-c-preserved c =
    let cs = c.args.chars.now in
    let i = c.loop-c.c-index in
    ap encode_utf8_all (ap (λ n. take n cs) (add-one i) ∙ take-suc cs i c.c-item.result c.loop-c-test.true ∙ ap (λ x. take i cs ++ x ∷ []) (sym c.c-item.is))
    ∙ encodes-append (take i cs) (c.c-item.result ∷ [])
    ∙ (λ k. c.loop-c.invariant k ++ append-nil (encode c.c-item.result) k)
    ∙ sym c.in_ok-push.ensures.bytes

pub returns : goal.returns
returns c =
    let cs = c.args.chars.now in
    let whole : take c.loop-c.c-index cs ≡ cs = take_all c.loop-c.c-index cs c.loop-c-test.false in
    let text : chars c.as_str.result.now ≡ cs =
    ap chars c.as_str.ensures.value ∙ sym (chars_from_encodes cs (string_bytes c.loop-c.string) (IsUtf8-string_bytes c.loop-c.string) (ap encode_utf8_all (sym whole) ∙ c.loop-c.invariant)) in
    subst (λ (x : List ℕ). IfOk c.from_str.result (λ t. t ≡ x)) text c.from_str.ensures
