use Rattle.std.proofs.Common.{◌≡◌, ◌+◌, ◌++◌, [], ◌∷◌, ap, ◌∙◌, arith, string_bytes}
use Rattle.std.specs.Char.{encode_utf8}
use Rattle.std.specs.Str.{chars}
use Rattle.load_script.proofs.Letters.{one_character}
use Rattle.load_script.proofs.planning.letter.Goals as goal

pub returns : goal.returns
returns c =
    let n = 97 + c.args.number in
    let text : string_bytes c.push.new.self ≡ n ∷ [] = c.in_ok-push.ensures.bytes ∙ ap (λ z. z ++ encode_utf8 n) c.new-text.ensures.bytes ∙ c.in_ok-push.ensures.ascii (omega arith) in
    ap chars text ∙ one_character n (omega arith)
