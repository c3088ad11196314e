-- The edits of a line, each by what stands after its first word.
--     add_of, remove_of, role_of       A;  A and a role
--     type_of, element_of              D PLACE TEXT, where the text may have spaces;  D PLACE KIND
--     erase_of, note_of                D FROM COUNT;  D FROM COUNT KEY, or that and VALUE, which may have spaces
--     reply_of, inline_of              B T N;  B PLACE T N
--     next_of, delete_of               T N, where `-` is the root thread;  B
--     edit_of w t                      the edit of a first word with a text after it; None where the word is none of these
use Rattle.std.specs.Prelude.{ℕ, Bool, cond, List, [], Option, None, Some, codes}
use Rattle.std.specs.Option.{option_map}
use Rattle.doc_items.specs.Maps.{Key, same_text}
use Rattle.wave_base.specs.Grammar.{is_address, before, behind}
use Rattle.wavelet_op.specs.declared.role.Role.{Role}
use Rattle.client_commands.specs.Words.{space, has_space, split, single, checked, role_named, spot_at, stretch_at}
use Rattle.client_commands.specs.declared.command.Edit.{Edit}
use Rattle.client_commands.specs.declared.command.Edit.TheVariants.{Add, Remove, SetRole, Write, Erase, Note, Element, Reply, Inline, Next, Delete}
use Rattle.client_commands.specs.declared.command.Spot.{Spot}
use Rattle.client_commands.specs.declared.command.Stretch.{Stretch}

-- ---- participants

abbrev pub add_of : Key → Option Edit
add_of t = option_map Add (checked (is_address t) t)

abbrev pub remove_of : Key → Option Edit
remove_of t = option_map Remove (checked (is_address t) t)

abbrev pub role_for : Option Key → Option Role → Option Edit
role_for None r = None
role_for (Some a) None = None
role_for (Some a) (Some r) = Some (SetRole a r)

abbrev pub role_of : Key → Option Edit
role_of t = split (λ a r. role_for (checked (is_address a) a) (role_named r)) t

-- ---- documents

abbrev pub type_of : Key → Option Edit
type_of t = split (λ d more. split (λ p text. option_map (λ s. Write s text) (spot_at d p)) more) t

abbrev pub element_of : Key → Option Edit
element_of t = split (λ d more. split (λ p kind. single (λ k. option_map (λ s. Element s k) (spot_at d p)) kind) more) t

abbrev pub erase_of : Key → Option Edit
erase_of t = split (λ d more. split (λ f n. option_map Erase (stretch_at d f n)) more) t

abbrev pub value_of : Key → Option Key
value_of t = cond (has_space t) (Some (behind space t)) None

abbrev pub key_of : Key → Key
key_of t = cond (has_space t) (before space t) t

abbrev pub note_of : Key → Option Edit
note_of t = split (λ d more. split
    (λ f rest. split (λ n words. option_map (λ s. Note s (key_of words) (value_of words)) (stretch_at d f n)) rest) more) t

-- ---- conversations

abbrev pub reply_of : Key → Option Edit
reply_of t = split (λ b more. split (λ thread new. single (λ n. Some (Reply b thread n)) new) more) t

abbrev pub inline_of : Key → Option Edit
inline_of t = split (λ d more. split
    (λ p rest. split (λ thread new. single (λ n. option_map (λ s. Inline s thread n) (spot_at d p)) new) rest) more) t

abbrev pub thread_named : Key → Key
thread_named t = cond (same_text t (codes "-")) [] t

abbrev pub next_of : Key → Option Edit
next_of t = split (λ thread new. single (λ n. Some (Next (thread_named thread) n)) new) t

abbrev pub delete_of : Key → Option Edit
delete_of t = single (λ b. Some (Delete b)) t

-- ---- by the first word

abbrev pub talk_of : Key → Key → Option Edit
talk_of w t = cond (same_text w (codes "reply")) (reply_of t)
    (cond (same_text w (codes "inline")) (inline_of t)
    (cond (same_text w (codes "next")) (next_of t) (cond (same_text w (codes "delete")) (delete_of t) None)))

abbrev pub document_of : Key → Key → Option Edit
document_of w t = cond (same_text w (codes "type")) (type_of t)
    (cond (same_text w (codes "erase")) (erase_of t)
    (cond (same_text w (codes "note")) (note_of t) (cond (same_text w (codes "element")) (element_of t) (talk_of w t))))

abbrev pub edit_of : Key → Key → Option Edit
edit_of w t = cond (same_text w (codes "add")) (add_of t)
    (cond (same_text w (codes "remove")) (remove_of t) (cond (same_text w (codes "role")) (role_of t) (document_of w t)))
