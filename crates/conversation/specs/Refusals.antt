-- What an edit of a manifest is, and why it is refused.
--     IsTreeEdit op items o     the operation applies to the items and makes of their tree the other one
--     IsAppended op items f cs  the operation inserts the contents at the end of the element that begins at f
--     IsTaken, IsMissing, IsTakenFault, IsAppendFault     why an edit can't be made
--     next_len t items          how many items one blip more takes
--     IsReplyRefused, IsNextRefused, IsDeleteRefused     why each of the edits is refused, the first reason first
use Rattle.std.specs.Prelude.{◌≡◌, ◌⊎◌, ℕ, ◌+◌, ◌<◌, Bool, true, false, cond, List, [], ◌∷◌, length, drop, Option, Some}
use Rattle.doc_items.specs.Limits.{max_count}
use Rattle.doc_items.specs.Maps.{Key}
use Rattle.doc_items.specs.declared.item.Content.{Content}
use Rattle.doc_items.specs.declared.item.Item.{Item}
use Rattle.doc_op.specs.declared.component.Component.{Component}
use Rattle.doc_op.specs.Actions.{actions}
use Rattle.doc_op.specs.Apply.{valid}
use Rattle.doc_op.specs.Normal.{normal_form}
use Rattle.doc_op.specs.Structure.{Structured}
use Rattle.conversation.specs.Edits.{named, is_blip, has, is_taken, is_there}
use Rattle.op_build.specs.Edits.{with_contents}
use Rattle.op_build.specs.Plans.{adding_contents, IsEdit}
use Rattle.conversation.specs.Search.{IsEnd}
use Rattle.conversation.specs.Trees.{start, behind, thread_tree}
use Rattle.conversation.specs.declared.search.Found.{Found}
use Rattle.conversation.specs.declared.fault.ConversationFault.{ConversationFault}
use Rattle.conversation.specs.declared.fault.ConversationFault.TheVariants.{NoBlip, TakenId, CountTooLarge, Memory}
use Rattle.conversation.specs.declared.node.Node.{Node}

pub record IsTreeEdit (op : List Component) (items : List Item) (tree : Option (List Node)) : Type 0 where
  pub out : List Item
  pub makes : valid op items ≡ Some out
  pub is : tree ≡ Some (thread_tree out)
  pub normal : op ≡ normal_form (actions op)
  pub structured : Structured (actions op)

pub record IsAppended (op : List Component) (items : List Item) (f : Found) (contents : List Content) : Type 0 where
  pub behind : ℕ
  pub end : IsEnd f.reading (drop (f.place + 1) items) behind
  pub edit : IsEdit op (adding_contents items (f.place + 1 + behind) contents) items (with_contents items (f.place + 1 + behind) contents)

abbrev pub IsMissing : Key → ConversationFault → Type 0
IsMissing name (NoBlip id) = id ≡ name
IsMissing name (TakenId id) = ⊥
IsMissing name CountTooLarge = ⊥
IsMissing name Memory = Unit {0}

abbrev pub IsTakenFault : (Key → Type 0) → ConversationFault → Type 0
IsTakenFault P (NoBlip id) = ⊥
IsTakenFault P (TakenId id) = P id
IsTakenFault P CountTooLarge = ⊥
IsTakenFault P Memory = Unit {0}

abbrev pub IsAppendFault : ℕ → ConversationFault → Type 0
IsAppendFault n (NoBlip id) = ⊥
IsAppendFault n (TakenId id) = ⊥
IsAppendFault n CountTooLarge = max_count < n
IsAppendFault n Memory = Unit {0}

-- two new ids, of which the fault names the first that is taken
abbrev pub IsTaken : List Node → Key → Key → Key → Type 0
IsTaken ns t n id = ((id ≡ t) × (is_taken t ns ≡ true)) ⊎
    ((id ≡ n) × (is_taken t ns ≡ false) × ((is_taken n ns ≡ true) ⊎ (named n t ≡ true)))

pub record AreNew (ns : List Node) (t n : Key) : Type 0 where
  pub thread : is_taken t ns ≡ false
  pub blip : is_taken n ns ≡ false
  pub differ : named n t ≡ false

abbrev pub IsReplyRefused : List Item → Key → Key → Key → ConversationFault → Type 0
IsReplyRefused items b t n (NoBlip id) = (id ≡ b) × (has (is_blip b) (thread_tree items) ≡ false)
IsReplyRefused items b t n (TakenId id) = (has (is_blip b) (thread_tree items) ≡ true) × IsTaken (thread_tree items) t n id
IsReplyRefused items b t n CountTooLarge = (has (is_blip b) (thread_tree items) ≡ true) × AreNew (thread_tree items) t n
    × (max_count < length items + 4)
IsReplyRefused items b t n Memory = Unit {0}

-- how many items a blip takes at the end of a thread, with the conversation where there is none yet
abbrev pub next_len : Key → List Item → ℕ
next_len [] items = cond (behind start items).found 2 4
next_len (c ∷ cs) items = 2

abbrev pub IsNextRefused : List Item → Key → Key → ConversationFault → Type 0
IsNextRefused items t n (NoBlip id) = (id ≡ t) × (is_there t (thread_tree items) ≡ false)
IsNextRefused items t n (TakenId id) = (id ≡ n) × (is_there t (thread_tree items) ≡ true) × (is_taken n (thread_tree items) ≡ true)
IsNextRefused items t n CountTooLarge = (is_there t (thread_tree items) ≡ true) × (is_taken n (thread_tree items) ≡ false)
    × (max_count < length items + next_len t items)
IsNextRefused items t n Memory = Unit {0}

abbrev pub IsDeleteRefused : List Item → Key → ConversationFault → Type 0
IsDeleteRefused items b (NoBlip id) = (id ≡ b) × (has (is_blip b) (thread_tree items) ≡ false)
IsDeleteRefused items b (TakenId id) = ⊥
IsDeleteRefused items b CountTooLarge = ⊥
IsDeleteRefused items b Memory = Unit {0}
