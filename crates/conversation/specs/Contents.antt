-- The contents that an edit inserts.
--     IsStart name m c          an element's start of this type, with these attributes
--     id_of id, thread_of inline id     the attributes of a new blip, and of a new thread
--     IsReply inline t n cs     a thread with one blip
--     IsNext n cs               one blip
--     IsFirst n cs              a conversation with one blip
use Rattle.std.specs.Prelude.{◌≡◌, Bool, true, false, cond, codes, List, [], ◌∷◌, Some}
use Rattle.std.specs.FinMap.{empty}
use Rattle.std.specs.Str.{encode_utf8_all}
use Rattle.std.specs.Prelude.{ℕ}
use Rattle.doc_items.specs.Maps.{Key, Map, set_key}
use Rattle.doc_items.specs.declared.item.Content.{Content}
use Rattle.doc_items.specs.declared.item.Content.TheVariants.{Start, End}

pub record IsStart (name : Key) (m : Map Key) (c : Content) : Type 0 where
  pub kind : List ℕ
  pub is : c ≡ Start kind m
  pub spells : encode_utf8_all kind ≡ name

abbrev pub id_of : Key → Map Key
id_of id = set_key empty (codes "id") (Some id)

abbrev pub thread_of : Bool → Key → Map Key
thread_of false id = id_of id
thread_of true id = set_key (id_of id) (codes "inline") (Some (codes "true"))

pub record IsReply (inline : Bool) (t n : Key) (cs : List Content) : Type 0 where
  pub thread : Content
  pub blip : Content
  pub is : cs ≡ thread ∷ blip ∷ End ∷ End ∷ []
  pub begins : IsStart (codes "thread") (thread_of inline t) thread
  pub holds : IsStart (codes "blip") (id_of n) blip

pub record IsNext (n : Key) (cs : List Content) : Type 0 where
  pub blip : Content
  pub is : cs ≡ blip ∷ End ∷ []
  pub begins : IsStart (codes "blip") (id_of n) blip

pub record IsFirst (n : Key) (cs : List Content) : Type 0 where
  pub root : Content
  pub blip : Content
  pub is : cs ≡ root ∷ blip ∷ End ∷ End ∷ []
  pub begins : IsStart (codes "conversation") empty root
  pub holds : IsStart (codes "blip") (id_of n) blip
