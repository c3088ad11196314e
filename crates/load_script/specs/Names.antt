-- The names of a load, as their bytes.
--     the_wavelet, the_document     the wavelet, and the document whose letters are typed and erased
--     user0 .. user3, users     its users
use Rattle.std.specs.Prelude.{List, [], ◌∷◌, codes}
use Rattle.doc_items.specs.Maps.{Key}

unfoldable pub the_wavelet : Key
the_wavelet = codes "load.com/w/load.com/conv+root"

unfoldable pub the_document : Key
the_document = codes "b+1"

unfoldable pub user0 : Key
user0 = codes "u0@load.com"

unfoldable pub user1 : Key
user1 = codes "u1@load.com"

unfoldable pub user2 : Key
user2 = codes "u2@load.com"

unfoldable pub user3 : Key
user3 = codes "u3@load.com"

abbrev pub users : List Key
users = user0 ∷ user1 ∷ user2 ∷ user3 ∷ []
